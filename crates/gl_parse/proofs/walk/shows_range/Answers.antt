use Rattle.std.proofs.Common.{ap, sym, ◌∙◌}
use Rattle.gl_language.specs.Reading.Grammar as G
use Rattle.gl_parse.specs.Raws.{raw_tree}
use Rattle.gl_parse.proofs.Forms.{tree-Corners}
use Rattle.gl_parse.proofs.Others.{no_range}
use Rattle.gl_parse.proofs.walk.shows_range.Goals as goal

pub returns-in-Corners : goal.returns-in-Corners
returns-in-Corners c = c.is_bad_range.ensures ∙ sym (ap (λ z. G.is_bad_range (raw_tree c.args.text.now z)) c.in-Corners.is ∙ ap G.is_bad_range (tree-Corners c.args.text.now _ _))

pub returns-in_default : goal.returns-in_default
returns-in_default c = sym (no_range c.args.text.now c.args.raw.now c.in_default.not-Corners)
