use Rattle.std.proofs.Common.{ap, sym, ◌∙◌}
use Rattle.gl_language.specs.Reading.Grammar as G
use Rattle.gl_parse.specs.Raws.{raw_tree}
use Rattle.gl_parse.proofs.Forms.{tree-At, tree-Corners}
use Rattle.gl_parse.proofs.Others.{no_place}
use Rattle.gl_parse.proofs.arity.is_place.Goals as goal

pub returns-in-At : goal.returns-in-At
returns-in-At c = λ text. sym (ap (λ z. G.is_place (raw_tree text z)) c.in-At.is ∙ ap G.is_place (tree-At text _))

pub returns-in-Corners : goal.returns-in-Corners
returns-in-Corners c = λ text. sym (ap (λ z. G.is_place (raw_tree text z)) c.in-Corners.is ∙ ap G.is_place (tree-Corners text _ _))

pub returns-in_default : goal.returns-in_default
returns-in_default c = λ text. sym (no_place text c.args.raw.now c.in_default.not-At c.in_default.not-Corners)
