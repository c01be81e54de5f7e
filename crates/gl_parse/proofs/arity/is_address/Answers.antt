use Rattle.std.proofs.Common.{ap, sym, ◌∙◌}
use Rattle.gl_language.specs.Reading.Grammar as G
use Rattle.gl_parse.specs.Raws.{raw_tree}
use Rattle.gl_parse.proofs.Forms.{tree-At}
use Rattle.gl_parse.proofs.Others.{no_address}
use Rattle.gl_parse.proofs.arity.is_address.Goals as goal

pub returns-in-At : goal.returns-in-At
returns-in-At c = λ text. sym (ap (λ z. G.is_address (raw_tree text z)) c.in-At.is ∙ ap G.is_address (tree-At text _))

pub returns-in_default : goal.returns-in_default
returns-in_default c = λ text. sym (no_address text c.args.raw.now c.in_default.not-At)
