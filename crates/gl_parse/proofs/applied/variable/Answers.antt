use Rattle.std.proofs.Common.{ap, ◌∙◌}
use Rattle.gl_parse.specs.Raws.{raw_tree}
use Rattle.gl_parse.proofs.Forms.{tree-Var}
use Rattle.gl_parse.proofs.Others.{no_variable}
use Rattle.gl_parse.proofs.applied.variable.Goals as goal

pub returns-in-Var : goal.returns-in-Var
returns-in-Var c = λ text. ap (raw_tree text) c.in-Var.is ∙ tree-Var text _

pub returns-in_default : goal.returns-in_default
returns-in_default c = λ text. no_variable text c.args.raw.now c.in_default.not-Var
