use Rattle.gl_lex.proofs.Fronts.{variable_is}
use Rattle.gl_lex.proofs.scan.variable.Goals as goal

pub returns : goal.returns
returns c = variable_is c.args.bytes.now c.row.result c.requires.some c.requires.letter c.row.ensures.value
