use Rattle.std.proofs.Common.{arith}
use Rattle.std.proofs.lemmas.Grind.{common_steps}
use Rattle.gl_ast.proofs.literal.hex_digit.Goals as goal

pub returns-else-d-lt10-clause-value : goal.returns-else-d-lt10-clause-value
returns-else-d-lt10-clause-value c = grind (arith, common_steps)
