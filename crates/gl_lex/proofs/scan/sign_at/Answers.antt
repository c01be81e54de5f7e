use Rattle.std.proofs.Common.{arith}
use Rattle.std.proofs.lemmas.Grind.{common_steps}
use Rattle.gl_lex.proofs.scan.sign_at.Goals as goal

pub returns-in-62-next : goal.returns-in-62-next
returns-in-62-next c = grind (arith, common_steps)
