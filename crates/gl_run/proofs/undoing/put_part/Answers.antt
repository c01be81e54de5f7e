use Rattle.std.proofs.Common.{arith}
use Rattle.std.proofs.lemmas.Grind.{common_steps}
use Rattle.gl_run.proofs.undoing.put_part.Goals as goal

pub returns-in_ok-push-in-Some-clause-coming : goal.returns-in_ok-push-in-Some-clause-coming
returns-in_ok-push-in-Some-clause-coming c = grind (arith, common_steps)

pub returns-in_ok-push-in-Some-clause-proper : goal.returns-in_ok-push-in-Some-clause-proper
returns-in_ok-push-in-Some-clause-proper c = grind (arith, common_steps)
