use Rattle.std.proofs.Common.{arith}
use Rattle.std.proofs.lemmas.Grind.{elements}
use Rattle.gl_core.proofs.statuses.Statuses.wake.Goals as goal

pub returns-else-is_waiting_for-clause-items : goal.returns-else-is_waiting_for-clause-items
returns-else-is_waiting_for-clause-items c = grind (arith, elements)

pub returns-then-is_waiting_for-clause-items : goal.returns-then-is_waiting_for-clause-items
returns-then-is_waiting_for-clause-items c = grind (arith, elements)
