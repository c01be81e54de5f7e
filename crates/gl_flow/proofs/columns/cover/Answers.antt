use Rattle.std.proofs.Common.{arith}
use Rattle.std.proofs.lemmas.Grind.{elements}
use Rattle.gl_flow.proofs.columns.cover.Goals as goal

pub returns-else-area-from : goal.returns-else-area-from
returns-else-area-from c = grind (arith, elements)

pub returns-in-None : goal.returns-in-None
returns-in-None c = grind (arith, elements)

pub returns-in-Some-None : goal.returns-in-Some-None
returns-in-Some-None c = grind (arith, elements)

pub returns-in_ok-push-in-Some-Some : goal.returns-in_ok-push-in-Some-Some
returns-in_ok-push-in-Some-Some c = grind (arith, elements)
