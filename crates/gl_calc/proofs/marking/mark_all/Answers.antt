use Rattle.std.proofs.Common.{arith}
use Rattle.std.proofs.lemmas.Grind.{common_steps}
use Rattle.gl_calc.proofs.marking.mark_all.Goals as goal

pub loop-a-preserved : goal.loop-a-preserved
loop-a-preserved c = grind (arith, common_steps)

pub returns-clause-items : goal.returns-clause-items
returns-clause-items c = grind (arith, common_steps)
