use Rattle.std.proofs.Common.{arith}
use Rattle.std.proofs.lemmas.Grind.{common_steps}
use Rattle.gl_demand.proofs.applying.by_number.Goals as goal

pub returns-in-empty-clause-value : goal.returns-in-empty-clause-value
returns-in-empty-clause-value c = grind (arith, common_steps)

pub returns-in-len1-clause-value : goal.returns-in-len1-clause-value
returns-in-len1-clause-value c = grind (arith, common_steps)

pub returns-in-len2-clause-value : goal.returns-in-len2-clause-value
returns-in-len2-clause-value c = grind (arith, common_steps)

pub returns-in-len3-clause-value : goal.returns-in-len3-clause-value
returns-in-len3-clause-value c = grind (arith, common_steps)
