use Rattle.std.proofs.Common.{arith}
use Rattle.std.proofs.lemmas.Grind.{common_steps}
use Rattle.gl_flow.proofs.network.Network.source.Goals as goal

pub index-column-requires : goal.index-column-requires
index-column-requires c = grind (arith, common_steps)

pub index-requires : goal.index-requires
index-requires c = grind (arith, common_steps)

pub returns-clause-inside : goal.returns-clause-inside
returns-clause-inside c = grind (arith, common_steps)

pub returns-clause-value : goal.returns-clause-value
returns-clause-value c = grind (arith, common_steps)
