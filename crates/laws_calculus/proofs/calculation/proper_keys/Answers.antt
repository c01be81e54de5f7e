use Rattle.laws_calculus.proofs.Calculus.Proved.{asks_proper, demands_proper}
use Rattle.laws_calculus.proofs.calculation.proper_keys.Goals as goal

pub returns-clause-asked : goal.returns-clause-asked
returns-clause-asked g = asks_proper

pub returns-clause-demanded : goal.returns-clause-demanded
returns-clause-demanded g = demands_proper
