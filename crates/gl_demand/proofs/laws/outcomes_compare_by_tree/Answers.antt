use Rattle.gl_demand.specs.Equal.{outcome_equal}
use Rattle.gl_demand.proofs.Hashes.{outcome_hash_alike}
use Rattle.gl_demand.proofs.laws.outcomes_compare_by_tree.Goals as goal

pub returns-clause-equal : goal.returns-clause-equal
returns-clause-equal c = outcome_equal

pub returns-clause-hash : goal.returns-clause-hash
returns-clause-hash c = outcome_hash_alike
