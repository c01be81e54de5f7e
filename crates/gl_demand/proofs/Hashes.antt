-- Equal plain keys and outcomes hash alike.
use Rattle.gl_demand.specs.Equal.{key_equal, outcome_equal}
use Rattle.gl_demand.specs.Laws.{KeysHashByTree, OutcomesHashByTree}
use Rattle.gl_demand.specs.contracts.key.KeyHash.TheImpl.Laws.{respects_eq-law as key_alike}
use Rattle.gl_demand.specs.contracts.outcome.OutcomeHash.TheImpl.Laws.{respects_eq-law as outcome_alike}

pub key_hash_alike : KeysHashByTree
key_hash_alike x y h = key_alike x y ((key_equal x y).1 h)

pub outcome_hash_alike : OutcomesHashByTree
outcome_hash_alike x y h = outcome_alike x y ((outcome_equal x y).1 h)
