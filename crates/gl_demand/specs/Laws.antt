-- Equality and hashing go by the plain keys and outcomes.
use Rattle.gl_value.specs.Laws.{ComparesBy, HashesBy}
use Rattle.gl_demand.specs.View.{key_tree, outcome_tree}
use Rattle.gl_demand.specs.contracts.key.KeyPartialEq.TheImpl.{ghosts as key}
use Rattle.gl_demand.specs.contracts.key.KeyHash.TheImpl.{ghosts as key_hash}
use Rattle.gl_demand.specs.contracts.outcome.OutcomePartialEq.TheImpl.{ghosts as outcome}
use Rattle.gl_demand.specs.contracts.outcome.OutcomeHash.TheImpl.{ghosts as outcome_hash}

abbrev pub KeysCompareByTree : Type 0
KeysCompareByTree = ComparesBy key_tree key.eq

abbrev pub KeysHashByTree : Type 0
KeysHashByTree = HashesBy key_tree key_hash.hash_input

abbrev pub OutcomesCompareByTree : Type 0
OutcomesCompareByTree = ComparesBy outcome_tree outcome.eq

abbrev pub OutcomesHashByTree : Type 0
OutcomesHashByTree = HashesBy outcome_tree outcome_hash.hash_input
