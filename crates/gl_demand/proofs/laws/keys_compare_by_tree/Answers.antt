use Rattle.gl_demand.specs.Equal.{key_equal}
use Rattle.gl_demand.proofs.Hashes.{key_hash_alike}
use Rattle.gl_demand.proofs.laws.keys_compare_by_tree.Goals as goal

pub returns-clause-equal : goal.returns-clause-equal
returns-clause-equal c = key_equal

pub returns-clause-hash : goal.returns-clause-hash
returns-clause-hash c = key_hash_alike
