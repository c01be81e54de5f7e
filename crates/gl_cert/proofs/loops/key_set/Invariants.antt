use Rattle.std.proofs.Common.{◌≡◌, true, cond, map, drop}
use Rattle.gl_calculus.specs.Computation.Lists.{has_member}
use Rattle.gl_calculus.specs.Evaluation.Key as K
use Rattle.gl_calculus.specs.Evaluation.Key.{same_key}
use Rattle.gl_demand.specs.View.{key_tree}
use Rattle.gl_cert.proofs.loops.key_set.Given as goal

abbrev pub invariant-loop-key : goal.invariant-loop-key
invariant-loop-key l = (j : K.Key) → cond (has_member same_key j (map key_tree l.keys.keys)) true (has_member same_key j (map key_tree (drop l.key-index l.list))) ≡ has_member same_key j (map key_tree l.list)
