use Rattle.std.proofs.Common.{◌≡◌, map, take}
use Rattle.gl_demand.specs.View.{key_tree}
use Rattle.gl_core.specs.Numbers.{keys_at}
use Rattle.gl_core.proofs.converting.keys_of.Given as goal

abbrev pub invariant-loop-n : goal.invariant-loop-n
invariant-loop-n l = map key_tree l.keys.items ≡ keys_at l.book (take l.n-index l.numbers)
