use Rattle.std.proofs.Common.{◌≡◌, ◌+◌, ◌*◌, ◌≤◌, drop, map}
use Rattle.gl_value.specs.View.{value_tree}
use Rattle.gl_arrays.specs.Stacks.{total}
use Rattle.gl_arrays.proofs.stacks.total.Given as goal

abbrev pub invariant-loop-v : goal.invariant-loop-v
invariant-loop-v l =
    (l.total + total l.axis (map value_tree (drop l.v-index l.parts)) ≡ total l.axis (map value_tree l.parts))
    × (l.total ≤ 65536 * l.v-index)
