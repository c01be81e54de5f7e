use Rattle.std.proofs.Common.{◌≡◌, drop, map}
use Rattle.gl_value.specs.View.{value_tree}
use Rattle.gl_arrays.specs.Stacks.{stacked}
use Rattle.gl_arrays.proofs.stacks.stacked.Given as goal

abbrev pub invariant-loop-v : goal.invariant-loop-v
invariant-loop-v l = stacked l.axis (map value_tree (drop l.v-index l.parts)) l.at l.across ≡ stacked l.axis (map value_tree l.parts) l.fn.at l.across
