use Rattle.std.proofs.Common.{◌≡◌, drop, map, max}
use Rattle.gl_value.specs.View.{value_tree}
use Rattle.gl_arrays.specs.Stacks.{greatest}
use Rattle.gl_arrays.proofs.stacks.greatest.Given as goal

abbrev pub invariant-loop-v : goal.invariant-loop-v
invariant-loop-v l = max l.most (greatest l.axis (map value_tree (drop l.v-index l.parts))) ≡ greatest l.axis (map value_tree l.parts)
