use Rattle.std.proofs.Common.{◌≡◌, map}
use Rattle.std.specs.List.{range_with_len}
use Rattle.gl_calculus.specs.Values.Lift.{item}
use Rattle.gl_value.specs.View.{scalar_tree, value_tree}
use Rattle.gl_arrays.proofs.distinct.row_of.Given as goal

abbrev pub invariant-loop-j : goal.invariant-loop-j
invariant-loop-j l = map scalar_tree l.items.items ≡ map (item (value_tree l.v) l.i) (range_with_len 0 l.j)
