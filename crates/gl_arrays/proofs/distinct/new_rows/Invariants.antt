use Rattle.std.proofs.Common.{◌≡◌, ◌≤◌, ◌-◌, ◌++◌, [], map, vec_len}
use Rattle.std.specs.List.{range_with_len}
use lib.Pointwise.{pointwise}
use Rattle.gl_calculus.specs.Computation.Lists.{fresh}
use Rattle.gl_calculus.specs.Values.Same.{same_scalar}
use Rattle.gl_value.specs.View.{scalar_tree, value_tree}
use Rattle.gl_arrays.specs.Parts.{row}
use Rattle.gl_arrays.proofs.distinct.new_rows.Given as goal

abbrev pub invariant-loop-i : goal.invariant-loop-i
invariant-loop-i l =
    (map (row (value_tree l.v)) l.new.items ++ fresh (pointwise same_scalar) (map (λ r. map scalar_tree r.items) l.seen.keys) (map (row (value_tree l.v)) (range_with_len l.i (l.rows - l.i))) ≡ fresh (pointwise same_scalar) [] (map (row (value_tree l.v)) (range_with_len 0 l.rows)))
    × (vec_len l.new ≤ l.i)
