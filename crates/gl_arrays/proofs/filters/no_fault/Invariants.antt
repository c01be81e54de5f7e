use Rattle.std.proofs.Common.{◌≡◌, ◌-◌}
use Rattle.gl_calculus.specs.Values.Functions.{first_fault, truth_fault}
use Rattle.gl_value.specs.View.{value_tree}
use Rattle.gl_arrays.specs.Parts.{column_from}
use Rattle.gl_arrays.proofs.filters.no_fault.Given as goal

abbrev pub invariant-loop-i : goal.invariant-loop-i
invariant-loop-i l =
    first_fault truth_fault (column_from (value_tree l.keep) l.i (l.rows - l.i)) ≡ first_fault truth_fault (column_from (value_tree l.keep) 0 l.rows)
