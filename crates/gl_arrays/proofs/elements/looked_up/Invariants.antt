use Rattle.std.proofs.Common.{◌≡◌, ◌-◌}
use Rattle.gl_calculus.specs.Values.Functions.{looked_up}
use Rattle.gl_calculus.specs.Values.Value.{elements}
use Rattle.gl_value.specs.View.{scalar_tree, value_tree}
use Rattle.gl_arrays.specs.Parts.{column_from}
use Rattle.gl_arrays.proofs.elements.looked_up.Given as goal

abbrev pub invariant-loop-i : goal.invariant-loop-i
invariant-loop-i l =
    looked_up (scalar_tree l.x) (column_from (value_tree l.keys) l.i (l.rows - l.i)) (column_from (value_tree l.values) l.i (l.rows - l.i)) ≡ looked_up (scalar_tree l.x) (elements (value_tree l.keys)) (elements (value_tree l.values))
