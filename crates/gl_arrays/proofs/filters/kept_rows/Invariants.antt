use Rattle.std.proofs.Common.{◌≡◌, ◌≤◌, vec_len, filter}
use Rattle.std.specs.List.{range_with_len}
use Rattle.gl_value.specs.View.{value_tree}
use Rattle.gl_arrays.specs.Parts.{keeps_row}
use Rattle.gl_arrays.proofs.filters.kept_rows.Given as goal

abbrev pub invariant-loop-i : goal.invariant-loop-i
invariant-loop-i l = (l.kept.items ≡ filter (keeps_row (value_tree l.keep)) (range_with_len 0 l.i)) × (vec_len l.kept ≤ l.i)
