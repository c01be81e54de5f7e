use Rattle.std.proofs.Common.{◌≡◌, ap, arith, to_z, of_z, w64}
use Rattle.std.proofs.lemmas.Int.{to_z-of_z}
use Rattle.gl_calculus.specs.Values.ErrKind.{ErrKind}
use Rattle.gl_calculus.specs.Values.Functions.{some_rows}
use Rattle.gl_value.specs.View.{value_tree}
use Rattle.gl_arrays.proofs.Windows.{part_window}
use Rattle.gl_arrays.proofs.parts.spans.Goals as goal

pub returns : goal.returns
returns c =
    let m : to_z w64 (of_z w64 c.in_ok-m.m) ≡ c.in_ok-m.m = grind (arith, to_z-of_z) in
    let n : to_z w64 (of_z w64 c.in_ok-n.n) ≡ c.in_ok-n.n = grind (arith, to_z-of_z) in
    let rows = c.span_of.ensures in
    let cols = c.span_of-2.ensures in
    let extents = c.extents-rows.ensures in
    let same =
    part_window c.args.part (value_tree c.args.v.now) c.in_ok-m.m c.in_ok-n.n _ _ _ _ _ _ c.requires extents.rows extents.cols (rw m at rows.start) (rw m at rows.count) (rw n at cols.start) (rw n at cols.count)
    in
    rw (← c.in_ok-no_error.ensures, ← c.in_ok-m.ensures, ← c.in_ok-n.ensures) (ap (some_rows ErrKind.Value) same)
