use Rattle.std.proofs.Common.{◌≡◌, ◌+◌, ◌++◌, ◌≤◌, map, find, take, length, slice_get, vec_len, vec_capacity}
use Rattle.gl_calculus.specs.Edits.Sheets.{places_in}
use Rattle.gl_cells.specs.Search.{is_in_play}
use Rattle.gl_cells.specs.Sheet.{sheet}
use Rattle.gl_calc.proofs.marking.mark_in.Given as goal

abbrev pub invariant-loop : goal.invariant-loop
invariant-loop l = record {
  next : find (is_in_play l.r l.after) (map (λ c. c.0) (sheet l.cells)) ≡ slice_get (places_in (sheet l.cells) l.r) l.counter;
  few : l.counter ≤ length (places_in (sheet l.cells) l.r);
  items : l.touched.items ≡ l.fn.touched.items ++ take l.counter (places_in (sheet l.cells) l.r);
  len : vec_len l.touched ≡ vec_len l.fn.touched + l.counter;
  capacity : vec_capacity l.touched ≡ vec_capacity l.fn.touched;
}
