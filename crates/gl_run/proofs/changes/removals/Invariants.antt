use Rattle.std.proofs.Common.{◌≡◌, ◌≤◌, map, find, take, length, slice_get}
use Rattle.gl_calculus.specs.Edits.Sheets.{places_in}
use Rattle.gl_cells.specs.Search.{is_in_play}
use Rattle.gl_cells.specs.Sheet.{sheet}
use Rattle.gl_undo.specs.View.{AreProperChanges, changes_tree}
use Rattle.gl_run.proofs.Listed.{nothing_at}
use Rattle.gl_run.proofs.changes.removals.Given as goal

abbrev pub invariant-loop : goal.invariant-loop
invariant-loop l = record {
  next : find (is_in_play l.r l.after) (map (λ c. c.0) (sheet l.cells)) ≡ slice_get (places_in (sheet l.cells) l.r) l.counter;
  few : l.counter ≤ length (places_in (sheet l.cells) l.r);
  items : changes_tree l.list.items ≡ map nothing_at (take l.counter (places_in (sheet l.cells) l.r));
  proper : AreProperChanges l.list.items;
}
