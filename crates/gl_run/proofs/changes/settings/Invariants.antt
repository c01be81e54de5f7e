use Rattle.std.proofs.Common.{◌≡◌, take, length, vec_len, vec_capacity}
use Rattle.gl_calculus.specs.Edits.Sheets.{settings}
use Rattle.gl_cells.specs.Sheet.{sheet}
use Rattle.gl_undo.specs.View.{AreProperChanges, changes_tree}
use Rattle.gl_run.proofs.changes.settings.Given as goal

abbrev pub invariant-loop-entry : goal.invariant-loop-entry
invariant-loop-entry l =
    record {
      value : changes_tree l.list.items ≡ settings (sheet (take l.entry-index l.contents));
      proper : AreProperChanges l.list.items;
      len : vec_len l.list ≡ l.entry-index;
      room : vec_capacity l.list ≡ length l.contents;
    }
