use Rattle.std.proofs.Common.{◌≡◌, ◌++◌}
use Rattle.std.specs.Vec.Iter.{into_iter_items}
use Rattle.gl_cells.specs.Sheet.{sheet, AreProper}
use Rattle.gl_undo.specs.View.{changes_tree, AreProperChanges}
use Rattle.gl_calculus.specs.Edits.Sheets.{coming}
use Rattle.gl_protocol.specs.Run.Touched.{going}
use Rattle.gl_run.proofs.undoing.parted.Given as goal

abbrev pub invariant-loop-a : goal.invariant-loop-a
invariant-loop-a l =
    ((goal.iterator-loop-a).can_next l.a-iterator × (goal.iterator-loop-a).is_finite l.a-iterator)
    × record {
      comes : sheet l.coming.items ++ coming (changes_tree (into_iter_items l.a-iterator)) ≡ coming (changes_tree l.fn.list.items);
      goes : l.going.items ++ going (changes_tree (into_iter_items l.a-iterator)) ≡ going (changes_tree l.fn.list.items);
      proper : AreProper l.coming.items;
      rest : AreProperChanges (into_iter_items l.a-iterator);
    }
