use Rattle.std.proofs.Common.{◌≡◌, ◌≤◌, ◌+◌, vec_len, vec_capacity, length}
use Rattle.std.specs.Vec.Iter.{into_iter_items}
use Rattle.gl_cells.specs.Sheet.{put_each, undo_all, CanUndo, AreProper, IsTable}
use Rattle.gl_cells.proofs.batch.put_each_in.Given as goal

abbrev pub invariant-loop-a : goal.invariant-loop-a
invariant-loop-a l =
    ((goal.iterator-loop-a).can_next l.a-iterator × (goal.iterator-loop-a).is_finite l.a-iterator)
    × record {
      table : IsTable l.map l.forms;
      proper : AreProper (into_iter_items l.a-iterator);
      room : vec_len l.undo + length (into_iter_items l.a-iterator) ≤ vec_capacity l.undo;
      can : CanUndo l.undo.items l.map;
      back : undo_all l.undo.items l.map ≡ undo_all l.fn.undo.items l.fn.map;
      rest : put_each (into_iter_items l.a-iterator) l.map ≡ put_each l.fn.list.items l.fn.map;
    }
