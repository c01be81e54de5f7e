use Rattle.std.proofs.Common.{◌≡◌, ◌≤◌, ◌+◌, ◌++◌, length, vec_len, vec_capacity}
use Rattle.std.specs.Vec.Iter.{into_iter_items}
use Rattle.gl_calculus.specs.Edits.Replicas.{stamped}
use Rattle.gl_merge.specs.Index.{trees}
use Rattle.gl_undo.specs.View.{changes_tree, AreProperChanges}
use Rattle.gl_run.proofs.local.stamped.Given as goal

abbrev pub invariant-loop-place : goal.invariant-loop-place
invariant-loop-place l =
    ((goal.iterator-loop-place).can_next l.place-iterator × (goal.iterator-loop-place).is_finite l.place-iterator)
    × record {
      value : trees l.edits.items ++ stamped l.stamp (changes_tree (into_iter_items l.place-iterator)) ≡ stamped l.stamp (changes_tree l.fn.list.items);
      rest : AreProperChanges (into_iter_items l.place-iterator);
      room : vec_len l.edits + length (into_iter_items l.place-iterator) ≤ vec_capacity l.edits;
    }
