use Rattle.std.proofs.Common.{◌≡◌, ◌≤◌, ◌+◌, ◌++◌, length, vec_len, vec_capacity}
use Rattle.std.specs.List.{AllByRecursion}
use Rattle.std.specs.Vec.Iter.{into_iter_items}
use Rattle.gl_calculus.specs.Edits.Steps as E
use Rattle.gl_cells.specs.Sheet.{sheet}
use Rattle.gl_undo.specs.declared.changes.Change.{Change}
use Rattle.gl_undo.specs.View.{step_tree, changes_tree, IsProperOption, AreProperChanges}
use Rattle.gl_undo.proofs.steps.step_of.Given as goal

abbrev pub invariant-loop-place : goal.invariant-loop-place
invariant-loop-place l =
    ((goal.iterator-loop-place).can_next l.place-iterator × (goal.iterator-loop-place).is_finite l.place-iterator)
    × record {
      value : step_tree l.changes.items ++ E.step_of (sheet l.cells) (changes_tree (into_iter_items l.place-iterator)) ≡ E.step_of (sheet l.cells) (changes_tree l.fn.list.items);
      before : AllByRecursion (λ (c : Change). IsProperOption c.before) l.changes.items;
      after : AllByRecursion (λ (c : Change). IsProperOption c.after) l.changes.items;
      rest : AreProperChanges (into_iter_items l.place-iterator);
      room : vec_len l.changes + length (into_iter_items l.place-iterator) ≤ vec_capacity l.changes;
    }
