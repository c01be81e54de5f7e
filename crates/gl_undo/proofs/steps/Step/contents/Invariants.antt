use Rattle.std.proofs.Common.{◌≡◌, take, length, vec_len, vec_capacity}
use Rattle.gl_undo.specs.View.{step_tree, changes_tree, AreProperChanges}
use Rattle.gl_undo.specs.Sides.{changes_on}
use Rattle.gl_undo.proofs.steps.Step.contents.Given as goal

abbrev pub invariant-loop-c : goal.invariant-loop-c
invariant-loop-c l =
    record {
      value : changes_tree l.list.items ≡ changes_on l.side (step_tree (take l.c-index l.c-items));
      proper : AreProperChanges l.list.items;
      len : vec_len l.list ≡ l.c-index;
      room : vec_capacity l.list ≡ length l.c-items;
    }
