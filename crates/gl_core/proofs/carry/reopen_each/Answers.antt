use Rattle.std.proofs.Common.{◌≡◌, ◌+◌, ℕ, List, ◌∷◌, [], length, drop, set, slice_index_or, refl, sym, ap, subst, ◌∙◌, arith}
use Rattle.std.proofs.lemmas.List.{length-set}
use Rattle.gl_machine.specs.Ahead.Reading.{Nothing}
use Rattle.gl_demand.specs.Marks.{PlainMark, mark_tree, mark_trees}
use Rattle.gl_core.specs.Table.{AreWaiters, waiters}
use Rattle.gl_core.specs.Rested.{AreReopened, reopened_at}
use Rattle.gl_core.specs.declared.status.Status.{Status}
use Rattle.gl_core.proofs.Numbered.{length-map}
use Rattle.gl_core.proofs.Carried.{drop_or, drop_all, reopened_none, reopened_more, waiters_less}
use Rattle.gl_core.proofs.carry.reopen_each.Goals as goal

pub loop-wait-init : goal.loop-wait-init
loop-wait-init c = record {
  counted = c.requires.counted;
  statuses = reopened_none c.args.statuses.now.items.items;
  left = c.requires.all;
  size = refl;
}

pub reopen-requires-clause-few : goal.reopen-requires-clause-few
reopen-requires-clause-few c = omega (arith, c.loop-wait.invariant.statuses.size, c.requires.few)

pub reopen-requires-clause-counted : goal.reopen-requires-clause-counted
reopen-requires-clause-counted c = c.loop-wait.invariant.counted

pub loop-wait-preserved : goal.loop-wait-preserved
loop-wait-preserved c =
    let ws = c.args.waited.now in
    let i = c.loop-wait.wait-index in
    let w = slice_index_or ws i (0, 0) in
    let inv = c.loop-wait.invariant in
    let ss = c.loop-wait.statuses.items.items in
    let ms = mark_trees c.loop-wait.marks.items in
    let new : c.reopen.new.statuses.items.items ≡ reopened_at w.0 ss = c.reopen.ensures.items in
    let marks : mark_trees c.unmark.new.marks.items ≡ set ms w.0 (Nothing, 0) = c.unmark.ensures in
    let left : AreWaiters (waiters (w ∷ drop (i + 1) ws)) ss ms = subst (λ (xs : List (ℕ × ℕ)). AreWaiters (waiters xs) ss ms) (drop_or ws i (0, 0) c.loop-wait-test.true) inv.left in
    record {
      counted = c.reopen.ensures.counted;
      statuses = subst (λ (xs : List Status). AreReopened c.args.statuses.now.items.items xs) (sym new) (reopened_more c.args.statuses.now.items.items ss w.0 inv.statuses);
      left = subst (λ (xs : List PlainMark). AreWaiters (waiters (drop (i + 1) ws)) c.reopen.new.statuses.items.items xs) (sym marks)
          (subst (λ (xs : List Status). AreWaiters (waiters (drop (i + 1) ws)) xs (set ms w.0 (Nothing, 0))) (sym new) (waiters_less w (drop (i + 1) ws) ss ms left));
      size = sym (length-map mark_tree c.unmark.new.marks.items) ∙ ap length marks ∙ length-set ms w.0 (Nothing, 0) ∙ length-map mark_tree c.loop-wait.marks.items ∙ inv.size;
    }

pub returns-clause-none : goal.returns-clause-none
returns-clause-none c =
    subst (λ (xs : List (ℕ × ℕ)). AreWaiters (waiters xs) c.loop-wait.statuses.items.items (mark_trees c.loop-wait.marks.items)) (drop_all c.args.waited.now c.loop-wait.wait-index (omega (arith, c.loop-wait-test.false))) c.loop-wait.invariant.left
