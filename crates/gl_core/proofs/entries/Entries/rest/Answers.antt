use Rattle.std.proofs.Common.{◌≡◌, ◌+◌, ◌<◌, ℕ, List, [], true, false, length, slice_get, Some, inl, inr, refl, sym, ap, subst, ◌∙◌, arith}
use Rattle.gl_machine.specs.Ahead.Reading.{Nothing}
use Rattle.gl_demand.specs.Marks.{PlainMark, mark_trees}
use Rattle.gl_core.specs.Statuses.{has}
use Rattle.gl_core.specs.Marks.{TellNothing}
use Rattle.gl_core.specs.Rested.{NoneWaits}
use Rattle.gl_core.specs.Table.{AreWaiters, waiters}
use Rattle.gl_core.specs.declared.status.Status.TheVariants.{Waiting}
use Rattle.gl_core.proofs.entries.Entries.rest.Goals as goal

pub reopen_each-requires-clause-few : goal.reopen_each-requires-clause-few
reopen_each-requires-clause-few c = omega (arith, c.requires.statuses, c.requires.few)

pub reopen_each-requires-clause-counted : goal.reopen_each-requires-clause-counted
reopen_each-requires-clause-counted c = c.requires.counted

pub returns : goal.returns
returns c =
    let s = c.args.self.now in
    let t = c.requires in
    let r = c.reopen_each.ensures in
    let none : NoneWaits c.reopen_each.new.statuses.items.items = λ q p d. (let no : false ≡ true = r.none.waits q p d in cc no) in
    let nothing : TellNothing (mark_trees c.reopen_each.new.marks.items) = λ q m d. elim (r.none.tell q m d) [
      | inl a ↦ a
      | inr a ↦ absurd (cc a)
    ] in
    record {
      known = refl;
      passed = refl;
      statuses = r.statuses;
      none = none;
      marks = nothing;
      table = record {
        statuses = r.statuses.size ∙ t.statuses;
        rows = c.clear_lists.ensures ∙ t.rows;
        few = t.few;
        counted = r.counted;
        known = λ q p d. absurd (none q p d);
        listed = λ q p d. absurd (none q p d);
        index = t.index;
        passed = t.passed;
        marks = r.size ∙ t.marks;
        waiters = record { waits = λ q p d. absurd (none q p d); tell = λ q m d. inl (nothing q m d) };
      };
    }
