use Rattle.std.proofs.Common.{◌≡◌, ◌<◌, ℕ, List, Some, length, set, slice_get, refl, sym, ap, ◌∙◌, arith}
use Rattle.std.proofs.lemmas.List.{length-set}
use Rattle.gl_demand.specs.Marks.{mark_trees}
use Rattle.gl_core.specs.Table.{status_by, waiters}
use Rattle.gl_core.specs.declared.status.Status.{Status}
use Rattle.gl_core.specs.declared.status.Status.TheVariants.{Waiting}
use Rattle.gl_core.proofs.Reading.{same_marks}
use Rattle.gl_core.proofs.Waited.{waiters_kept}
use Rattle.gl_core.proofs.Carried.{waited_before}
use Rattle.gl_core.proofs.entries.Entries.begin_again.Goals as goal

pub set-requires-clause-there : goal.set-requires-clause-there
set-requires-clause-there c = omega (arith, c.requires.table.statuses, c.requires.there)

pub set-requires-clause-few : goal.set-requires-clause-few
set-requires-clause-few c = omega (arith, c.requires.table.statuses, c.requires.table.few)

pub set-requires-clause-counted : goal.set-requires-clause-counted
set-requires-clause-counted c = c.requires.table.counted

pub returns : goal.returns
returns c =
    let s = c.args.self.now in
    let t = c.requires.table in
    let p = c.args.p in
    let v = c.args.row in
    let ss = s.statuses.items.items in
    let new : c.set.new.self.items.items ≡ set ss p (status_by v) = c.set.ensures.items ∙ ap (λ (x : Status). set ss p x) c.status_by.ensures in
    let before = λ (q r : ℕ) (e : slice_get c.set.new.self.items.items q ≡ Some (Waiting r)). waited_before ss p v q r (ap (λ (xs : List Status). slice_get xs q) (sym new) ∙ e) in
    record {
      known = refl;
      statuses = new;
      passed = refl;
      marks = refl;
      table = record {
        statuses = ap length new ∙ length-set ss p (status_by v) ∙ t.statuses;
        rows = t.rows;
        few = t.few;
        counted = c.set.ensures.counted;
        known = λ q r e. t.known q r (before q r e);
        listed = λ q r e. t.listed q r (before q r e);
        index = t.index;
        passed = length-set s.passed.items p 0 ∙ t.passed;
        marks = t.marks;
        waiters = waiters_kept (waiters s.waited.items) ss c.set.new.self.items.items (mark_trees s.marks.items) (mark_trees s.marks.items) before (same_marks s.marks.items s.marks.items refl) t.waiters;
      };
    }
