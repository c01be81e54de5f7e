-- What stays while room is made for one more known key.
use Rattle.std.proofs.Common.{◌≡◌, ℕ, List, length, slice_get, slice_index, sym, ap, ◌∙◌, subst}
use Rattle.gl_core.specs.Statuses.{AreCounted}
use Rattle.gl_core.specs.Numbers.{IsIndex}
use Rattle.gl_core.specs.Table.{AreWaiters, waiters, marks_of, IsTable}
use Rattle.gl_core.specs.Room.{AllStays}
use Rattle.gl_core.specs.declared.entries.Entries.{Entries}
use Rattle.gl_core.specs.declared.status.Status.{Status}
use Rattle.gl_core.proofs.Numbered.{index_read}
use Rattle.gl_core.proofs.Tables.{table_kept}
use Rattle.gl_core.proofs.Reading.{same_marks}
use Rattle.gl_core.proofs.Waited.{waiters_kept}

-- those that came to wait are the same
stay_waiters : (e e' : Entries) → e'.statuses.items.items ≡ e.statuses.items.items → e'.marks.items ≡ e.marks.items → e'.waited.items ≡ e.waited.items → AreWaiters (waiters e.waited.items) e.statuses.items.items (marks_of e) → AreWaiters (waiters e'.waited.items) e'.statuses.items.items (marks_of e')
stay_waiters e e' s m w a =
    subst (λ (ws : List (ℕ × ℕ)). AreWaiters (waiters ws) e'.statuses.items.items (marks_of e')) (sym w)
    (waiters_kept (waiters e.waited.items) e.statuses.items.items e'.statuses.items.items (marks_of e) (marks_of e') (λ q p d. ap (λ (ss : List Status). slice_get ss q) (sym s) ∙ d) (same_marks e.marks.items e'.marks.items m) a)

-- all stays where numbers, statuses and lists are the same, and places read the same
pub all_stays : (e : Entries) (e' : Entries) → e'.known.items ≡ e.known.items → ((q : ℕ) → slice_index e'.at.items q ≡ slice_index e.at.items q) → e'.statuses.items.items ≡ e.statuses.items.items → e'.waiting.items ≡ e.waiting.items → e'.passed.items ≡ e.passed.items → e'.marks.items ≡ e.marks.items → e'.waited.items ≡ e.waited.items → AreCounted e'.statuses → IsTable e → AllStays e e'
all_stays e e' k at s w passed marks waited counted t = record {
  keys = record { known = k; statuses = s; waiting = w };
  passed = passed;
  marks = marks;
  waited = waited;
  table = table_kept e e' k (subst (λ (ns : List ℕ). IsIndex ns e'.at.items) (sym k) (index_read e.known.items e.at.items e'.at.items at t.index)) s w (ap length passed) (ap length marks) counted (stay_waiters e e' s marks waited t.waiters) t;
}
