-- A core in which each key is resolved by its row, or idle.
use Rattle.std.proofs.Common.{◌≡◌, ℕ, ◌<◌, ◌≤◌, length, slice_get, slice_index, Some, inl, sym, ap, ◌∙◌, arith}
use Rattle.gl_calculus.specs.Grid.Limits.{max_demanded}
use Rattle.gl_core.specs.Statuses.{AreCounted}
use Rattle.gl_core.specs.Numbers.{Each, IsIndex}
use Rattle.gl_core.specs.Ledger.{IsLedger}
use Rattle.gl_core.specs.Marks.{TellNothing}
use Rattle.gl_core.specs.Table.{IsCore, AreBegun, marks_of}
use Rattle.gl_core.specs.declared.ledger.Ledger.{Ledger}
use Rattle.gl_core.specs.declared.entries.Entries.{Entries}
use Rattle.gl_core.specs.declared.status.Status.{Status}
use Rattle.gl_core.specs.declared.status.Status.TheVariants.{Waiting, Resolved}
use Rattle.gl_core.proofs.Passed.{none_passed}
use Rattle.gl_core.proofs.Wakes.{get_there, get_within}

pub begun_core : (l : Ledger) (e : Entries) → IsLedger l → Each (λ n. n < length l.book) e.known.items → IsIndex e.known.items e.at.items → length e.statuses.items.items ≡ length e.known.items → length e.waiting.items ≡ length e.known.items →
    length e.known.items ≤ max_demanded → AreCounted e.statuses → AreBegun l.rows.items e.known.items e.statuses.items.items → length e.passed.items ≡ length e.known.items → length e.marks.items ≡ length e.known.items → ((q : ℕ) → slice_index e.passed.items q ≡ 0) → TellNothing (marks_of e) → IsCore l e
begun_core l e h below index size rows few counted begun passed marks none nothing = record {
  ledger = h;
  table = record {
    statuses = size;
    rows = rows;
    few = few;
    counted = counted;
    known = λ q p d. absurd (none_waits q p d);
    listed = λ q p d. absurd (none_waits q p d);
    index = index;
    passed = passed;
    marks = marks;
    waiters = record { waits = λ q p d. absurd (none_waits q p d); tell = λ q m d. inl (nothing q m d) };
  };
  below = below;
  resolved = λ p r d. (let (n, f) = number p (Resolved r) d in let (x, g, i) = begun p n (Resolved r) f d in (x, g, f ∙ ap Some (sym i)));
  passed = none_passed l e none;
}
  where
    number : (p : ℕ) (s : Status) → slice_get e.statuses.items.items p ≡ Some s → (n : ℕ) × (slice_get e.known.items p ≡ Some n)
    number p s d = get_there e.known.items p (let a = get_within e.statuses.items.items p s d in omega (arith, a, size))

    none_waits : (q p : ℕ) → slice_get e.statuses.items.items q ≡ Some (Waiting p) → ⊥
    none_waits q p d = let (n, f) = number q (Waiting p) d in begun q n (Waiting p) f d
