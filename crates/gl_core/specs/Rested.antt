-- What known keys are at the end of a round, when nothing waits any more.
use Rattle.std.specs.Prelude.{◌≡◌, ◌⊎◌, ℕ, ◌<◌, List, length, slice_get, slice_index, set, Option, Some, None, Bool, true, false, cond}
use Rattle.gl_calculus.specs.Computation.Lists.{Member}
use Rattle.gl_core.specs.Marks.{TellNothing}
use Rattle.gl_core.specs.Numbers.{Each, numbers_of}
use Rattle.gl_core.specs.Statuses.{has}
use Rattle.gl_core.specs.Table.{IsTable, IsBegun, AreBegun, status_by, marks_of}
use Rattle.gl_core.specs.declared.status.Status.{Status}
use Rattle.gl_core.specs.declared.status.Status.TheVariants.{Idle, Waiting, Resolved}
use Rattle.gl_core.specs.declared.ledger.Ledger.{Ledger}
use Rattle.gl_core.specs.declared.entries.Entries.{Entries}

abbrev pub is_waiting : Option Status → Bool
is_waiting None = false
is_waiting (Some Idle) = false
is_waiting (Some (Waiting p)) = true
is_waiting (Some (Resolved r)) = false

-- the statuses after one that waits came to be idle
abbrev pub reopened_at : ℕ → List Status → List Status
reopened_at q ss = cond (is_waiting (slice_get ss q)) (set ss q Idle) ss

-- each status is as it was, or is idle where it waited
pub record AreReopened (old new : List Status) : Type 0 where
  pub size : length new ≡ length old
  pub each : (q : ℕ) (s : Status) → slice_get new q ≡ Some s → (slice_get old q ≡ Some s) ⊎ ((s ≡ Idle) × (p : ℕ) × (slice_get old q ≡ Some (Waiting p)))

-- nothing waits
abbrev pub NoneWaits : List Status → Type 0
NoneWaits ss = (q p : ℕ) → slice_get ss q ≡ Some (Waiting p) → ⊥

-- what waited is idle, and no mark tells anything; all else stays
pub record IsRestOf (old new : Entries) : Type 0 where
  pub known : new.known.items ≡ old.known.items
  pub passed : new.passed.items ≡ old.passed.items
  pub statuses : AreReopened old.statuses.items.items new.statuses.items.items
  pub none : NoneWaits new.statuses.items.items
  pub marks : TellNothing (marks_of new)
  pub table : IsTable new

-- each known key is resolved by its row, or has none and is idle; each row is of a known key
pub record IsRested (l : Ledger) (e : Entries) : Type 0 where
  pub table : IsTable e
  pub below : Each (λ n. n < length l.book) e.known.items
  pub begun : AreBegun l.rows.items e.known.items e.statuses.items.items
  pub none : (p n : ℕ) → slice_get e.known.items p ≡ Some n → (Member n (numbers_of l.rows.items) → ⊥) → slice_index e.passed.items p ≡ 0
  pub marks : TellNothing (marks_of e)
  pub all : (n : ℕ) → Member n (numbers_of l.rows.items) → Member n e.known.items

-- the same but for these numbers, whose rows went or moved
pub record AreBegunBut (l : Ledger) (ns : List ℕ) (e : Entries) : Type 0 where
  pub begun : (p n : ℕ) (s : Status) → slice_get e.known.items p ≡ Some n → slice_get e.statuses.items.items p ≡ Some s → (has ns n ≡ true) ⊎ IsBegun l.rows.items n s
  pub none : (p n : ℕ) → slice_get e.known.items p ≡ Some n → (Member n (numbers_of l.rows.items) → ⊥) → (has ns n ≡ true) ⊎ (slice_index e.passed.items p ≡ 0)

-- the key at a place has the status of its row, or of none; all else stays
pub record IsBegunAgain (p : ℕ) (row : Option ℕ) (old new : Entries) : Type 0 where
  pub known : new.known.items ≡ old.known.items
  pub statuses : new.statuses.items.items ≡ set old.statuses.items.items p (status_by row)
  pub passed : new.passed.items ≡ set old.passed.items p 0
  pub marks : new.marks.items ≡ old.marks.items
  pub table : IsTable new

-- fewer numbers are left whose statuses are to be read anew
pub record FollowsTo (l : Ledger) (ns : List ℕ) (old new : Entries) : Type 0 where
  pub known : new.known.items ≡ old.known.items
  pub marks : new.marks.items ≡ old.marks.items
  pub begun : AreBegunBut l ns new
  pub table : IsTable new
