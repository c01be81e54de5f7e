-- What steps on the entries change, and what stays.
use Rattle.std.specs.Prelude.{◌≡◌, ℕ, set, slice_index, Result, OnOk, OnErr, IfOk}
use Rattle.gl_plane.specs.declared.NoMemory.{NoMemory}
use Rattle.gl_core.specs.Marks.{MarksStay}
use Rattle.gl_core.specs.Table.{marks_of, IsTable, IsNeed}
use Rattle.gl_core.specs.declared.status.Status.TheVariants.{Waiting}
use Rattle.gl_core.specs.declared.answers.Picked.{Picked}
use Rattle.gl_core.specs.declared.answers.Picked.TheVariants.{Full}
use Rattle.gl_core.specs.declared.entries.Entries.{Entries}

-- of each note, the count of passed reads stays
abbrev pub PassedStay : Entries → Entries → Type 0
PassedStay old new = (q : ℕ) → slice_index new.passed.items q ≡ slice_index old.passed.items q

-- the known keys stay, and so do their statuses and those that wait for them
pub record KeysStay (old new : Entries) : Type 0 where
  pub known : new.known.items ≡ old.known.items
  pub statuses : new.statuses.items.items ≡ old.statuses.items.items
  pub waiting : new.waiting.items ≡ old.waiting.items

-- all but the marks stays
pub record OnlyMarksChange (old new : Entries) : Type 0 where
  pub keys : KeysStay old new
  pub passed : new.passed.items ≡ old.passed.items
  pub waited : new.waited.items ≡ old.waited.items
  pub table : IsTable new

-- The key at a place waits for that at another. Without memory its status stays.
pub record WaitsAt {X : Type 0} (p on : ℕ) (old : Entries) (r : Result X NoMemory) (new : Entries) : Type 0 where
  pub known : new.known.items ≡ old.known.items
  pub state : OnOk r (new.statuses.items.items ≡ set old.statuses.items.items p (Waiting on))
  pub err : OnErr r (new.statuses.items.items ≡ old.statuses.items.items)
  pub passed : PassedStay old new
  pub marks : new.marks.items ≡ old.marks.items
  pub table : IsTable new

-- The key at a place needs that of a number. Without memory known keys, statuses and marks stay, and marks where there is no room.
pub record NeedsNumber (p on : ℕ) (old : Entries) (r : Result Picked NoMemory) (new : Entries) : Type 0 where
  pub needs : IfOk r (λ picked. IsNeed old.known.items old.statuses.items.items p on picked new.known.items new.statuses.items.items)
  pub known_err : OnErr r (new.known.items ≡ old.known.items)
  pub err : OnErr r (new.statuses.items.items ≡ old.statuses.items.items)
  pub passed : PassedStay old new
  pub marks : MarksStay (marks_of old) (marks_of new)
  pub marks_err : OnErr r (new.marks.items ≡ old.marks.items)
  pub marks_full : IfOk r (λ picked. picked ≡ Full → new.marks.items ≡ old.marks.items)
  pub table : IsTable new
