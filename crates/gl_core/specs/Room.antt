-- Room for one more known key, and what stays while it is made.
use Rattle.std.specs.Prelude.{◌≡◌, ◌<◌, ℕ, length, vec_len, vec_capacity}
use Rattle.gl_core.specs.Table.{IsTable}
use Rattle.gl_core.specs.Tree.{HasPlace}
use Rattle.gl_core.specs.Changes.{KeysStay}
use Rattle.gl_core.specs.declared.entries.Entries.{Entries}

-- all that is told of the known keys stays
pub record AllStays (old new : Entries) : Type 0 where
  pub keys : KeysStay old new
  pub passed : new.passed.items ≡ old.passed.items
  pub marks : new.marks.items ≡ old.marks.items
  pub waited : new.waited.items ≡ old.waited.items
  pub table : IsTable new

-- there is room for one more in each list, and a place for the number
pub record HasRoomFor (n : ℕ) (e : Entries) : Type 0 where
  pub known : vec_len e.known < vec_capacity e.known
  pub place : n < length e.at.items
  pub counted : HasPlace e.statuses.idle (length e.statuses.items.items)
  pub statuses : vec_len e.statuses.items < vec_capacity e.statuses.items
  pub waiting : vec_len e.waiting < vec_capacity e.waiting
  pub passed : vec_len e.passed < vec_capacity e.passed
  pub marks : vec_len e.marks < vec_capacity e.marks
