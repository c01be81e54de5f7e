-- Notes in a ledger, and what it keeps.
use Rattle.std.specs.Prelude.{◌<◌, ◌-◌, ◌^◌, length, IfSome}
use Rattle.gl_calculus.specs.Calculation.Memory.{Notes}
use Rattle.gl_core.specs.Numbers.{Each, row_notes, AreBooked, IsBelow, IsIndex, numbers_of}
use Rattle.gl_core.specs.State.{AreSoundNotes}
use Rattle.gl_core.specs.Graph.{IsGraphOf}
use Rattle.gl_core.specs.declared.ledger.Ledger.{Ledger}

abbrev pub written : Ledger → Notes
written l = row_notes l.book l.rows.items

-- distinct numbers of keys in the book, each with the place of its row; the notes are sound, and the graph, if there is one, is theirs
pub record IsLedger (l : Ledger) : Type 0 where
  pub book : AreBooked l.book
  pub below : Each (IsBelow (length l.book)) l.rows.items
  pub index : IsIndex (numbers_of l.rows.items) l.row_of.items
  pub sound : AreSoundNotes (written l)
  pub few : length l.rows.items < 2 ^ 32 - 1
  pub graph : IfSome l.graph (IsGraphOf l.rows.items)
