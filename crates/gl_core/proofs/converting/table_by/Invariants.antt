use Rattle.std.proofs.Common.{◌≡◌, ◌++◌, drop}
use Rattle.gl_memo.specs.Notes.{notes_of}
use Rattle.gl_core.specs.State.{note_trees}
use Rattle.gl_core.specs.Ledger.{written}
use Rattle.gl_core.proofs.converting.table_by.Given as goal

abbrev pub invariant-loop-i : goal.invariant-loop-i
invariant-loop-i l = note_trees (notes_of l.notes) ++ drop l.i (written l.ledger) ≡ written l.ledger
