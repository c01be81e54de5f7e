use Rattle.std.proofs.Common.{◌≡◌, ◌++◌, drop}
use Rattle.gl_memo.specs.Notes.{notes_of}
use Rattle.gl_core.specs.State.{note_trees}
use Rattle.gl_core.specs.Ledger.{written, IsLedger}
use Rattle.gl_core.proofs.converting.ledger_of.Given as goal

abbrev pub invariant-loop-i : goal.invariant-loop-i
invariant-loop-i l = record {
  notes : written l.ledger ++ drop l.i (note_trees (notes_of l.notes)) ≡ note_trees (notes_of l.notes);
  kept : IsLedger l.ledger;
}
