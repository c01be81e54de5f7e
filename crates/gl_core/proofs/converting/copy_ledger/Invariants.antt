use Rattle.std.proofs.Common.{◌≡◌, ◌++◌, drop}
use Rattle.gl_core.specs.Ledger.{written, IsLedger}
use Rattle.gl_core.proofs.converting.copy_ledger.Given as goal

abbrev pub invariant-loop-i : goal.invariant-loop-i
invariant-loop-i l = record {
  notes : written l.copy ++ drop l.i (written l.ledger) ≡ written l.ledger;
  kept : IsLedger l.copy;
}
