use Rattle.std.proofs.Common.{◌≡◌, map, take}
use Rattle.gl_calculus.specs.Values.Value as V
use Rattle.gl_calculus.specs.Evaluation.Key as K
use Rattle.gl_core.specs.Numbers.{AreNumbers, Grows}
use Rattle.gl_core.specs.Ledger.{IsLedger}
use Rattle.gl_core.proofs.resuming.top_numbers.Given as goal

abbrev pub invariant-loop-a : goal.invariant-loop-a
invariant-loop-a l = record {
  numbers : AreNumbers l.ledger.book l.numbers.items (map (K.Cell V.Top) (take l.a-index l.places));
  grows : Grows l.fn.ledger.book l.ledger.book;
  rows : l.ledger.rows.items ≡ l.fn.ledger.rows.items;
  kept : IsLedger l.ledger;
}
