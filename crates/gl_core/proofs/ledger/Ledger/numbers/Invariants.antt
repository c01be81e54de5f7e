use Rattle.std.proofs.Common.{◌≡◌, map, take}
use Rattle.gl_demand.specs.View.{key_tree}
use Rattle.gl_core.specs.Numbers.{AreNumbers, Grows}
use Rattle.gl_core.specs.Ledger.{IsLedger}
use Rattle.gl_core.proofs.ledger.Ledger.numbers.Given as goal

abbrev pub invariant-loop-key : goal.invariant-loop-key
invariant-loop-key l = record {
  numbers : AreNumbers l.self.book l.numbers.items (map key_tree (take l.key-index l.keys));
  grows : Grows l.fn.self.book l.self.book;
  rows : l.self.rows.items ≡ l.fn.self.rows.items;
  kept : IsLedger l.self;
}
