use Rattle.std.proofs.Common.{◌≡◌, map, take}
use Rattle.gl_demand.specs.View.{read_tree}
use Rattle.gl_demand.specs.Walk.{keys_of}
use Rattle.gl_core.specs.Numbers.{AreNumbers, Grows}
use Rattle.gl_core.specs.Ledger.{IsLedger}
use Rattle.gl_core.proofs.ledger.Ledger.numbers_read.Given as goal

abbrev pub invariant-loop-read : goal.invariant-loop-read
invariant-loop-read l = record {
  numbers : AreNumbers l.self.book l.numbers.items (keys_of (map read_tree (take l.read-index l.reads)));
  grows : Grows l.fn.self.book l.self.book;
  rows : l.self.rows.items ≡ l.fn.self.rows.items;
  kept : IsLedger l.self;
}
