use Rattle.std.proofs.Common.{◌≡◌, length, take}
use Rattle.gl_core.specs.Numbers.{numbers_of, IsIndex}
use Rattle.gl_core.proofs.ledger.number_rows.Given as goal

abbrev pub invariant-loop-r : goal.invariant-loop-r
invariant-loop-r l = record {
  index : IsIndex (take l.r (numbers_of l.rows)) l.places.items;
  size : length l.places.items ≡ length l.fn.places.items;
}
