use Rattle.std.proofs.Common.{◌≡◌, take, length}
use Rattle.gl_core.specs.Numbers.{IsIndex}
use Rattle.gl_core.proofs.beginning.index_of.Given as goal

abbrev pub invariant-loop-p : goal.invariant-loop-p
invariant-loop-p l = record {
  index : IsIndex (take l.p l.known) l.at.items;
  size : length l.at.items ≡ l.numbers;
}
