use Rattle.std.proofs.Common.{◌≡◌, ◌≤◌, ℕ, length, vec_capacity}
use Rattle.gl_core.specs.Tree.{HasPlace}
use Rattle.gl_core.specs.Statuses.{AreCounted}
use Rattle.gl_core.specs.Table.{AreBegun}
use Rattle.gl_core.proofs.beginning.statuses_of.Given as goal

abbrev pub invariant-loop-n : goal.invariant-loop-n
invariant-loop-n l = record {
  begun : AreBegun l.ledger.rows.items l.known l.statuses.items.items;
  size : length l.statuses.items.items ≡ l.n-index;
  counted : AreCounted l.statuses;
  places : (q : ℕ) → q ≤ length l.known → HasPlace l.statuses.idle q;
  room : length l.known ≤ vec_capacity l.statuses.items;
}
