use Rattle.std.proofs.Common.{◌≡◌, ◌≤◌, ◌+◌, ◌*◌, take, vec_len, vec_capacity}
use Rattle.gl_core.specs.Dropped.{DropsRows, IsSearched}
use Rattle.gl_core.proofs.ledger.Ledger.drop_rows.Given as goal

abbrev pub invariant-loop-n : goal.invariant-loop-n
invariant-loop-n l = record {
  drops : DropsRows l.fn.self l.self (take l.n-index l.numbers) l.fn.moved.items l.moved.items;
  kept : IsSearched l.self;
  room : vec_len l.moved ≤ vec_len l.fn.moved + 2 * l.n-index;
  capacity : vec_capacity l.moved ≡ vec_capacity l.fn.moved;
}
