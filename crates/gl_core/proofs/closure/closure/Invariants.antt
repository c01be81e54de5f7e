use Rattle.std.proofs.Common.{◌≡◌, ◌-◌, length, vec_len}
use Rattle.gl_core.specs.Resuming.{IsQueue}
use Rattle.gl_core.proofs.Queued.{IsQueued}
use Rattle.gl_core.proofs.closure.closure.Given as goal

abbrev pub invariant-loop-i : goal.invariant-loop-i
invariant-loop-i l = record {
  queue : IsQueue (vec_len l.marks) l.marks.items l.all.items;
  count : vec_len l.marks ≡ length l.ledger.book;
  so_far : IsQueued l.ledger l.fn.seeds.items l.all.items l.i;
}

abbrev pub decreases-loop-i : goal.decreases-loop-i
decreases-loop-i l = length l.ledger.book - l.i
