use Rattle.std.proofs.Common.{drop}
use Rattle.gl_core.specs.Rested.{FollowsTo}
use Rattle.gl_core.proofs.entries.Entries.follow.Given as goal

abbrev pub invariant-loop-n : goal.invariant-loop-n
invariant-loop-n l = record {
  left : FollowsTo l.ledger (drop l.n-index l.changed) l.fn.self l.self;
}
