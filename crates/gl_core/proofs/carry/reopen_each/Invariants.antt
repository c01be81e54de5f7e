use Rattle.std.proofs.Common.{◌≡◌, length, drop}
use Rattle.gl_demand.specs.Marks.{mark_trees}
use Rattle.gl_core.specs.Statuses.{AreCounted}
use Rattle.gl_core.specs.Table.{AreWaiters, waiters}
use Rattle.gl_core.specs.Rested.{AreReopened}
use Rattle.gl_core.proofs.carry.reopen_each.Given as goal

abbrev pub invariant-loop-wait : goal.invariant-loop-wait
invariant-loop-wait l = record {
  counted : AreCounted l.statuses;
  statuses : AreReopened l.fn.statuses.items.items l.statuses.items.items;
  left : AreWaiters (waiters (drop l.wait-index l.waited)) l.statuses.items.items (mark_trees l.marks.items);
  size : length l.marks.items ≡ length l.fn.marks.items;
}
