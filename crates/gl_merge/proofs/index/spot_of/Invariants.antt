use Rattle.std.proofs.Common.{◌-◌, ◌≤◌, length}
use Rattle.gl_merge.specs.Index.{places}
use Rattle.gl_merge.specs.Spot.{AreBefore, AreAfter}
use Rattle.gl_merge.proofs.index.spot_of.Given as goal

abbrev pub invariant-loop-low : goal.invariant-loop-low
invariant-loop-low l =
    record {
      order : l.low ≤ l.high;
      within : l.high ≤ length l.index;
      before : AreBefore (places l.index) l.a l.low;
      after : AreAfter (places l.index) l.a l.high;
    }

abbrev pub decreases-loop-low : goal.decreases-loop-low
decreases-loop-low l = l.high - l.low
