use Rattle.std.proofs.Common.{◌≡◌, ◌-◌}
use Rattle.gl_flow.specs.Rivals.{rivals_from}
use Rattle.gl_flow.proofs.rivals.rival.Given as goal

abbrev pub invariant-loop-j : goal.invariant-loop-j
invariant-loop-j l = rivals_from l.areas l.area l.k l.from ≡ rivals_from l.areas l.area l.k l.j

abbrev pub decreases-loop-j : goal.decreases-loop-j
decreases-loop-j l = l.k - l.j
