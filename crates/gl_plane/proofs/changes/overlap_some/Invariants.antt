use Rattle.std.proofs.Common.{length, ◌-◌, ◌≡◌, drop}
use Rattle.std.specs.List.{list_any}
use Rattle.gl_calculus.specs.Grid.Grid.{addresses, covers}
use Rattle.gl_plane.proofs.changes.overlap_some.Given as goal

-- No range that was passed shares an address.
abbrev pub invariant-loop-i : goal.invariant-loop-i
invariant-loop-i l = list_any (λ c. list_any (covers c) (addresses l.r)) (drop l.i l.ranges) ≡ list_any (λ c. list_any (covers c) (addresses l.r)) l.ranges

abbrev pub decreases-loop-i : goal.decreases-loop-i
decreases-loop-i l = length l.ranges - l.i
