use Rattle.std.proofs.Common.{length, ◌-◌, ◌≡◌, drop}
use Rattle.gl_plane.specs.Reach.{first_from, spills_into}
use Rattle.gl_plane.proofs.reach.meeting_from.Given as goal

-- No entry that was passed meets the range.
abbrev pub invariant-loop-i : goal.invariant-loop-i
invariant-loop-i l = first_from (spills_into l.range) l.i (drop l.i l.entries) ≡ first_from (spills_into l.range) l.from (drop l.from l.entries)

abbrev pub decreases-loop-i : goal.decreases-loop-i
decreases-loop-i l = length l.entries - l.i
