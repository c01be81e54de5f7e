use Rattle.std.proofs.Common.{take}
use Rattle.gl_plane.specs.Changes.{AreHulls, AreWider}
use Rattle.gl_plane.proofs.changes.widen_all.Given as goal

-- The hulls are no smaller than before, and cover the ranges that were passed.
abbrev pub invariant-loop-i : goal.invariant-loop-i
invariant-loop-i l = AreWider l.initial.hulls.items l.hulls.items × AreHulls l.from (take l.i l.more) l.hulls.items
