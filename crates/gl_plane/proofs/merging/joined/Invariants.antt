use Rattle.std.proofs.Common.{◌≡◌, take}
use Rattle.gl_calculus.specs.Grid.Grid.{Addr as PlainAddr}
use Rattle.gl_plane.specs.Changes.{is_covered}
use Rattle.gl_plane.proofs.merging.joined.Given as goal

abbrev pub invariant-loop-r : goal.invariant-loop-r
invariant-loop-r l = (a : PlainAddr) → is_covered l.fewer.items a ≡ is_covered (take l.r-index l.ranges) a
