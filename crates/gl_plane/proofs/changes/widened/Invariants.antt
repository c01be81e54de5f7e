use Rattle.std.proofs.Common.{◌≡◌, ◌||◌, take, true}
use Rattle.gl_calculus.specs.Grid.Grid.{Addr as PlainAddr}
use Rattle.gl_plane.specs.Changes.{is_covered, hull_covers}
use Rattle.gl_plane.proofs.changes.widened.Given as goal

abbrev pub invariant-loop-r : goal.invariant-loop-r
invariant-loop-r l = (a : PlainAddr) → (hull_covers l.fn.hull a || is_covered (take l.r-index l.more) a) ≡ true → hull_covers l.wide a ≡ true
