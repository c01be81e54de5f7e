use Rattle.std.proofs.Common.{◌≡◌, take, map}
use Rattle.gl_calculus.specs.Grid.Grid.{single}
use Rattle.gl_plane.proofs.merging.singles.Given as goal

abbrev pub invariant-loop-a : goal.invariant-loop-a
invariant-loop-a l = l.ranges.items ≡ map single (take l.a-index l.places)
