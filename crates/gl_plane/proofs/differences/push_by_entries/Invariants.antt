use Rattle.std.proofs.Common.{◌≡◌, ◌++◌, drop}
use Rattle.gl_plane.specs.Listed.{by_entries}
use Rattle.gl_plane.proofs.differences.push_by_entries.Given as goal

abbrev pub invariant-loop-i : goal.invariant-loop-i
invariant-loop-i l = l.out.items ++ by_entries l.theirs (drop l.i l.mine) ≡ l.initial.out.items ++ by_entries l.theirs l.mine
