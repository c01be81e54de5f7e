use Rattle.std.proofs.Common.{◌≡◌, ◌++◌, drop}
use Rattle.gl_plane.specs.Listed.{by_news}
use Rattle.gl_plane.proofs.differences.push_by_new.Given as goal

abbrev pub invariant-loop-i : goal.invariant-loop-i
invariant-loop-i l = l.out.items ++ by_news l.mine (drop l.i l.theirs) ≡ l.initial.out.items ++ by_news l.mine l.theirs
