use Rattle.std.proofs.Common.{◌≡◌, ◌≤◌, length, vec_len}
use Rattle.gl_support.proofs.Following.{Follows}
use Rattle.gl_support.proofs.pass.wanted.Given as goal

abbrev pub invariant-loop-i : goal.invariant-loop-i
invariant-loop-i g l = record {
  follows : Follows l.rows l.seeds l.i l.marks.items;
  size : vec_len l.marks ≡ l.numbers;
  low : l.i ≤ length l.rows;
}

abbrev pub decreases-loop-i : goal.decreases-loop-i
decreases-loop-i g l = l.i
