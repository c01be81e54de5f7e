use Rattle.std.proofs.Common.{◌≡◌, ◌||◌, ℕ, take, vec_len}
use Rattle.gl_support.specs.Reach.{is_marked, has}
use Rattle.gl_support.proofs.row.mark_all.Given as goal

abbrev pub invariant-loop-k : goal.invariant-loop-k
invariant-loop-k l = record {
  marks : (i : ℕ) → is_marked l.marks.items i ≡ (is_marked l.fn.marks.items i || has (take l.k-index l.numbers) i);
  size : vec_len l.marks ≡ vec_len l.fn.marks;
}
