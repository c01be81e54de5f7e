use Rattle.std.proofs.Common.{◌≡◌, ℕ, take, vec_len}
use Rattle.gl_support.specs.Reach.{is_marked, has}
use Rattle.gl_core.proofs.closure.marked.Given as goal

abbrev pub invariant-loop-n : goal.invariant-loop-n
invariant-loop-n l = record {
  marks : (k : ℕ) → is_marked l.marks.items k ≡ has (take l.n-index l.numbers) k;
  size : vec_len l.marks ≡ l.count;
}
