use Rattle.std.proofs.Common.{◌≡◌, ℕ, ◌<◌, length, slice_index}
use Rattle.gl_core.proofs.index.forget.Given as goal

abbrev pub invariant-loop-n : goal.invariant-loop-n
invariant-loop-n l = record {
  none : (q : ℕ) → q < l.n → slice_index l.places.items q ≡ 0;
  size : length l.places.items ≡ length l.fn.places.items;
}
