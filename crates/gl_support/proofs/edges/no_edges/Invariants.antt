use Rattle.std.proofs.Common.{◌≡◌, ℕ, [], vec_len}
use Rattle.gl_support.specs.Reach.{row_of}
use Rattle.gl_support.proofs.edges.no_edges.Given as goal

abbrev pub invariant-loop : goal.invariant-loop
invariant-loop l = record {
  none : (a : ℕ) → row_of l.edges.items a ≡ [];
  size : vec_len l.edges ≡ l.counter;
}
