-- What keys of a kind allow.
use Rattle.std.proofs.Common.{ℕ, [], arith}
use Rattle.gl_calculus.specs.Evaluation.Key.{Key}
use Rattle.gl_calculus.specs.Evaluation.World.{World}
use Rattle.gl_calculus.specs.Steps.Allowance.{Allows}

-- no keys allow no steps
pub no_steps : (W : World) (kind : Key → Type 0) (n : ℕ) → Allows W kind n n
no_steps W kind n = record {
  keys = [];
  distinct = tt;
  few = omega arith;
  each = λ k m. absurd m;
  most = λ cs e r. omega arith;
  later = omega arith;
}

-- keys of a kind are keys of a wider one
pub allows_wider : {W : World} {kind wider : Key → Type 0} {n m : ℕ} → Allows W kind n m → ((k : Key) → kind k → wider k) → Allows W wider n m
allows_wider a f = record {
  keys = a.keys;
  distinct = a.distinct;
  few = a.few;
  each = λ k i. f k (a.each k i);
  most = a.most;
  later = a.later;
}
