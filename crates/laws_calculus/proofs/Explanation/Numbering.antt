-- The number of the first that fails, found by going from one to the next.
use Rattle.std.proofs.Common.{◌≡◌, ℕ, suc, ◌+◌, Bool, true, false, cond, Option, Some, None, option_map, refl, ap, ◌∙◌, arith}

-- so many were passed, and the number of the first of the rest is told from there
abbrev pub further : ℕ → Option ℕ → Option ℕ
further i o = option_map (λ k. i + k) o

pub first_further : (o : Option ℕ) → o ≡ further 0 o
first_further None = refl
first_further (Some k) = ap Some (omega arith)

next_further : (i : ℕ) (o : Option ℕ) → further i (option_map suc o) ≡ further (i + 1) o
next_further i None = refl
next_further i (Some k) = ap Some (omega arith)

-- the next one passes
pub passes : (whole o : Option ℕ) (t : Bool) (i : ℕ) → t ≡ true → whole ≡ further i (cond t (option_map suc o) (Some 0)) → whole ≡ further (i + 1) o
passes whole o t i h e = e ∙ ap (λ b. further i (cond b (option_map suc o) (Some 0))) h ∙ next_further i o

-- or it fails
pub fails : (whole o : Option ℕ) (t : Bool) (i : ℕ) → t ≡ false → whole ≡ further i (cond t (option_map suc o) (Some 0)) → whole ≡ Some i
fails whole o t i h e = e ∙ ap (λ b. further i (cond b (option_map suc o) (Some 0))) h ∙ ap Some (omega arith)
