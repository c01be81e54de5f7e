-- The code's test of numbers is that of the calculus.
use Rattle.std.specs.Prelude.{◌≡◌, ℤ, Bool, true, false, refl}
use Rattle.std.proofs.Common.{subst}
use Rattle.std.specs.Ordering.{int_eq}
use Rattle.std.proofs.lemmas.Bool.Decides.{Decides-int_eq}
use Rattle.gl_calculus.specs.Values.Same.{same_int}
use Rattle.gl_calculus.proofs.Tests.{int_exact, int_same}

cases : (m n : ℤ) (b c : Bool) → int_eq m n ≡ b → same_int m n ≡ c → b ≡ c
cases m n true true p q = refl
cases m n false false p q = refl
cases m n true false p q = let e : m ≡ n = (Decides-int_eq m n).0 p in let f : same_int m n ≡ true = subst (λ k. same_int m k ≡ true) e (int_same m) in absurd (cc (q, f))
cases m n false true p q = let f : int_eq m n ≡ true = (Decides-int_eq m n).1 (int_exact m n q) in absurd (cc (p, f))

pub int_test : (m n : ℤ) → int_eq m n ≡ same_int m n
int_test m n = cases m n (int_eq m n) (same_int m n) refl refl
