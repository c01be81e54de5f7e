-- Exact results, within the 64 bits or not.
use Rattle.std.proofs.Common.{◌≡◌, ℤ, pos, negsuc, arith, Some, None, sym, SomeIff, FitsSigned}
use Rattle.std.proofs.lemmas.Bool.Decides.{nat_tests}
use Rattle.std.specs.Int.{w64}
use Rattle.gl_calculus.specs.Values.Operators as O
use Rattle.gl_calculus.specs.Values.Value as V
use Rattle.gl_calculus.specs.Values.ErrKind.{ErrKind}

fits : (z : ℤ) → FitsSigned w64 z → O.exact z ≡ V.Scalar.Int z
fits (pos n) h = grind (arith, nat_tests)
fits (negsuc n) h = grind (arith, nat_tests)

leaves : (z : ℤ) → ¬ FitsSigned w64 z → O.exact z ≡ V.Scalar.Err ErrKind.Num
leaves (pos n) h = grind (arith, nat_tests)
leaves (negsuc n) h = grind (arith, nat_tests)

pub exact_some : (n z : ℤ) → SomeIff (Some n) (FitsSigned w64 z) z → V.Scalar.Int n ≡ O.exact z
exact_some n z h = rw (h.1) (sym (fits z h.0))

pub exact_none : (z : ℤ) → SomeIff {T = ℤ} None (FitsSigned w64 z) z → V.Scalar.Err ErrKind.Num ≡ O.exact z
exact_none z h = sym (leaves z h)

pub ruleset exactly = (exact_some, exact_none)
