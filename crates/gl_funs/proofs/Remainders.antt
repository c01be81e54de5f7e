-- The remainder of a division that is rounded down.
use Rattle.std.proofs.Common.{◌≡◌, ℤ, pos, negsuc, ◌+ℤ◌, ◌-ℤ◌, ◌*ℤ◌, int_lt, int_div, int_rem, Bool, true, false, ◌||◌, refl, sym, ap, ◌∙◌, arith, FitsSigned, if◌then◌else◌}
use Rattle.std.proofs.lemmas.Bool.Decides.{nat_tests}
use Rattle.std.proofs.lemmas.Int.{ints, quot-rem}
use Rattle.std.proofs.Math.Bool.{beq}
use Rattle.std.proofs.Math.IntN.{pred_ℤ, pred_ℤ-*ℤ, -ℤ_one, *ℤ_comm}
use Rattle.std.specs.Int.{w64}
use Rattle.gl_calculus.proofs.Tests.{int_exact}
use Rattle.gl_calculus.specs.Values.Operators as O
use Rattle.gl_calculus.specs.Values.Same.{same_int, same_bool}
use Rattle.gl_calculus.specs.Values.Value as V

fits : (z : ℤ) → FitsSigned w64 z → O.exact z ≡ V.Scalar.Int z
fits (pos n) h = grind (arith, nat_tests)
fits (negsuc n) h = grind (arith, nat_tests)

-- the remainder is 0 or has the sign of the divisor
abbrev has_sign : ℤ → ℤ → Bool
has_sign r n = same_int r (pos 0) || same_bool (int_lt r (pos 0)) (int_lt n (pos 0))

unfolded : (m n : ℤ) (b : Bool) → same_int n (pos 0) ≡ false → has_sign (int_rem m n) n ≡ b → O.modulo m n ≡ (if b then O.exact (int_rem m n) else O.exact (int_rem m n +ℤ n))
unfolded m n b e g = rw (e, g) refl

pub kept : (m n r : ℤ) → same_int n (pos 0) ≡ false → r ≡ int_rem m n → has_sign r n ≡ true → FitsSigned w64 r → V.Scalar.Int r ≡ O.modulo m n
kept m n r e f g h = sym (unfolded m n true e (ap (λ z. has_sign z n) (sym f) ∙ g) ∙ ap O.exact (sym f) ∙ fits r h)

pub added : (m n r : ℤ) → same_int n (pos 0) ≡ false → r ≡ int_rem m n → has_sign r n ≡ false → FitsSigned w64 (r +ℤ n) → V.Scalar.Int (r +ℤ n) ≡ O.modulo m n
added m n r e f g h = sym (unfolded m n false e (ap (λ z. has_sign z n) (sym f) ∙ g) ∙ ap (λ z. O.exact (z +ℤ n)) (sym f) ∙ fits (r +ℤ n) h)

-- ---- the remainder is what the divisor leaves as often as the quotient rounded down says

-- the quotient rounded down: once less where the remainder has the other sign
abbrev floor_div : ℤ → ℤ → ℤ
floor_div m n = if has_sign (int_rem m n) n then int_div m n else (int_div m n -ℤ pos 1)

once_less : (q n : ℤ) → n *ℤ (q -ℤ pos 1) ≡ q *ℤ n -ℤ n
once_less q n = let e : q -ℤ pos 1 ≡ pred_ℤ q = -ℤ_one q in *ℤ_comm n (q -ℤ pos 1) ∙ ap (λ z. z *ℤ n) e ∙ pred_ℤ-*ℤ q n

pub rounded_down : (m n : ℤ) → same_int n (pos 0) ≡ false → O.modulo m n ≡ O.exact (m -ℤ (n *ℤ floor_div m n))
rounded_down m n e = by (has_sign (int_rem m n) n) refl
  where
    by : (b : Bool) → has_sign (int_rem m n) n ≡ b → O.modulo m n ≡ O.exact (m -ℤ (n *ℤ floor_div m n))
    by true g =
        let t : m -ℤ (n *ℤ int_div m n) ≡ int_rem m n = omega (arith, ints, quot-rem m n) in
        unfolded m n true e g ∙ ap O.exact (sym t) ∙ ap (λ b. O.exact (m -ℤ (n *ℤ (if b then int_div m n else (int_div m n -ℤ pos 1))))) (sym g)
    by false g =
        let t : m -ℤ (n *ℤ (int_div m n -ℤ pos 1)) ≡ int_rem m n +ℤ n = omega (arith, ints, quot-rem m n, once_less (int_div m n) n) in
        unfolded m n false e g ∙ ap O.exact (sym t) ∙ ap (λ b. O.exact (m -ℤ (n *ℤ (if b then int_div m n else (int_div m n -ℤ pos 1))))) (sym g)

nonzero_by : (n : ℤ) (b : Bool) → same_int n (pos 0) ≡ b → (n ≡ pos 0 → ⊥) → b ≡ false
nonzero_by n false e h = refl
nonzero_by n true e h = absurd (h (int_exact n (pos 0) e))

pub nonzero : (n : ℤ) → (n ≡ pos 0 → ⊥) → same_int n (pos 0) ≡ false
nonzero n h = nonzero_by n (same_int n (pos 0)) refl h

unlike : (s a b : Bool) → s ≡ false → beq a b ≡ false → (s || same_bool a b) ≡ false
unlike true a b e h = absurd (cc e)
unlike false true true e h = absurd (cc h)
unlike false true false e h = refl
unlike false false true e h = refl
unlike false false false e h = absurd (cc h)

-- a remainder that is not 0 and has the other sign
pub opposed : (r n : ℤ) → (r ≡ pos 0 → ⊥) → beq (int_lt r (pos 0)) (int_lt n (pos 0)) ≡ false → (same_int r (pos 0) || same_bool (int_lt r (pos 0)) (int_lt n (pos 0))) ≡ false
opposed r n h k = unlike (same_int r (pos 0)) (int_lt r (pos 0)) (int_lt n (pos 0)) (nonzero r h) k
