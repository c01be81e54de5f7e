-- What one element adds to what is known of those before it.
use Rattle.std.proofs.Common.{◌≡◌, ℕ, ◌+◌, ◌*◌, ◌^◌, ◌≤◌, ℤ, pos, negsuc, suc, ◌+ℤ◌, unsigned_abs, Bool as Truth, List, ◌∷◌, length, Option, refl, ap, arith}
use Rattle.std.proofs.Math.IntN.{sub_ℕ}
use Rattle.std.proofs.lemmas.Bool.Decides.{nat_tests}
use Rattle.std.specs.List.{filter_map}
use Rattle.gl_calculus.specs.Values.Functions.{whole_number}
use Rattle.gl_calculus.specs.Values.Value as V
use Rattle.gl_value.specs.View.{scalar_tree}
use Rattle.gl_value.specs.Forms.{scalar_tree-Int, scalar_tree-Err}
use Rattle.gl_value.specs.declared.ErrKind.{ErrKind}
use Rattle.gl_value.specs.declared.Scalar.{Scalar, Int, Err}
use Rattle.gl_funs.specs.Rules.{total_from, extreme_from, verdict_from}

-- ---- an error is the result

pub extreme_err : (better : ℤ → ℤ → ℤ) (x : Scalar) (xs ys : List V.Scalar) (o : Option ℤ) (k : ErrKind) → xs ≡ scalar_tree x ∷ ys → x ≡ Err k → scalar_tree (Err k) ≡ extreme_from better o xs
extreme_err better x xs ys o k e f = rw (e, f, scalar_tree-Err k) refl

pub verdict_err : (joins : Truth → Truth → Truth) (rule : List Truth → Truth) (x : Scalar) (xs ys : List V.Scalar) (o : Option Truth) (k : ErrKind) → xs ≡ scalar_tree x ∷ ys → x ≡ Err k → scalar_tree (Err k) ≡ verdict_from joins rule o xs
verdict_err joins rule x xs ys o k e f = rw (e, f, scalar_tree-Err k) refl

-- ---- counts

pub count_more : (x : Scalar) (xs ys : List V.Scalar) (n t : ℕ) (k : ℤ) → xs ≡ scalar_tree x ∷ ys → x ≡ Int k → n + length (filter_map whole_number xs) ≡ t → n + 1 + length (filter_map whole_number ys) ≡ t
count_more x xs ys n t k e f h =
    let g : length (filter_map whole_number xs) ≡ length (filter_map whole_number ys) + 1 = rw (e, f, scalar_tree-Int k) (omega arith) in
    omega (arith, g, h)

-- ---- sums

pub total_int : (x : Scalar) (xs ys : List V.Scalar) (t n : ℤ) → xs ≡ scalar_tree x ∷ ys → x ≡ Int n → total_from t xs ≡ total_from (t +ℤ n) ys
total_int x xs ys t n e f = rw (e, f, scalar_tree-Int n) refl

sub_abs : (a b : ℕ) → unsigned_abs (sub_ℕ a b) ≤ a + b
sub_abs a b = grind (arith, nat_tests)

-- the magnitude of a sum
abs_sum : (a b : ℤ) → unsigned_abs (a +ℤ b) ≤ unsigned_abs a + unsigned_abs b
abs_sum (pos a) (pos b) = omega arith
abs_sum (pos a) (negsuc b) = sub_abs a (suc b)
abs_sum (negsuc a) (pos b) = omega (arith, sub_abs b (suc a))
abs_sum (negsuc a) (negsuc b) = omega arith

pub sum_room : (x : Scalar) (xs ys : List V.Scalar) (t n : ℤ) → xs ≡ scalar_tree x ∷ ys → unsigned_abs n ≤ 2 ^ 63 → unsigned_abs t + 2 ^ 63 * length xs ≤ 2 ^ 63 * 160000 → unsigned_abs (t +ℤ n) + 2 ^ 63 * length ys ≤ 2 ^ 63 * 160000
sum_room x xs ys t n e f h = omega (arith, abs_sum t n, ap (length {A = V.Scalar}) e)
