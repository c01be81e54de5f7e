-- How many elements values have.
use Rattle.std.proofs.Common.{◌≡◌, ℕ, ◌*◌, ◌≤◌, ◌==◌, true, ◌&&◌, nat_le, nat_lt, List, [], ◌∷◌, length, arith, IsTrue, length-append}
use Rattle.std.proofs.lemmas.Bool.{and_parts, eqb-true}
use Rattle.std.proofs.lemmas.Bool.Decides.{nat_tests}
use Rattle.std.proofs.lemmas.List.Elements.{All-head, All-tail}
use Rattle.std.specs.List.{filter_map}
use Rattle.gl_calculus.specs.Values.Functions.{whole_number}
use Rattle.gl_calculus.specs.Evaluation.Sound.{is_size, are_sound, is_sound_value}
use Rattle.gl_calculus.specs.Values.Value as V
use Rattle.gl_calculus.specs.Values.Value.{elements}
use Rattle.gl_value.specs.View.{value_tree}
use Rattle.gl_value.specs.declared.Value.{Value}
use Rattle.gl_funs.specs.Elements.{AreSound, elements_of}

le_of : (a b : ℕ) → nat_le a b ≡ true → a ≤ b
le_of a b h = grind (arith, nat_tests)

few_elements : (v : V.Value) → IsTrue (is_sound_value v) → length (elements v) ≤ 10000
few_elements (V.Value.One x) h = omega arith
few_elements (V.Value.Array s xs) h =
    let p = and_parts (is_size s && (length (V.items xs) == s.rows * s.cols)) (are_sound xs) h in
    let q = and_parts (is_size s) (length (V.items xs) == s.rows * s.cols) p.0 in
    let e = eqb-true (length (V.items xs)) (s.rows * s.cols) q.1 in
    let m = le_of (s.rows * s.cols) 10000 (and_parts (nat_lt 0 s.rows && nat_lt 0 s.cols) (nat_le (s.rows * s.cols) 10000) q.0).1 in
    omega (arith, e, m)

elements_most : (vs : List Value) → AreSound vs → length (elements_of vs) ≤ 10000 * length vs
elements_most [] h = omega arith
elements_most (v ∷ vs) h =
    let few = few_elements (value_tree v) (All-head (λ v. IsTrue (is_sound_value (value_tree v))) v vs h) in
    let rest = elements_most vs (All-tail (λ v. IsTrue (is_sound_value (value_tree v))) v vs h) in
    omega (arith, few, rest, length-append (elements (value_tree v)) (elements_of vs))

pub elements_few : (vs : List Value) → length vs ≤ 16 → AreSound vs → length (elements_of vs) ≤ 160000
elements_few vs h k = omega (arith, elements_most vs k)

pub numbers_few : (xs : List V.Scalar) → length (filter_map whole_number xs) ≤ length xs
numbers_few [] = omega arith
numbers_few (V.Scalar.Int n ∷ xs) = omega (arith, numbers_few xs)
numbers_few (V.Scalar.Blank ∷ xs) = omega (arith, numbers_few xs)
numbers_few (V.Scalar.Bool b ∷ xs) = omega (arith, numbers_few xs)
numbers_few (V.Scalar.Text t ∷ xs) = omega (arith, numbers_few xs)
numbers_few (V.Scalar.Err k ∷ xs) = omega (arith, numbers_few xs)
numbers_few (V.Scalar.Sheet s ∷ xs) = omega (arith, numbers_few xs)
