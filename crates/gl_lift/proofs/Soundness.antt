-- The elements of a sound value are sound, and an array of sound elements is.
use Rattle.std.specs.Borrow.{Bor}
use Rattle.std.specs.Option.{option_copied}
use Rattle.std.proofs.Common.{Option, Some, None, IfSome, option_map, ◌≡◌, ℕ, zero, suc, ◌*◌, ◌+◌, ◌==◌, Bool, true, false, ◌&&◌, nat_lt, List, [], ◌∷◌, ◌++◌, length, get_or, refl, IsTrue, if◌then◌else◌, ◌∙◌}
use Rattle.std.proofs.lemmas.Bool.{and_parts, and_from, eq-eqb}
use Rattle.gl_calculus.specs.Grid.Grid.{Size}
use Rattle.gl_calculus.specs.Values.ErrKind.{ErrKind}
use Rattle.gl_calculus.specs.Values.Value as V
use Rattle.gl_calculus.specs.Values.Lift.{item, shape}
use Rattle.gl_calculus.specs.Evaluation.Sound.{is_size, is_sound_scalar, are_sound, is_sound_value}
use Rattle.gl_value.specs.View.{scalar_tree, item_trees}
use Rattle.gl_value.specs.Sound.{items_count}
use Rattle.gl_value.specs.declared.Scalar.{Scalar}
use Rattle.gl_lift.specs.Elements.{present}
use Rattle.gl_lift.specs.Rules.{IsSound}

either : (b : Bool) (x y : V.Scalar) → IsTrue (is_sound_scalar x) → IsTrue (is_sound_scalar y) → IsTrue (is_sound_scalar (if b then x else y))
either true x y h k = h
either false x y h k = k

at : (xs : V.Scalars) (n : ℕ) → IsTrue (are_sound xs) → IsTrue (is_sound_scalar (get_or (V.items xs) n (V.Scalar.Err ErrKind.Na)))
at V.no_scalar n h = refl
at (V.scalar_and x xs) zero h = (and_parts (is_sound_scalar x) (are_sound xs) h).0
at (V.scalar_and x xs) (suc n) h = at xs n (and_parts (is_sound_scalar x) (are_sound xs) h).1

pub item_sound : (v : V.Value) (i j : ℕ) → IsTrue (is_sound_value v) → IsTrue (is_sound_scalar (item v i j))
item_sound (V.Value.One x) i j h = either ((i == 0) && (j == 0)) x (V.Scalar.Err ErrKind.Na) h refl
item_sound (V.Value.Array s xs) i j h =
    either (nat_lt i s.rows && nat_lt j s.cols) (get_or (V.items xs) (i * s.cols + j) (V.Scalar.Err ErrKind.Na)) (V.Scalar.Err ErrKind.Na)
    (at xs (i * s.cols + j) (and_parts (is_size s && (length (V.items xs) == s.rows * s.cols)) (are_sound xs) h).1) refl

present_if : (b : Bool) (x y : V.Scalar) → IsTrue (is_sound_scalar x) → Some y ≡ (if b then Some x else None) → IsTrue (is_sound_scalar y)
present_if true x y h e = let same : y ≡ x = cc in rw same h
present_if false x y h e = absurd (cc e)

-- an element that is there is sound
pub element_sound : (o : Option (Bor Scalar)) (v : V.Value) (i j : ℕ) → IsTrue (is_sound_value v) → option_map scalar_tree (option_copied o) ≡ present v i j → IfSome o (λ x. IsSound x)
element_sound None v i j h e = tt
element_sound (Some x) v i j h e = present_if (nat_lt i (shape v).rows && nat_lt j (shape v).cols) (item v i j) (scalar_tree x.now) (item_sound v i j h) e

pub sound_more : (xs : List Scalar) (x : Scalar) → IsTrue (are_sound (item_trees xs)) → IsTrue (is_sound_scalar (scalar_tree x)) → IsTrue (are_sound (item_trees (xs ++ x ∷ [])))
sound_more [] x h k = and_from (is_sound_scalar (scalar_tree x)) true k refl
sound_more (y ∷ ys) x h k =
    let p = and_parts (is_sound_scalar (scalar_tree y)) (are_sound (item_trees ys)) h in
    and_from (is_sound_scalar (scalar_tree y)) (are_sound (item_trees (ys ++ x ∷ []))) p.0 (sound_more ys x p.1 k)

pub array_is_sound : (s : Size) (xs : List Scalar) → is_size s ≡ true → length xs ≡ s.rows * s.cols → IsTrue (are_sound (item_trees xs)) → IsTrue (is_sound_value (V.Value.Array s (item_trees xs)))
array_is_sound s xs h c k =
    and_from (is_size s && (length (V.items (item_trees xs)) == s.rows * s.cols)) (are_sound (item_trees xs))
    (and_from (is_size s) (length (V.items (item_trees xs)) == s.rows * s.cols) h (eq-eqb (length (V.items (item_trees xs))) (s.rows * s.cols) (items_count xs ∙ c)))
    k
