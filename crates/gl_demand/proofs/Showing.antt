-- The elements that references show, and their soundness.
use Rattle.std.proofs.Common.{◌≡◌, ℕ, zero, suc, ◌+◌, ◌*◌, ◌==◌, Bool, true, false, ◌&&◌, IsTrue, nat_lt, List, [], ◌∷◌, length, get_or, slice_get, if◌then◌else◌, Option, Some, None, refl, sym, subst}
use Rattle.std.proofs.lemmas.Bool.{and_parts}
use Rattle.gl_calculus.specs.Values.ErrKind.{ErrKind}
use Rattle.gl_calculus.specs.Values.Value as V
use Rattle.gl_calculus.specs.Values.Value.{Permit, Permitted, Refused}
use Rattle.gl_calculus.specs.Values.Lift.{item_or}
use Rattle.gl_calculus.specs.Evaluation.Reference.{shown}
use Rattle.gl_calculus.specs.Evaluation.Sound.{is_size, is_sound_scalar, are_sound, is_sound_value}
use Rattle.gl_value.specs.Parts.{element_at}
use Rattle.gl_value.specs.View.{array_tree, item_trees}
use Rattle.gl_value.specs.Forms.{array_tree_is}
use Rattle.gl_value.specs.declared.Array.{Array as ArrayCode}

get_some : (ys : List V.Scalar) (n : ℕ) (d x : V.Scalar) → Some x ≡ slice_get ys n → x ≡ get_or ys n d
get_some [] n d x h = absurd (cc h)
get_some (y ∷ ys) zero d x h = cc
get_some (y ∷ ys) (suc n) d x h = get_some ys n d x h

get_none : (ys : List V.Scalar) (n : ℕ) (d : V.Scalar) → None ≡ slice_get ys n → d ≡ get_or ys n d
get_none [] n d h = refl
get_none (y ∷ ys) zero d h = absurd (cc h)
get_none (y ∷ ys) (suc n) d h = get_none ys n d h

if_some : (b : Bool) (ys : List V.Scalar) (n : ℕ) (d x : V.Scalar) → Some x ≡ (if b then slice_get ys n else None) → x ≡ (if b then get_or ys n d else d)
if_some true ys n d x h = get_some ys n d x h
if_some false ys n d x h = absurd (cc h)

if_none : (b : Bool) (ys : List V.Scalar) (n : ℕ) (d : V.Scalar) → None ≡ (if b then slice_get ys n else None) → d ≡ (if b then get_or ys n d else d)
if_none true ys n d h = get_none ys n d h
if_none false ys n d h = refl

pub item_some : (a : ArrayCode) (i j : ℕ) (d x : V.Scalar) → Some x ≡ element_at (array_tree a) i j → x ≡ item_or d (array_tree a) i j
item_some a i j d x h = rw (array_tree_is a) (if_some (nat_lt i a.size.rows && nat_lt j a.size.cols) (V.items (item_trees a.items.items)) (i * a.size.cols + j) d x (rw (array_tree_is a) at h))

pub item_none : (a : ArrayCode) (i j : ℕ) (d : V.Scalar) → None ≡ element_at (array_tree a) i j → d ≡ item_or d (array_tree a) i j
item_none a i j d h = rw (array_tree_is a) (if_none (nat_lt i a.size.rows && nat_lt j a.size.cols) (V.items (item_trees a.items.items)) (i * a.size.cols + j) d (rw (array_tree_is a) at h))

either : (b : Bool) (x y : V.Scalar) → IsTrue (is_sound_scalar x) → IsTrue (is_sound_scalar y) → IsTrue (is_sound_scalar (if b then x else y))
either true x y h k = h
either false x y h k = k

at_or : (xs : V.Scalars) (n : ℕ) (d : V.Scalar) → IsTrue (are_sound xs) → IsTrue (is_sound_scalar d) → IsTrue (is_sound_scalar (get_or (V.items xs) n d))
at_or V.no_scalar n d h k = k
at_or (V.scalar_and x xs) zero d h k = (and_parts (is_sound_scalar x) (are_sound xs) h).0
at_or (V.scalar_and x xs) (suc n) d h k = at_or xs n d (and_parts (is_sound_scalar x) (are_sound xs) h).1 k

pub item_or_sound : (v : V.Value) (i j : ℕ) (d : V.Scalar) → IsTrue (is_sound_value v) → IsTrue (is_sound_scalar d) → IsTrue (is_sound_scalar (item_or d v i j))
item_or_sound (V.Value.One x) i j d h k = either ((i == 0) && (j == 0)) x d h k
item_or_sound (V.Value.Array s xs) i j d h k =
    either (nat_lt i s.rows && nat_lt j s.cols) (get_or (V.items xs) (i * s.cols + j) d) d
    (at_or xs (i * s.cols + j) d (and_parts (is_size s && (length (V.items xs) == s.rows * s.cols)) (are_sound xs) h).1 k) k

pub shown_sound : (p : Option Permit) (v : V.Value) → IsTrue (is_sound_value v) → IsTrue (is_sound_scalar (shown p v))
shown_sound p (V.Value.One x) h = h
shown_sound (Some Refused) (V.Value.Array s xs) h = refl
shown_sound (Some Permitted) (V.Value.Array s xs) h = item_or_sound (V.Value.Array s xs) 0 0 (V.Scalar.Err ErrKind.Na) h refl
shown_sound None (V.Value.Array s xs) h = item_or_sound (V.Value.Array s xs) 0 0 (V.Scalar.Err ErrKind.Na) h refl

-- what is equal to a sound scalar is sound
pub sound_same : (x y : V.Scalar) → x ≡ y → IsTrue (is_sound_scalar y) → IsTrue (is_sound_scalar x)
sound_same x y h k = subst (λ z. IsTrue (is_sound_scalar z)) (sym h) k
