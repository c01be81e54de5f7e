-- Sound scalars, lists and values.
use Rattle.std.proofs.Common.{◌≡◌, ℕ, zero, suc, ◌*◌, ◌<◌, ◌≤◌, ◌==◌, nat_lt, nat_le, Bool, true, false, ◌&&◌, IsTrue, List, [], ◌∷◌, ◌++◌, length, get_or, take, drop, replicate, refl, ap, ◌∙◌, if◌then◌else◌}
use Rattle.std.specs.List.{AllByRecursion}
use Rattle.std.proofs.lemmas.Bool.{and_parts, and_from, eqb-true, eq-eqb, ltb-true, lt-ltb, leb-true, le-leb}
use Rattle.gl_calculus.specs.Grid.Limits.{max_cells}
use Rattle.gl_calculus.specs.Grid.Grid.{Size}
use Rattle.gl_calculus.specs.Values.Value.{Scalar, Scalars, no_scalar, scalar_and, Value, One, Array, items, scalars, elements}
use Rattle.gl_calculus.specs.Evaluation.Sound.{is_size, is_sound_scalar, are_sound, is_sound_value}

abbrev pub IsSound : Scalar → Type 0
IsSound x = IsTrue (is_sound_scalar x)

abbrev pub AllSound : List Scalar → Type 0
AllSound xs = AllByRecursion IsSound xs

abbrev pub IsSoundValue : Value → Type 0
IsSoundValue v = IsTrue (is_sound_value v)

abbrev pub AllSoundValues : List Value → Type 0
AllSoundValues vs = AllByRecursion IsSoundValue vs

-- ---- lists

pub all_append : (xs ys : List Scalar) → AllSound xs → AllSound ys → AllSound (xs ++ ys)
all_append [] ys h k = k
all_append (x ∷ xs) ys h k = (h.0, all_append xs ys h.1 k)

pub all_take : (n : ℕ) (xs : List Scalar) → AllSound xs → AllSound (take n xs)
all_take zero xs h = tt
all_take (suc n) [] h = tt
all_take (suc n) (x ∷ xs) h = (h.0, all_take n xs h.1)

pub all_drop : (n : ℕ) (xs : List Scalar) → AllSound xs → AllSound (drop n xs)
all_drop zero xs h = h
all_drop (suc n) [] h = tt
all_drop (suc n) (x ∷ xs) h = all_drop n xs h.1

pub all_replicate : (n : ℕ) (x : Scalar) → IsSound x → AllSound (replicate n x)
all_replicate zero x h = tt
all_replicate (suc n) x h = (h, all_replicate n x h)

pub all_at : (xs : List Scalar) (n : ℕ) (d : Scalar) → AllSound xs → IsSound d → IsSound (get_or xs n d)
all_at [] n d h k = k
all_at (x ∷ xs) zero d h k = h.0
all_at (x ∷ xs) (suc n) d h k = all_at xs n d h.1 k

pub either : (b : Bool) (x y : Scalar) → IsSound x → IsSound y → IsSound (if b then x else y)
either true x y h k = h
either false x y h k = k

-- ---- lists of scalars as trees

pub items_scalars : (xs : List Scalar) → items (scalars xs) ≡ xs
items_scalars [] = refl
items_scalars (x ∷ xs) = ap (λ t. x ∷ t) (items_scalars xs)

items_sound : (xs : Scalars) → IsTrue (are_sound xs) → AllSound (items xs)
items_sound no_scalar h = tt
items_sound (scalar_and x xs) h = let p = and_parts (is_sound_scalar x) (are_sound xs) h in (p.0, items_sound xs p.1)

scalars_sound : (xs : List Scalar) → AllSound xs → IsTrue (are_sound (scalars xs))
scalars_sound [] h = refl
scalars_sound (x ∷ xs) h = and_from (is_sound_scalar x) (are_sound (scalars xs)) h.0 (scalars_sound xs h.1)

-- ---- arrays

-- extents of an array
pub record Extents (s : Size) : Type 0 where
  pub rows : 0 < s.rows
  pub cols : 0 < s.cols
  pub small : s.rows * s.cols ≤ max_cells

pub extents_of : (s : Size) → IsTrue (is_size s) → Extents s
extents_of s h =
    let p = and_parts (nat_lt 0 s.rows && nat_lt 0 s.cols) (nat_le (s.rows * s.cols) max_cells) h in
    let q = and_parts (nat_lt 0 s.rows) (nat_lt 0 s.cols) p.0 in
    record { rows = ltb-true 0 s.rows q.0; cols = ltb-true 0 s.cols q.1; small = leb-true (s.rows * s.cols) max_cells p.1 }

pub is_size_from : (s : Size) → Extents s → IsTrue (is_size s)
is_size_from s e =
    and_from (nat_lt 0 s.rows && nat_lt 0 s.cols) (nat_le (s.rows * s.cols) max_cells)
    (and_from (nat_lt 0 s.rows) (nat_lt 0 s.cols) (lt-ltb 0 s.rows e.rows) (lt-ltb 0 s.cols e.cols)) (le-leb (s.rows * s.cols) max_cells e.small)

-- what the soundness of an array says
pub record Parts (s : Size) (xs : Scalars) : Type 0 where
  pub extents : Extents s
  pub count : length (items xs) ≡ s.rows * s.cols
  pub sound : AllSound (items xs)

pub parts_of : (s : Size) (xs : Scalars) → IsSoundValue (Array s xs) → Parts s xs
parts_of s xs h =
    let p = and_parts (is_size s && (length (items xs) == s.rows * s.cols)) (are_sound xs) h in
    let q = and_parts (is_size s) (length (items xs) == s.rows * s.cols) p.0 in
    record { extents = extents_of s q.0; count = eqb-true (length (items xs)) (s.rows * s.cols) q.1; sound = items_sound xs p.1 }

pub array_sound : (s : Size) (xs : List Scalar) → Extents s → length xs ≡ s.rows * s.cols → AllSound xs → IsSoundValue (Array s (scalars xs))
array_sound s xs e c h =
    let n : length (items (scalars xs)) ≡ s.rows * s.cols = ap length (items_scalars xs) ∙ c in
    and_from (is_size s && (length (items (scalars xs)) == s.rows * s.cols)) (are_sound (scalars xs))
    (and_from (is_size s) (length (items (scalars xs)) == s.rows * s.cols) (is_size_from s e) (eq-eqb (length (items (scalars xs))) (s.rows * s.cols) n)) (scalars_sound xs h)

pub elements_sound : (v : Value) → IsSoundValue v → AllSound (elements v)
elements_sound (One x) h = (h, tt)
elements_sound (Array s xs) h = (parts_of s xs h).sound
