-- Rows of sound scalars, equally long, and the arrays that are made of them.
use Rattle.std.proofs.Common.{◌≡◌, ℕ, zero, suc, ◌-◌, ◌*◌, ◌<◌, ◌≤◌, min, ℤ, pos, negsuc, Bool, true, false, List, [], ◌∷◌, ◌++◌, length, map, take, drop, replicate, refl, ap, sym, ◌∙◌, arith, if◌then◌else◌}
use Rattle.std.specs.List.{AllByRecursion, flat_map, items_where_true}
use Rattle.std.proofs.lemmas.Bool.{leb-true}
use Rattle.std.proofs.lemmas.List.{length-append, length-take, length-drop, length-replicate}
use Rattle.gl_calculus.specs.Grid.Limits.{max_cells}
use Rattle.gl_calculus.specs.Grid.Grid.{size}
use Rattle.gl_calculus.specs.Values.ErrKind.{ErrKind}
use Rattle.gl_calculus.specs.Values.Value.{Scalar, Value, One, Array, items}
use Rattle.gl_calculus.specs.Values.Lift.{shape, is_small, rows, width, cut, from_rows}
use Rattle.gl_calculus.specs.Values.Functions.{kept, left_over, padded}
use Rattle.laws_calculus.proofs.Sound.Values.{AllSound, IsSoundValue, parts_of, array_sound, all_append, all_take, all_drop, all_replicate}
use Rattle.laws_calculus.proofs.Sound.Lift.{one_more_row}
use lib.Pointwise.{pointwise}
use Rattle.gl_calculus.specs.Values.Same.{same_scalar}
use Rattle.gl_calculus.specs.Computation.Lists.{distinct, fresh, has_member}
use Rattle.gl_calculus.proofs.Tables.{rows_if}

-- rows of n sound scalars each
abbrev pub AreRows : ℕ → List (List Scalar) → Type 0
AreRows n rs = AllByRecursion (λ r. (length r ≡ n) × AllSound r) rs

pub rows_append : (n : ℕ) (rs ss : List (List Scalar)) → AreRows n rs → AreRows n ss → AreRows n (rs ++ ss)
rows_append n [] ss h k = k
rows_append n (r ∷ rs) ss h k = (h.0, rows_append n rs ss h.1 k)

rows_take : (n m : ℕ) (rs : List (List Scalar)) → AreRows n rs → AreRows n (take m rs)
rows_take n zero rs h = tt
rows_take n (suc m) [] h = tt
rows_take n (suc m) (r ∷ rs) h = (h.0, rows_take n m rs h.1)

rows_drop : (n m : ℕ) (rs : List (List Scalar)) → AreRows n rs → AreRows n (drop m rs)
rows_drop n zero rs h = h
rows_drop n (suc m) [] h = tt
rows_drop n (suc m) (r ∷ rs) h = rows_drop n m rs h.1

pub rows_kept : (n : ℕ) (m : ℤ) (rs : List (List Scalar)) → AreRows n rs → AreRows n (kept m rs)
rows_kept n (pos m) rs h = rows_take n m rs h
rows_kept n (negsuc m) rs h = rows_drop n (length rs - suc m) rs h

pub rows_left : (n : ℕ) (m : ℤ) (rs : List (List Scalar)) → AreRows n rs → AreRows n (left_over m rs)
rows_left n (pos m) rs h = rows_drop n m rs h
rows_left n (negsuc m) rs h = rows_take n (length rs - suc m) rs h

-- a change of each row after which the length goes by the length before
pub rows_map : (n : ℕ) (g : List Scalar → List Scalar) (by : ℕ → ℕ) → ((r : List Scalar) → length (g r) ≡ by (length r)) → ((r : List Scalar) → AllSound r → AllSound (g r)) →
    (rs : List (List Scalar)) → AreRows n rs → AreRows (by n) (map g rs)
rows_map n g by len sound [] h = tt
rows_map n g by len sound (r ∷ rs) h = ((len r ∙ ap by h.0.0, sound r h.0.1), rows_map n g by len sound rs h.1)

abbrev pub kept_length : ℤ → ℕ → ℕ
kept_length (pos m) n = min m n
kept_length (negsuc m) n = n - (n - suc m)

pub kept_is : (m : ℤ) (r : List Scalar) → length (kept m r) ≡ kept_length m (length r)
kept_is (pos m) r = length-take m r
kept_is (negsuc m) r = length-drop (length r - suc m) r

pub kept_sound : (m : ℤ) (r : List Scalar) → AllSound r → AllSound (kept m r)
kept_sound (pos m) r h = all_take m r h
kept_sound (negsuc m) r h = all_drop (length r - suc m) r h

abbrev pub left_length : ℤ → ℕ → ℕ
left_length (pos m) n = n - m
left_length (negsuc m) n = min (n - suc m) n

pub left_is : (m : ℤ) (r : List Scalar) → length (left_over m r) ≡ left_length m (length r)
left_is (pos m) r = length-drop m r
left_is (negsuc m) r = length-take (length r - suc m) r

pub left_sound : (m : ℤ) (r : List Scalar) → AllSound r → AllSound (left_over m r)
left_sound (pos m) r h = all_drop m r h
left_sound (negsuc m) r h = all_take (length r - suc m) r h

-- ---- the array of rows

flat_length : (n : ℕ) (rs : List (List Scalar)) → AreRows n rs → length (flat_map (λ r. r) rs) ≡ length rs * n
flat_length n [] h = omega arith
flat_length n (r ∷ rs) h = omega (arith, length-append r (flat_map (λ r. r) rs), h.0.0, flat_length n rs h.1, one_more_row (length rs) n)

flat_sound : (n : ℕ) (rs : List (List Scalar)) → AreRows n rs → AllSound (flat_map (λ r. r) rs)
flat_sound n [] h = tt
flat_sound n (r ∷ rs) h = all_append r (flat_map (λ r. r) rs) h.0.1 (flat_sound n rs h.1)

made_of_rows : (b : Bool) (n : ℕ) (r : List Scalar) (rs : List (List Scalar)) → is_small (size (length (r ∷ rs)) (width (r ∷ rs))) ≡ b → 0 < n → AreRows n (r ∷ rs) → IsSoundValue (rows_if b (r ∷ rs))
made_of_rows false n r rs e p h = refl
made_of_rows true n r rs e p h =
    array_sound (size (suc (length rs)) (length r)) (flat_map (λ r. r) (r ∷ rs))
    (record { rows = omega arith; cols = omega (arith, h.0.0, p); small = leb-true (suc (length rs) * length r) max_cells e })
    (flat_length n (r ∷ rs) h ∙ ap (λ m. suc (length rs) * m) (sym h.0.0))
    (flat_sound n (r ∷ rs) h)

-- there is a row, and it isn't empty
pub from_rows_sound : (n : ℕ) (rs : List (List Scalar)) → 0 < length rs → 0 < n → AreRows n rs → IsSoundValue (from_rows rs)
from_rows_sound n [] l p h = absurd (omega (arith, l))
from_rows_sound n (r ∷ rs) l p h = made_of_rows (is_small (size (length (r ∷ rs)) (width (r ∷ rs)))) n r rs refl p h

-- ---- the rows of a value

cut_rows : (m n : ℕ) (xs : List Scalar) → length xs ≡ m * n → AllSound xs → AreRows n (cut m n xs)
cut_rows zero n xs e h = tt
cut_rows (suc m) n xs e h = (
  (omega (arith, length-take n xs, e, one_more_row m n), all_take n xs h),
  cut_rows m n (drop n xs) (omega (arith, length-drop n xs, e, one_more_row m n)) (all_drop n xs h),
)

cut_length : (m n : ℕ) (xs : List Scalar) → length (cut m n xs) ≡ m
cut_length zero n xs = refl
cut_length (suc m) n xs = omega (arith, cut_length m n (drop n xs))

pub value_rows : (v : Value) → IsSoundValue v → AreRows (shape v).cols (rows v)
value_rows (One x) h = ((refl, (h, tt)), tt)
value_rows (Array s xs) h = let p = parts_of s xs h in cut_rows s.rows s.cols (items xs) p.count p.sound

pub value_rows_some : (v : Value) → IsSoundValue v → 0 < length (rows v)
value_rows_some (One x) h = omega arith
value_rows_some (Array s xs) h = let p = parts_of s xs h in omega (arith, cut_length s.rows s.cols (items xs), p.extents.rows)

-- ---- changes of rows

-- a shorter row is padded to n
pub pad_rows : (m n : ℕ) (rs : List (List Scalar)) → m ≤ n → AreRows m rs → AreRows n (map (padded n) rs)
pad_rows m n [] l h = tt
pad_rows m n (r ∷ rs) l h = (
  (
    omega (arith, length-append r (replicate (n - length r) (Scalar.Err ErrKind.Na)), length-replicate (n - length r) (Scalar.Err ErrKind.Na), h.0.0, l),
    all_append r (replicate (n - length r) (Scalar.Err ErrKind.Na)) h.0.1 (all_replicate (n - length r) (Scalar.Err ErrKind.Na) refl),
  ),
  pad_rows m n rs l h.1,
)

pub rows_chosen : (n : ℕ) (bs : List Bool) (rs : List (List Scalar)) → AreRows n rs → AreRows n (items_where_true bs rs)
rows_chosen n [] rs h = tt
rows_chosen n (b ∷ bs) [] h = tt
rows_chosen n (true ∷ bs) (r ∷ rs) h = (h.0, rows_chosen n bs rs h.1)
rows_chosen n (false ∷ bs) (r ∷ rs) h = rows_chosen n bs rs h.1

new_if : (n : ℕ) (b : Bool) (r : List Scalar) (rs ss : List (List Scalar)) → (length r ≡ n) × AllSound r → AreRows n rs → AreRows n ss → AreRows n (if b then rs else r ∷ ss)
new_if n true r rs ss h k l = k
new_if n false r rs ss h k l = (h, l)

pub rows_new : (n : ℕ) (seen rs : List (List Scalar)) → AreRows n rs → AreRows n (fresh (pointwise same_scalar) seen rs)
rows_new n seen [] h = tt
rows_new n seen (r ∷ rs) h = new_if n (has_member (pointwise same_scalar) r seen) r (fresh (pointwise same_scalar) seen rs) (fresh (pointwise same_scalar) (r ∷ seen) rs) h.0 (rows_new n seen rs h.1) (rows_new n (r ∷ seen) rs h.1)

-- the first row is new
pub some_new : (rs : List (List Scalar)) → 0 < length rs → 0 < length (distinct (pointwise same_scalar) rs)
some_new [] l = l
some_new (r ∷ rs) l = omega arith
