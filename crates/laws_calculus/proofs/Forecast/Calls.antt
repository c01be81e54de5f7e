-- The value of each function fits the shape of its call.
use Rattle.std.proofs.Common.{◌≡◌, ℕ, zero, suc, ◌+◌, ◌-◌, ◌*◌, ◌≤◌, nat_lt, nat_le, ℤ, pos, negsuc, Bool, true, false, ◌&&◌, List, [], ◌∷◌, length, map, take, drop, Option, Some, None, option_map, Ok, Err, refl, ap, sym, subst, arith, if◌then◌else◌}
use Rattle.std.specs.List.{flat_map, items_where_true}
use Rattle.std.proofs.lemmas.Bool.{ltb-true, and_parts}
use Rattle.std.proofs.lemmas.List.{length-append, length-take, length-drop, length-map, map-append}
use Rattle.gl_calculus.specs.Grid.Limits.{max_cells}
use Rattle.gl_calculus.specs.Grid.Grid.{Size, size}
use Rattle.gl_calculus.specs.Values.ErrKind.{ErrKind}
use Rattle.gl_calculus.specs.Values.Value.{Scalar, Value, One, Array, items, elements}
use Rattle.gl_calculus.specs.Formulas.Formula.{Fun, Formula, Formulas}
use Rattle.gl_calculus.specs.Formulas.Formula as F
use Rattle.gl_calculus.specs.Values.Operators.{modulo, magnitude, numeric}
use Rattle.gl_calculus.specs.Values.Lift.{shape, item, is_small, rows, width, cut, from_rows}
use Rattle.gl_calculus.specs.Values.Functions.{Try, value_or_error, no_error, number, when, first_fault, truth_fault, extent, index, sequence, flipped, transpose, kept, left_over, take_last, some_rows, part_of, padded, greatest_cols, vstack, hstack, is_column_beside, keeps, filter_rows, unique, sought, looked_up, lookup, negation, is_error, is_blank, text_length, text_part, apply}
use Rattle.gl_calculus.specs.Forecast as Fo
use Rattle.gl_calculus.specs.Forecast.{Shape, size_of, any_size, vstack_size, hstack_size}
use Rattle.laws_calculus.proofs.Sound.Values.{IsSoundValue, AllSoundValues, parts_of}
use Rattle.laws_calculus.proofs.Sound.Lift.{shape_positive, table_sound, item_sound}
use Rattle.laws_calculus.proofs.Sound.Arrays.{sequence_sound, hstack_sound, vstack_sound}
use Rattle.laws_calculus.proofs.Sound.Functions.{Enough}
use Rattle.laws_calculus.proofs.Sound.Rows.{AreRows, rows_kept, rows_left, rows_map, kept_length, kept_is, kept_sound, left_length, left_is, left_sound, value_rows, pad_rows, rows_append, rows_chosen, rows_new}
use Rattle.laws_calculus.proofs.Forecast.Shapes.{Fits, AllFit, AtMost, fits_most, most_fits, IsPositive, AllPositive, full_positive, lift1_fits, lift2_fits, join_left, join_on}
use lib.Pointwise.{pointwise}
use Rattle.gl_calculus.specs.Values.Same.{same_scalar}
use Rattle.gl_calculus.specs.Computation.Lists.{fresh, has_member}
use Rattle.gl_calculus.proofs.Tables.{table_if, rows_if}

-- ---- arrays of rows

rows_fit : (b : Bool) (n : ℕ) (rs : List (List Scalar)) (s : Size) → AreRows n rs → length rs ≤ s.rows → n ≤ s.cols → Fits (Some s) (rows_if b rs)
rows_fit false n rs s h l k = tt
rows_fit true n [] s h l k = (l, omega arith)
rows_fit true n (r ∷ rs) s h l k = (l, omega (arith, h.0.0, k))

pub from_rows_fits : (n : ℕ) (rs : List (List Scalar)) (s : Size) → AreRows n rs → length rs ≤ s.rows → n ≤ s.cols → Fits (Some s) (from_rows rs)
from_rows_fits n rs s h l k = rows_fit (is_small (size (length rs) (width rs))) n rs s h l k

when_fits : (b : Bool) (k : ErrKind) (s : Shape) (v : Value) → Fits s v → Fits s (value_or_error (when b k v))
when_fits true k s v h = h
when_fits false k s v h = tt

some_rows_fits : (k : ErrKind) (n : ℕ) (rs : List (List Scalar)) (s : Size) → AreRows n rs → length rs ≤ s.rows → n ≤ s.cols → Fits (Some s) (value_or_error (some_rows k rs))
some_rows_fits k n rs s h l m = when_fits (nat_lt 0 (width rs)) k (Some s) (from_rows rs) (from_rows_fits n rs s h l m)

cut_count : (m n : ℕ) (xs : List Scalar) → length (cut m n xs) ≡ m
cut_count zero n xs = refl
cut_count (suc m) n xs = ap suc (cut_count m n (drop n xs))

row_count : (v : Value) → length (rows v) ≡ (shape v).rows
row_count (One x) = refl
row_count (Array s xs) = cut_count s.rows s.cols (items xs)

kept_count : {X : Type 0} (m : ℤ) (xs : List X) → length (kept m xs) ≤ length xs
kept_count (pos m) xs = omega (arith, length-take m xs)
kept_count (negsuc m) xs = omega (arith, length-drop (length xs - suc m) xs)

left_count : {X : Type 0} (m : ℤ) (xs : List X) → length (left_over m xs) ≤ length xs
left_count (pos m) xs = omega (arith, length-drop m xs)
left_count (negsuc m) xs = omega (arith, length-take (length xs - suc m) xs)

kept_within : (m : ℤ) (n : ℕ) → kept_length m n ≤ n
kept_within (pos m) n = omega arith
kept_within (negsuc m) n = omega arith

left_within : (m : ℤ) (n : ℕ) → left_length m n ≤ n
left_within (pos m) n = omega arith
left_within (negsuc m) n = omega arith

-- a part of the rows and columns of a value is no larger
module _ (s : Shape) (v : Value) (pos' : IsPositive s) (sound : IsSoundValue v) (fit : Fits s v) where
  most : AtMost (size_of s) v
  most = let p = full_positive s pos' in fits_most s v fit sound p.0 p.1

  part_fits : (some_of : ℤ → List (List Scalar) → List (List Scalar)) (part : ℤ → List Scalar → List Scalar) → ((m n : ℤ) → (k : ℕ) × AreRows k (map (part n) (some_of m (rows v))) × (k ≤ (shape v).cols) × (length (map (part n) (some_of m (rows v))) ≤ (shape v).rows)) → (u w : Value) → Fits (Some (size_of s)) (value_or_error (part_of some_of part v u w))
  part_fits some_of part g u w = by (no_error v) (number u) (number w) refl refl refl
    where
      by : (t : Try Value) (m n : Try ℤ) → no_error v ≡ t → number u ≡ m → number w ≡ n → Fits (Some (size_of s)) (value_or_error (part_of some_of part v u w))
      by (Err k) m n e f q = rw e tt
      by (Ok x) (Err k) n e f q = rw (e, f) tt
      by (Ok x) (Ok m) (Err k) e f q = rw (e, f, q) tt
      by (Ok x) (Ok m) (Ok n) e f q = let (k, a, l, c) = g m n in rw (e, f, q) (some_rows_fits ErrKind.Value k (map (part n) (some_of m (rows v))) (size_of s) a (omega (arith, c, most.0)) (omega (arith, l, most.1)))

  pub take_fits : (u w : Value) → Fits (Some (size_of s)) (value_or_error (part_of kept kept v u w))
  take_fits = part_fits kept kept (λ m n. (
    kept_length n (shape v).cols,
    rows_map (shape v).cols (kept n) (kept_length n) (kept_is n) (kept_sound n) (kept m (rows v)) (rows_kept (shape v).cols m (rows v) (value_rows v sound)),
    kept_within n (shape v).cols,
    omega (arith, length-map (kept m (rows v)) (kept n), kept_count m (rows v), row_count v),
  ))

  pub drop_fits : (u w : Value) → Fits (Some (size_of s)) (value_or_error (part_of left_over left_over v u w))
  drop_fits = part_fits left_over left_over (λ m n. (
    left_length n (shape v).cols,
    rows_map (shape v).cols (left_over n) (left_length n) (left_is n) (left_sound n) (left_over m (rows v)) (rows_left (shape v).cols m (rows v) (value_rows v sound)),
    left_within n (shape v).cols,
    omega (arith, length-map (left_over m (rows v)) (left_over n), left_count m (rows v), row_count v),
  ))

  chosen_count : (bs : List Bool) (rs : List (List Scalar)) → length (items_where_true bs rs) ≤ length rs
  chosen_count [] rs = omega arith
  chosen_count (b ∷ bs) [] = omega arith
  chosen_count (true ∷ bs) (r ∷ rs) = omega (arith, chosen_count bs rs)
  chosen_count (false ∷ bs) (r ∷ rs) = omega (arith, chosen_count bs rs)

  pub filter_fits : (keep : Value) → Fits (Some (size_of s)) (value_or_error (filter_rows v keep))
  filter_fits keep = by (no_error v) (no_error keep) (is_column_beside keep v) (first_fault truth_fault (elements keep)) refl refl refl refl
    where
      by : (t q : Try Value) (b : Bool) (o : Option ErrKind) → no_error v ≡ t → no_error keep ≡ q → is_column_beside keep v ≡ b → first_fault truth_fault (elements keep) ≡ o → Fits (Some (size_of s)) (value_or_error (filter_rows v keep))
      by (Err k) q b o e f g i = rw e tt
      by (Ok x) (Err k) b o e f g i = rw (e, f) tt
      by (Ok x) (Ok y) false o e f g i = rw (e, f, g) tt
      by (Ok x) (Ok y) true (Some k) e f g i = rw (e, f, g, i) tt
      by (Ok x) (Ok y) true None e f g i =
          rw (e, f, g, i)
          (some_rows_fits ErrKind.Na (shape v).cols (items_where_true (map keeps (elements keep)) (rows v)) (size_of s) (rows_chosen (shape v).cols (map keeps (elements keep)) (rows v) (value_rows v sound)) (omega (arith, chosen_count (map keeps (elements keep)) (rows v), row_count v, most.0)) most.1)

new_count : (seen rs : List (List Scalar)) → length (fresh (pointwise same_scalar) seen rs) ≤ length rs
new_count seen [] = omega arith
new_count seen (r ∷ rs) = by (has_member (pointwise same_scalar) r seen) (new_count seen rs) (new_count (r ∷ seen) rs)
  where
    by : (b : Bool) → length (fresh (pointwise same_scalar) seen rs) ≤ length rs → length (fresh (pointwise same_scalar) (r ∷ seen) rs) ≤ length rs → length (if b then fresh (pointwise same_scalar) seen rs else r ∷ fresh (pointwise same_scalar) (r ∷ seen) rs) ≤ suc (length rs)
    by true l k = omega (arith, l)
    by false l k = omega (arith, k)

pub unique_fits : (s : Shape) (v : Value) → IsSoundValue v → Fits s v → Fits s (unique v)
unique_fits s (One x) p h = tt
unique_fits None (Array z xs) p h = absurd h
unique_fits (Some s) (Array z xs) p h =
    from_rows_fits z.cols (fresh (pointwise same_scalar) [] (rows (Array z xs))) s (rows_new z.cols [] (rows (Array z xs)) (value_rows (Array z xs) p)) (omega (arith, new_count [] (rows (Array z xs)), row_count (Array z xs), h.0)) h.1

table_most : (b : Bool) (z : Size) (f : ℕ → ℕ → Scalar) (s : Size) → z.rows ≤ s.rows → z.cols ≤ s.cols → 1 ≤ s.rows → 1 ≤ s.cols → AtMost s (table_if b z f)
table_most true z f s h k a b = (h, k)
table_most false z f s h k a b = (a, b)

flipped_most : (s : Size) (v : Value) → AtMost s v → 1 ≤ s.rows → 1 ≤ s.cols → AtMost (Fo.flipped s) (flipped v)
flipped_most s v h a b = table_most (is_small (size (shape v).cols (shape v).rows)) (size (shape v).cols (shape v).rows) _ (Fo.flipped s) h.1 h.0 b a

pub transpose_fits : (s : Shape) (v : Value) → IsPositive s → Fits s v → Fits (option_map Fo.flipped s) (transpose v)
transpose_fits s (One x) p h = tt
transpose_fits None (Array z xs) p h = absurd h
transpose_fits (Some s) (Array z xs) p h = most_fits (Fo.flipped s) (flipped (Array z xs)) (flipped_most s (Array z xs) h p.0 p.1)

-- ---- stacks

abbrev AllMost : List Shape → List Value → Type 0
AllMost [] [] = Unit {0}
AllMost (s ∷ ss) (v ∷ vs) = AtMost (size_of s) v × AllMost ss vs
AllMost [] (v ∷ vs) = ⊥
AllMost (s ∷ ss) [] = ⊥

stack_rows : (n : ℕ) (ss : List Shape) (vs : List Value) → AllMost ss vs → length (map (padded n) (flat_map rows vs)) ≤ (vstack_size ss).rows
stack_rows n [] [] h = omega arith
stack_rows n (s ∷ ss) (v ∷ vs) h =
    omega (arith, length-map (flat_map rows (v ∷ vs)) (padded n), length-append (rows v) (flat_map rows vs), row_count v, h.0.0, stack_rows n ss vs h.1, length-map (flat_map rows vs) (padded n))
stack_rows n [] (v ∷ vs) h = absurd h
stack_rows n (s ∷ ss) [] h = absurd h

stack_cols : (ss : List Shape) (vs : List Value) → AllMost ss vs → greatest_cols vs ≤ (vstack_size ss).cols
stack_cols [] [] h = omega arith
stack_cols (s ∷ ss) (v ∷ vs) h = omega (arith, h.0.1, stack_cols ss vs h.1)
stack_cols [] (v ∷ vs) h = absurd h
stack_cols (s ∷ ss) [] h = absurd h

padded_rows : (n : ℕ) (vs : List Value) → greatest_cols vs ≤ n → AllSoundValues vs → AreRows n (map (padded n) (flat_map rows vs))
padded_rows n [] l h = tt
padded_rows n (v ∷ vs) l h =
    subst (AreRows n) (sym (map-append (padded n) (rows v) (flat_map rows vs)))
    (rows_append n (map (padded n) (rows v)) (map (padded n) (flat_map rows vs)) (pad_rows (shape v).cols n (rows v) (omega (arith, l)) (value_rows v h.0)) (padded_rows n vs (omega (arith, l)) h.1))

vstack_fits : (ss : List Shape) (vs : List Value) → AllMost ss vs → AllSoundValues vs → Fits (Some (vstack_size ss)) (vstack vs)
vstack_fits ss vs h p = from_rows_fits (greatest_cols vs) (map (padded (greatest_cols vs)) (flat_map rows vs)) (vstack_size ss) (padded_rows (greatest_cols vs) vs (omega arith) p) (stack_rows (greatest_cols vs) ss vs h) (stack_cols ss vs h)

-- a sound array that fits some extents fits them cut
factor_rows : (m n : ℕ) → 1 ≤ n → m * n ≤ max_cells → m ≤ max_cells
factor_rows m zero h l = absurd (omega (arith, h))
factor_rows m (suc n) h l = let e : m * suc n ≡ m + m * n = grind arith in omega (arith, e, l)

factor_cols : (m n : ℕ) → 1 ≤ m → m * n ≤ max_cells → n ≤ max_cells
factor_cols zero n h l = absurd (omega (arith, h))
factor_cols (suc m) n h l = let e : suc m * n ≡ n + m * n = grind arith in omega (arith, e, l)

pub small_rows : (z : Size) (xs : _) → IsSoundValue (Array z xs) → z.rows ≤ max_cells
small_rows z xs h = let e = (parts_of z xs h).extents in factor_rows z.rows z.cols e.cols e.small

pub small_cols : (z : Size) (xs : _) → IsSoundValue (Array z xs) → z.cols ≤ max_cells
small_cols z xs h = let e = (parts_of z xs h).extents in factor_cols z.rows z.cols e.rows e.small

pub cut_fits : (s : Size) (v : Value) → IsSoundValue v → Fits (Some s) v → Fits (Some (Fo.limited s)) v
cut_fits s (One x) p h = tt
cut_fits s (Array z xs) p h = (omega (arith, h.0, small_rows z xs p), omega (arith, h.1, small_cols z xs p))

pub any_fits : (v : Value) → IsSoundValue v → Fits (Some any_size) v
any_fits (One x) p = tt
any_fits (Array z xs) p = (small_rows z xs p, small_cols z xs p)

under_positive : (s : Shape) (ss : List Shape) → AllPositive (s ∷ ss) → (1 ≤ (vstack_size (s ∷ ss)).rows) × (1 ≤ (vstack_size (s ∷ ss)).cols)
under_positive s ss h = let p = full_positive s h.0 in (omega (arith, p.0), omega (arith, p.1))

flipped_positive : (ss : List Shape) → AllPositive ss → AllPositive (map (option_map Fo.flipped) ss)
flipped_positive [] h = tt
flipped_positive (None ∷ ss) h = (tt, flipped_positive ss h.1)
flipped_positive (Some s ∷ ss) h = ((h.0.1, h.0.0), flipped_positive ss h.1)

all_most : (ss : List Shape) (vs : List Value) → AllPositive ss → AllSoundValues vs → AllFit ss vs → AllMost ss vs
all_most [] [] p q h = tt
all_most (s ∷ ss) (v ∷ vs) p q h = let a = full_positive s p.0 in (fits_most s v h.0 q.0 a.0 a.1, all_most ss vs p.1 q.1 h.1)
all_most [] (v ∷ vs) p q h = absurd h
all_most (s ∷ ss) [] p q h = absurd h

all_flipped_most : (ss : List Shape) (vs : List Value) → AllPositive ss → AllMost ss vs → AllMost (map (option_map Fo.flipped) ss) (map flipped vs)
all_flipped_most [] [] p h = tt
all_flipped_most (None ∷ ss) (v ∷ vs) p h = (flipped_most (size 1 1) v h.0 (omega arith) (omega arith), all_flipped_most ss vs p.1 h.1)
all_flipped_most (Some s ∷ ss) (v ∷ vs) p h = (flipped_most s v h.0 p.0.0 p.0.1, all_flipped_most ss vs p.1 h.1)
all_flipped_most [] (v ∷ vs) p h = absurd h
all_flipped_most (s ∷ ss) [] p h = absurd h

flipped_sound : (v : Value) → IsSoundValue v → IsSoundValue (flipped v)
flipped_sound v h =
    let p = shape_positive v h in
    table_sound (size (shape v).cols (shape v).rows) (λ i j. item v j i) (record { rows = p.cols; cols = p.rows }) (λ i j. item_sound v j i h)

all_flipped_sound : (vs : List Value) → AllSoundValues vs → AllSoundValues (map flipped vs)
all_flipped_sound [] h = tt
all_flipped_sound (v ∷ vs) h = (flipped_sound v h.0, all_flipped_sound vs h.1)

hstack_fits : (s : Shape) (ss : List Shape) (vs : List Value) → AllPositive (s ∷ ss) → AllSoundValues vs → AllFit (s ∷ ss) vs → Fits (Some (hstack_size (s ∷ ss))) (hstack vs)
hstack_fits s ss vs p q h =
    let ts = map (option_map Fo.flipped) (s ∷ ss) in
    transpose_fits (Some (vstack_size ts)) (vstack (map flipped vs)) (under_positive (option_map Fo.flipped s) (map (option_map Fo.flipped) ss) (flipped_positive (s ∷ ss) p))
    (vstack_fits ts (map flipped vs) (all_flipped_most (s ∷ ss) vs p (all_most (s ∷ ss) vs p q h)) (all_flipped_sound vs q))

-- ---- one element, and counts

index_fits : (v r c : Value) → Fits None (value_or_error (index v r c))
index_fits v r c = by (no_error v) (number r) (number c) refl refl refl
  where
    by : (t : Try Value) (m n : Try ℤ) → no_error v ≡ t → number r ≡ m → number c ≡ n → Fits None (value_or_error (index v r c))
    by (Err k) m n e f g = rw e tt
    by (Ok u) (Err k) n e f g = rw (e, f) tt
    by (Ok u) (Ok m) (Err k) e f g = rw (e, f, g) tt
    by (Ok u) (Ok (pos zero)) (Ok n) e f g = rw (e, f, g) tt
    by (Ok u) (Ok (negsuc i)) (Ok n) e f g = rw (e, f, g) tt
    by (Ok u) (Ok (pos (suc i))) (Ok (pos zero)) e f g = rw (e, f, g) tt
    by (Ok u) (Ok (pos (suc i))) (Ok (negsuc j)) e f g = rw (e, f, g) tt
    by (Ok u) (Ok (pos (suc i))) (Ok (pos (suc j))) e f g = rw (e, f, g) (when_fits (nat_lt i (shape v).rows && nat_lt j (shape v).cols) ErrKind.Ref None (One (item v i j)) tt)

lookup_fits : (u keys v : Value) → Fits None (value_or_error (lookup u keys v))
lookup_fits u keys v = by (sought u) (no_error keys) (no_error v) refl refl refl
  where
    by : (s : Try Scalar) (m n : Try Value) → sought u ≡ s → no_error keys ≡ m → no_error v ≡ n → Fits None (value_or_error (lookup u keys v))
    by (Err k) m n e f g = rw e tt
    by (Ok x) (Err k) n e f g = rw (e, f) tt
    by (Ok x) (Ok m) (Err k) e f g = rw (e, f, g) tt
    by (Ok x) (Ok m) (Ok n) e f g = rw (e, f, g) (when_fits (is_column_beside keys v && is_column_beside v keys) ErrKind.Value None (One (looked_up x (elements keys) (elements v))) tt)

extent_fits : (f : Size → ℕ) (v : Value) → Fits None (extent f v)
extent_fits f (One (Scalar.Err k)) = tt
extent_fits f v = tt

-- ---- SEQUENCE

-- what the value of a formula is that is an integer as written
abbrev pub IsWritten : Formula → Value → Type 0
IsWritten (F.Formula.Int n) v = v ≡ One (Scalar.Int n)
IsWritten f v = Unit {0}

abbrev pub AllWritten : Formulas → List Value → Type 0
AllWritten F.Formulas.no_formula [] = Unit {0}
AllWritten (F.Formulas.formula_and f fs) (v ∷ vs) = IsWritten f v × AllWritten fs vs
AllWritten F.Formulas.no_formula (v ∷ vs) = ⊥
AllWritten (F.Formulas.formula_and f fs) [] = ⊥

written_is : (f : Formula) (v : Value) (n : ℕ) → IsWritten f v → Fo.written_extent f ≡ Some n → (v ≡ One (Scalar.Int (pos n))) × (1 ≤ n)
written_is (F.Formula.Int (pos m)) v n h e =
    (elim (nat_lt 0 m && nat_le m max_cells) as (λ b. nat_lt 0 m && nat_le m max_cells ≡ b → (if b then Some m else None) ≡ Some n → (v ≡ One (Scalar.Int (pos n))) × (1 ≤ n)) [
      | true ↦ λ u z.
          let p : m ≡ n = cc z in
          let q = ltb-true 0 m (and_parts (nat_lt 0 m) (nat_le m max_cells) u).0 in
          (subst (λ k. v ≡ One (Scalar.Int (pos k))) p h, omega (arith, q, p))
      | false ↦ λ u z. absurd (cc z)
    ]) refl e
written_is (F.Formula.Int (negsuc m)) v n h e = absurd (cc e)
written_is f v n h e = absurd (cc e)

sequence_written : (m n : ℕ) → 1 ≤ m → 1 ≤ n → Fits (Some (size m n)) (value_or_error (sequence (One (Scalar.Int (pos m))) (One (Scalar.Int (pos n)))))
sequence_written zero n h k = absurd (omega (arith, h))
sequence_written (suc m) zero h k = absurd (omega (arith, k))
sequence_written (suc m) (suc n) h k = fits_table (is_small (size (suc m) (suc n)))
  where
    fits_table : (b : Bool) → Fits (Some (size (suc m) (suc n))) (table_if b (size (suc m) (suc n)) (λ i j. Scalar.Int (pos (i * suc n + j + 1))))
    fits_table true = (omega arith, omega arith)
    fits_table false = tt

sequence_fits : (f g : Formula) (u v : Value) → IsWritten f u → IsWritten g v → Fits (Some (Fo.written_size (Fo.written_extent f) (Fo.written_extent g))) (value_or_error (sequence u v))
sequence_fits f g u v h k = by (Fo.written_extent f) (Fo.written_extent g) refl refl
  where
    by : (o p : Option ℕ) → Fo.written_extent f ≡ o → Fo.written_extent g ≡ p → Fits (Some (Fo.written_size o p)) (value_or_error (sequence u v))
    by (Some m) (Some n) e d =
        let (a, b) = written_is f u m h e in
        let (c, l) = written_is g v n k d in
        rw (a, c) (sequence_written m n b l)
    by None p e d = any_fits (value_or_error (sequence u v)) (sequence_sound u v)
    by (Some m) None e d = any_fits (value_or_error (sequence u v)) (sequence_sound u v)

-- ---- all of them

alone_fits : (s : Shape) (v : Value) → Fits s v → Fits (Fo.greatest_shape (s ∷ [])) v
alone_fits s v h = join_left s None v h

two_fit : (s t : Shape) (v : Value) → Fits (Fo.greater_shape s t) v → Fits (Fo.greatest_shape (s ∷ t ∷ [])) v
two_fit s t v h = join_on s t None v (join_left (Fo.greater_shape s t) None v h)

stacked : (s : Size) (v : Value) → IsSoundValue v → Fits (Some s) v → Fits (Some (Fo.limited s)) v
stacked = cut_fits

pub call_fits : (f : Fun) (fs : Formulas) (ss : List Shape) (vs : List Value) → Enough f (length vs) → AllWritten fs vs → AllPositive ss → AllSoundValues vs → AllFit ss vs → Fits (Fo.call_shape f fs ss) (apply f vs)
unfolding apply
call_fits F.Fun.Sum fs ss vs e w p q h = tt
call_fits F.Fun.Count fs ss vs e w p q h = tt
call_fits F.Fun.Min fs ss vs e w p q h = tt
call_fits F.Fun.Max fs ss vs e w p q h = tt
call_fits F.Fun.And fs ss vs e w p q h = tt
call_fits F.Fun.Or fs ss vs e w p q h = tt
call_fits F.Fun.Not fs (s ∷ []) (v ∷ []) e w p q h = alone_fits s _ (lift1_fits negation s v h.0)
call_fits F.Fun.IsError fs (s ∷ []) (v ∷ []) e w p q h = alone_fits s _ (lift1_fits is_error s v h.0)
call_fits F.Fun.IsBlank fs (s ∷ []) (v ∷ []) e w p q h = alone_fits s _ (lift1_fits is_blank s v h.0)
call_fits F.Fun.Abs fs (s ∷ []) (v ∷ []) e w p q h = alone_fits s _ (lift1_fits magnitude s v h.0)
call_fits F.Fun.Len fs (s ∷ []) (v ∷ []) e w p q h = alone_fits s _ (lift1_fits text_length s v h.0)
call_fits F.Fun.Mod fs (s ∷ t ∷ []) (u ∷ v ∷ []) e w p q h = two_fit s t _ (lift2_fits (numeric modulo) s t u v q.0 q.1.0 h.0 h.1.0)
call_fits F.Fun.Left fs (s ∷ t ∷ []) (u ∷ v ∷ []) e w p q h = two_fit s t _ (lift2_fits (text_part take) s t u v q.0 q.1.0 h.0 h.1.0)
call_fits F.Fun.Right fs (s ∷ t ∷ []) (u ∷ v ∷ []) e w p q h = two_fit s t _ (lift2_fits (text_part take_last) s t u v q.0 q.1.0 h.0 h.1.0)
call_fits F.Fun.Rows fs ss (v ∷ []) e w p q h = extent_fits (λ s. s.rows) v
call_fits F.Fun.Columns fs ss (v ∷ []) e w p q h = extent_fits (λ s. s.cols) v
call_fits F.Fun.Index fs ss (v ∷ r ∷ c ∷ []) e w p q h = index_fits v r c
call_fits F.Fun.Lookup fs ss (u ∷ k ∷ v ∷ []) e w p q h = lookup_fits u k v
call_fits F.Fun.Sequence (F.Formulas.formula_and f (F.Formulas.formula_and g F.Formulas.no_formula)) ss (u ∷ v ∷ []) e w p q h = sequence_fits f g u v w.0 w.1.0
call_fits F.Fun.Transpose fs (s ∷ []) (v ∷ []) e w p q h = transpose_fits s v p.0 h.0
call_fits F.Fun.Unique fs (s ∷ []) (v ∷ []) e w p q h = unique_fits s v q.0 h.0
call_fits F.Fun.Take fs (s ∷ ss) (v ∷ m ∷ n ∷ []) e w p q h = take_fits s v p.0 q.0 h.0 m n
call_fits F.Fun.Drop fs (s ∷ ss) (v ∷ m ∷ n ∷ []) e w p q h = drop_fits s v p.0 q.0 h.0 m n
call_fits F.Fun.Filter fs (s ∷ ss) (v ∷ k ∷ []) e w p q h = filter_fits s v p.0 q.0 h.0 k
call_fits F.Fun.HStack fs (s ∷ ss) vs e w p q h = stacked (hstack_size (s ∷ ss)) (hstack vs) (hstack_sound vs e q) (hstack_fits s ss vs p q h)
call_fits F.Fun.VStack fs ss vs e w p q h = stacked (vstack_size ss) (vstack vs) (vstack_sound vs e q) (vstack_fits ss vs (all_most ss vs p q h) q)
call_fits F.Fun.HStack fs [] [] e w p q h = absurd (omega (arith, e))
call_fits F.Fun.Sequence F.Formulas.no_formula ss (v ∷ vs) e w p q h = absurd w
call_fits F.Fun.Sequence (F.Formulas.formula_and f F.Formulas.no_formula) ss (u ∷ v ∷ vs) e w p q h = absurd w.1
call_fits F.Fun.Sequence (F.Formulas.formula_and f (F.Formulas.formula_and g (F.Formulas.formula_and k fs))) ss (u ∷ v ∷ []) e w p q h = absurd w.1.1
call_fits f fs [] [] e w p q h = tt
call_fits f fs (s ∷ []) (v ∷ []) e w p q h = tt
call_fits f fs (s ∷ t ∷ []) (u ∷ v ∷ []) e w p q h = tt
call_fits f fs (s ∷ t ∷ r ∷ []) (u ∷ v ∷ x ∷ []) e w p q h = tt
call_fits f fs (s ∷ t ∷ r ∷ o ∷ ss) (u ∷ v ∷ x ∷ y ∷ vs) e w p q h = tt
call_fits f fs [] (v ∷ vs) e w p q h = absurd h
call_fits f fs (s ∷ []) (u ∷ v ∷ vs) e w p q h = absurd h.1
call_fits f fs (s ∷ t ∷ []) (u ∷ v ∷ x ∷ vs) e w p q h = absurd h.1.1
call_fits f fs (s ∷ t ∷ r ∷ []) (u ∷ v ∷ x ∷ y ∷ vs) e w p q h = absurd h.1.1.1
call_fits f fs (s ∷ ss) [] e w p q h = absurd h
call_fits f fs (s ∷ t ∷ ss) (u ∷ []) e w p q h = absurd h.1
call_fits f fs (s ∷ t ∷ r ∷ ss) (u ∷ v ∷ []) e w p q h = absurd h.1.1
call_fits f fs (s ∷ t ∷ r ∷ o ∷ ss) (u ∷ v ∷ x ∷ []) e w p q h = absurd h.1.1.1
