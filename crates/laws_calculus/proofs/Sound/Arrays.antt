-- The functions on arrays give sound values.
use Rattle.std.proofs.Common.{◌≡◌, ℕ, zero, suc, ◌+◌, ◌*◌, ◌<◌, ◌≤◌, nat_lt, ℤ, pos, negsuc, Bool, true, false, ◌&&◌, List, [], ◌∷◌, length, map, Option, Some, None, Ok, Err, refl, sym, subst, arith, if◌then◌else◌}
use Rattle.std.specs.List.{flat_map, items_where_true}
use Rattle.std.proofs.lemmas.Bool.{ltb-true}
use Rattle.std.proofs.lemmas.List.{length-append, length-map, map-append}
use Rattle.gl_calculus.specs.Grid.Grid.{Size, size}
use Rattle.gl_calculus.specs.Values.ErrKind.{ErrKind}
use Rattle.gl_calculus.specs.Values.Value.{Scalar, Value, One, Array, elements}
use Rattle.gl_calculus.specs.Values.Operators.{agrees}
use Rattle.gl_calculus.specs.Values.Lift.{shape, item, rows, from_rows}
use Rattle.gl_calculus.specs.Values.Functions.{Try, value_or_error, no_error, number, when, first_fault, truth_fault, extent, index, sequence, flipped, transpose, kept, left_over, some_rows, part_of, padded, greatest_cols, vstack, hstack, is_column_beside, filter_rows, unique, sought, looked_up, lookup, keeps}
use Rattle.laws_calculus.proofs.Sound.Values.{IsSound, AllSound, IsSoundValue, AllSoundValues, elements_sound}
use Rattle.laws_calculus.proofs.Sound.Lift.{item_sound, shape_positive, table_sound}
use Rattle.laws_calculus.proofs.Sound.Rows.{AreRows, rows_append, rows_kept, rows_left, rows_map, kept_length, kept_is, kept_sound, left_length, left_is, left_sound, from_rows_sound, value_rows, value_rows_some, pad_rows, rows_chosen, rows_new, some_new}
use lib.Pointwise.{pointwise}
use Rattle.gl_calculus.specs.Values.Same.{same_scalar}
use Rattle.gl_calculus.specs.Computation.Lists.{distinct}

when_sound : (b : Bool) (k : ErrKind) (v : Value) → (b ≡ true → IsSoundValue v) → IsSoundValue (value_or_error (when b k v))
when_sound true k v h = h refl
when_sound false k v h = refl

some_rows_sound : (k : ErrKind) (n : ℕ) (rs : List (List Scalar)) → AreRows n rs → IsSoundValue (value_or_error (some_rows k rs))
some_rows_sound k n [] h = refl
some_rows_sound k n (r ∷ rs) h = when_sound (nat_lt 0 (length r)) k (from_rows (r ∷ rs)) (λ e. from_rows_sound n (r ∷ rs) (omega arith) (omega (arith, ltb-true 0 (length r) e, h.0.0)) h)

pub extent_sound : (f : Size → ℕ) (v : Value) → IsSoundValue (extent f v)
extent_sound f (One (Scalar.Err k)) = refl
extent_sound f v = refl

-- ---- elements

pub index_sound : (v r c : Value) → IsSoundValue v → IsSoundValue (value_or_error (index v r c))
index_sound v r c h = by (no_error v) (number r) (number c) refl refl refl
  where
    by : (t : Try Value) (m n : Try ℤ) → no_error v ≡ t → number r ≡ m → number c ≡ n → IsSoundValue (value_or_error (index v r c))
    by (Err k) m n e f g = rw e refl
    by (Ok u) (Err k) n e f g = rw (e, f) refl
    by (Ok u) (Ok m) (Err k) e f g = rw (e, f, g) refl
    by (Ok u) (Ok (pos zero)) (Ok n) e f g = rw (e, f, g) refl
    by (Ok u) (Ok (negsuc i)) (Ok n) e f g = rw (e, f, g) refl
    by (Ok u) (Ok (pos (suc i))) (Ok (pos zero)) e f g = rw (e, f, g) refl
    by (Ok u) (Ok (pos (suc i))) (Ok (negsuc j)) e f g = rw (e, f, g) refl
    by (Ok u) (Ok (pos (suc i))) (Ok (pos (suc j))) e f g =
        rw (e, f, g) (when_sound (nat_lt i (shape v).rows && nat_lt j (shape v).cols) ErrKind.Ref (One (item v i j)) (λ q. item_sound v i j h))

pub sequence_sound : (u v : Value) → IsSoundValue (value_or_error (sequence u v))
sequence_sound u v = by (number u) (number v) refl refl
  where
    by : (m n : Try ℤ) → number u ≡ m → number v ≡ n → IsSoundValue (value_or_error (sequence u v))
    by (Err k) n f g = rw f refl
    by (Ok m) (Err k) f g = rw (f, g) refl
    by (Ok (pos zero)) (Ok n) f g = rw (f, g) refl
    by (Ok (negsuc i)) (Ok n) f g = rw (f, g) refl
    by (Ok (pos (suc i))) (Ok (pos zero)) f g = rw (f, g) refl
    by (Ok (pos (suc i))) (Ok (negsuc j)) f g = rw (f, g) refl
    by (Ok (pos (suc m))) (Ok (pos (suc n))) f g =
        rw (f, g) (table_sound (size (suc m) (suc n)) (λ i j. Scalar.Int (pos (i * suc n + j + 1))) (record { rows = omega arith; cols = omega arith }) (λ i j. refl))

looked_up_sound : (x : Scalar) (ks vs : List Scalar) → AllSound vs → IsSound (looked_up x ks vs)
looked_up_sound x [] vs h = refl
looked_up_sound x (k ∷ ks) [] h = refl
looked_up_sound x (k ∷ ks) (v ∷ vs) h = choice (agrees k x) v (looked_up x ks vs) h.0 (looked_up_sound x ks vs h.1)
  where
    choice : (b : Bool) (y z : Scalar) → IsSound y → IsSound z → IsSound (if b then y else z)
    choice true y z p q = p
    choice false y z p q = q

pub lookup_sound : (u keys v : Value) → IsSoundValue v → IsSoundValue (value_or_error (lookup u keys v))
lookup_sound u keys v h = by (sought u) (no_error keys) (no_error v) refl refl refl
  where
    by : (s : Try Scalar) (m n : Try Value) → sought u ≡ s → no_error keys ≡ m → no_error v ≡ n → IsSoundValue (value_or_error (lookup u keys v))
    by (Err k) m n e f g = rw e refl
    by (Ok x) (Err k) n e f g = rw (e, f) refl
    by (Ok x) (Ok m) (Err k) e f g = rw (e, f, g) refl
    by (Ok x) (Ok m) (Ok n) e f g =
        rw (e, f, g) (when_sound (is_column_beside keys v && is_column_beside v keys) ErrKind.Value (One (looked_up x (elements keys) (elements v))) (λ q. looked_up_sound x (elements keys) (elements v) (elements_sound v h)))

-- ---- rows and columns

flipped_sound : (v : Value) → IsSoundValue v → IsSoundValue (flipped v)
flipped_sound v h =
    let p = shape_positive v h in
    table_sound (size (shape v).cols (shape v).rows) (λ i j. item v j i) (record { rows = p.cols; cols = p.rows }) (λ i j. item_sound v j i h)

pub transpose_sound : (v : Value) → IsSoundValue v → IsSoundValue (transpose v)
transpose_sound (One x) h = h
transpose_sound (Array s xs) h = flipped_sound (Array s xs) h

kept_part_rows : (c : ℕ) (m n : ℤ) (rs : List (List Scalar)) → AreRows c rs → AreRows (kept_length n c) (map (kept n) (kept m rs))
kept_part_rows c m n rs h = rows_map c (kept n) (kept_length n) (kept_is n) (kept_sound n) (kept m rs) (rows_kept c m rs h)

left_part_rows : (c : ℕ) (m n : ℤ) (rs : List (List Scalar)) → AreRows c rs → AreRows (left_length n c) (map (left_over n) (left_over m rs))
left_part_rows c m n rs h = rows_map c (left_over n) (left_length n) (left_is n) (left_sound n) (left_over m rs) (rows_left c m rs h)

part_sound : (some_of : ℤ → List (List Scalar) → List (List Scalar)) (part : ℤ → List Scalar → List Scalar) (by : ℤ → ℕ → ℕ) → ((c : ℕ) (m n : ℤ) (rs : List (List Scalar)) → AreRows c rs → AreRows (by n c) (map (part n) (some_of m rs))) →
    (v u w : Value) → IsSoundValue v → IsSoundValue (value_or_error (part_of some_of part v u w))
part_sound some_of part by g v u w h = cases (no_error v) (number u) (number w) refl refl refl
  where
    cases : (t : Try Value) (m n : Try ℤ) → no_error v ≡ t → number u ≡ m → number w ≡ n → IsSoundValue (value_or_error (part_of some_of part v u w))
    cases (Err k) m n e f q = rw e refl
    cases (Ok x) (Err k) n e f q = rw (e, f) refl
    cases (Ok x) (Ok m) (Err k) e f q = rw (e, f, q) refl
    cases (Ok x) (Ok m) (Ok n) e f q = rw (e, f, q) (some_rows_sound ErrKind.Value (by n (shape v).cols) (map (part n) (some_of m (rows v))) (g (shape v).cols m n (rows v) (value_rows v h)))

pub take_sound : (v u w : Value) → IsSoundValue v → IsSoundValue (value_or_error (part_of kept kept v u w))
take_sound = part_sound kept kept kept_length kept_part_rows

pub drop_sound : (v u w : Value) → IsSoundValue v → IsSoundValue (value_or_error (part_of left_over left_over v u w))
drop_sound = part_sound left_over left_over left_length left_part_rows

pub filter_sound : (v keep : Value) → IsSoundValue v → IsSoundValue (value_or_error (filter_rows v keep))
filter_sound v keep h = by (no_error v) (no_error keep) (is_column_beside keep v) (first_fault truth_fault (elements keep)) refl refl refl refl
  where
    by : (t s : Try Value) (b : Bool) (o : Option ErrKind) → no_error v ≡ t → no_error keep ≡ s → is_column_beside keep v ≡ b → first_fault truth_fault (elements keep) ≡ o → IsSoundValue (value_or_error (filter_rows v keep))
    by (Err k) s b o e f g i = rw e refl
    by (Ok x) (Err k) b o e f g i = rw (e, f) refl
    by (Ok x) (Ok y) false o e f g i = rw (e, f, g) refl
    by (Ok x) (Ok y) true (Some k) e f g i = rw (e, f, g, i) refl
    by (Ok x) (Ok y) true None e f g i = rw (e, f, g, i) (some_rows_sound ErrKind.Na (shape v).cols (items_where_true (map keeps (elements keep)) (rows v)) (rows_chosen (shape v).cols (map keeps (elements keep)) (rows v) (value_rows v h)))

pub unique_sound : (v : Value) → IsSoundValue v → IsSoundValue (unique v)
unique_sound (One x) h = h
unique_sound (Array s xs) h =
    from_rows_sound s.cols (distinct (pointwise same_scalar) (rows (Array s xs))) (some_new (rows (Array s xs)) (value_rows_some (Array s xs) h)) (shape_positive (Array s xs) h).cols
    (rows_new s.cols [] (rows (Array s xs)) (value_rows (Array s xs) h))

-- ---- stacks

padded_rows : (n : ℕ) (vs : List Value) → greatest_cols vs ≤ n → AllSoundValues vs → AreRows n (map (padded n) (flat_map rows vs))
padded_rows n [] l h = tt
padded_rows n (v ∷ vs) l h =
    subst (AreRows n) (sym (map-append (padded n) (rows v) (flat_map rows vs)))
    (rows_append n (map (padded n) (rows v)) (map (padded n) (flat_map rows vs)) (pad_rows (shape v).cols n (rows v) (omega (arith, l)) (value_rows v h.0)) (padded_rows n vs (omega (arith, l)) h.1))

pub vstack_sound : (vs : List Value) → 0 < length vs → AllSoundValues vs → IsSoundValue (vstack vs)
vstack_sound [] l h = absurd (omega (arith, l))
vstack_sound (v ∷ vs) l h =
    let n = greatest_cols (v ∷ vs) in
    from_rows_sound n (map (padded n) (flat_map rows (v ∷ vs)))
    (omega (arith, length-map (flat_map rows (v ∷ vs)) (padded n), length-append (rows v) (flat_map rows vs), value_rows_some v h.0))
    (omega (arith, (shape_positive v h.0).cols))
    (padded_rows n (v ∷ vs) (omega arith) h)

all_flipped : (vs : List Value) → AllSoundValues vs → AllSoundValues (map flipped vs)
all_flipped [] h = tt
all_flipped (v ∷ vs) h = (flipped_sound v h.0, all_flipped vs h.1)

pub hstack_sound : (vs : List Value) → 0 < length vs → AllSoundValues vs → IsSoundValue (hstack vs)
hstack_sound vs l h = transpose_sound (vstack (map flipped vs)) (vstack_sound (map flipped vs) (omega (arith, length-map vs flipped, l)) (all_flipped vs h))
