-- The rows that a list names, and those that a column of truths keeps.
use Rattle.std.proofs.Common.{◌≡◌, ℕ, zero, suc, ◌+◌, ◌<◌, ◌≤◌, Bool, true, false, cond, None, slice_get, List, [], ◌∷◌, ◌++◌, length, map, filter, refl, ap, sym, ◌∙◌, arith, IsTrue}
use Rattle.std.specs.List.{range_with_len, items_where_true}
use Rattle.std.proofs.lemmas.List.{map-id}
use Rattle.std.proofs.lemmas.List.FromFn.{length-map-range_with_len, filter_of_map_range_with_len_more}
use Rattle.gl_calculus.specs.Grid.Grid.{size}
use Rattle.gl_calculus.specs.Values.ErrKind.{ErrKind}
use Rattle.gl_calculus.specs.Values.Value.{Scalar, Value, elements}
use Rattle.gl_calculus.specs.Values.Lift.{item, shape, table, rows, width, from_rows}
use Rattle.gl_calculus.specs.Values.Functions.{is_column_beside, keeps, some_rows, value_or_error, when}
use Rattle.gl_calculus.specs.Evaluation.Sound.{is_sound_value}
use Rattle.gl_arrays.specs.Parts.{row, picked, keeps_row, column_from}
use Rattle.gl_arrays.proofs.Ranges.{map_same, map_shift}
use Rattle.gl_arrays.proofs.Tables.{rows_are, from_rows_are, extents_small, test_lt}
use Rattle.gl_arrays.proofs.OneColumn.{is_column, column_is}

-- ---- listed rows

picked_rest : (v : Value) (k : ℕ) (ks : List ℕ) (i j : ℕ) → picked v (k ∷ ks) (1 + i) j ≡ picked v ks i j
picked_rest v k ks i j = let z : 1 + i ≡ suc i = omega arith in rw z refl

none_past : (ks : List ℕ) (i : ℕ) → length ks ≤ i → slice_get ks i ≡ None
none_past [] i h = refl
none_past (k ∷ ks) zero h = absurd (omega arith)
none_past (k ∷ ks) (suc i) h = none_past ks i (omega arith)

pub picked_past : (v : Value) (ks : List ℕ) (i j : ℕ) → length ks ≤ i → Scalar.Err ErrKind.Na ≡ picked v ks i j
picked_past v ks i j h = let none = none_past ks i h in rw none refl

listed : (v : Value) (ks : List ℕ) → map (row v) ks ≡ map (λ i. map (picked v ks i) (range_with_len 0 (shape v).cols)) (range_with_len 0 (length ks))
listed v [] = refl
listed v (k ∷ ks) =
    let n = (shape v).cols in
    let f = λ (i : ℕ). map (picked v (k ∷ ks) i) (range_with_len 0 n) in
    ap (λ rs. row v k ∷ rs) (
    listed v ks
    ∙ map_same (λ i. map (picked v ks i) (range_with_len 0 n)) (λ i. f (1 + i)) 0 (length ks) (λ i _ _. map_same (picked v ks i) (picked v (k ∷ ks) (1 + i)) 0 n (λ j _ _. sym (picked_rest v k ks i j)))
    ∙ sym (map_shift f 1 0 1 (length ks) refl)
    )

pub listed_table : (v : Value) (ks : List ℕ) → 0 < length ks → table (size (length ks) (shape v).cols) (picked v ks) ≡ from_rows (map (row v) ks)
listed_table v ks h = sym (ap from_rows (listed v ks) ∙ from_rows_are (picked v ks) (length ks) (shape v).cols h)

some_width : (v : Value) (ks : List ℕ) → IsTrue (is_sound_value v) → 0 < length ks → 0 < width (map (row v) ks)
some_width v [] h l = absurd (omega arith)
some_width v (k ∷ ks) h l = let e = extents_small v h in let all = length-map-range_with_len (item v k) 0 (shape v).cols in rw all e.1

pub some_listed : (k : ErrKind) (v : Value) (ks : List ℕ) → IsTrue (is_sound_value v) → 0 < length ks → from_rows (map (row v) ks) ≡ value_or_error (some_rows k (map (row v) ks))
some_listed k v ks h l = sym (ap (λ b. value_or_error (when b k (from_rows (map (row v) ks)))) (test_lt 0 (width (map (row v) ks)) (some_width v ks h l)))

-- ---- kept rows

kept_step : (b : Bool) (r : ℕ → List Scalar) (x : ℕ) (xs : List ℕ) (bs : List Bool) (zs : List (List Scalar)) → items_where_true bs zs ≡ map r xs → items_where_true (b ∷ bs) (r x ∷ zs) ≡ map r (cond b (x ∷ xs) xs)
kept_step true r x xs bs zs e = ap (λ ys. r x ∷ ys) e
kept_step false r x xs bs zs e = e

kept_map : (k : ℕ → Scalar) (r : ℕ → List Scalar) (a n : ℕ) → items_where_true (map keeps (map k (range_with_len a n))) (map r (range_with_len a n)) ≡ map r (filter (λ i. keeps (k i)) (range_with_len a n))
kept_map k r a zero = refl
kept_map k r a (suc n) =
    kept_step (keeps (k a)) r a (filter (λ i. keeps (k i)) (range_with_len (a + 1) n)) (map keeps (map k (range_with_len (a + 1) n))) (map r (range_with_len (a + 1) n)) (kept_map k r (a + 1) n)

pub kept_are : (v keep : Value) → IsTrue (is_sound_value v) → IsTrue (is_sound_value keep) → IsTrue (is_column_beside keep v) → items_where_true (map keeps (elements keep)) (rows v) ≡ map (row v) (filter (keeps_row keep) (range_with_len 0 (shape keep).rows))
kept_are v keep h k b =
    let c = is_column keep v b in
    ap (λ ks. items_where_true (map keeps ks) (rows v)) (column_is keep k c.0)
    ∙ ap (λ rs. items_where_true (map keeps (column_from keep 0 (shape keep).rows)) rs) (rows_are v h)
    ∙ ap (λ n. items_where_true (map keeps (column_from keep 0 (shape keep).rows)) (map (row v) (range_with_len 0 n))) (sym c.1)
    ∙ kept_map (λ i. item keep i 0) (row v) 0 (shape keep).rows

pub filter_more : (p : ℕ → Bool) (i : ℕ) → filter p (range_with_len 0 (i + 1)) ≡ filter p (range_with_len 0 i) ++ cond (p i) (i ∷ []) []
filter_more p i =
    ap (filter p) (sym (map-id (range_with_len 0 (i + 1))))
    ∙ filter_of_map_range_with_len_more p (λ k. k) 0 i i (omega arith)
    ∙ ap (λ ks. filter p ks ++ cond (p i) (i ∷ []) []) (map-id (range_with_len 0 i))

append_nil : (ks : List ℕ) → ks ++ [] ≡ ks
append_nil [] = refl
append_nil (k ∷ ks) = ap (λ js. k ∷ js) (append_nil ks)

pub filter_kept : (p : ℕ → Bool) (i : ℕ) (ks : List ℕ) → ks ≡ filter p (range_with_len 0 i) → p i ≡ true → ks ++ i ∷ [] ≡ filter p (range_with_len 0 (i + 1))
filter_kept p i ks e on = ap (λ js. js ++ i ∷ []) e ∙ sym (rw on at (filter_more p i))

pub filter_left : (p : ℕ → Bool) (i : ℕ) (ks : List ℕ) → ks ≡ filter p (range_with_len 0 i) → p i ≡ false → ks ≡ filter p (range_with_len 0 (i + 1))
filter_left p i ks e off = e ∙ sym (rw off at (filter_more p i) ∙ append_nil (filter p (range_with_len 0 i)))
