-- The rows and columns that TAKE keeps and DROP leaves.
use Rattle.std.proofs.Common.{◌≡◌, ℕ, suc, ◌+◌, ◌-◌, ◌≤◌, ℤ, pos, negsuc, min, List, length, map, take, drop, refl, ap, sym, ◌∙◌, arith, IsTrue}
use Rattle.std.specs.List.{range_with_len}
use Rattle.std.proofs.lemmas.List.{take_min, drop_min}
use Rattle.std.proofs.lemmas.List.FromFn.{length-map-range_with_len}
use Rattle.gl_calculus.specs.Values.ErrKind.{ErrKind}
use Rattle.gl_calculus.specs.Values.Value.{Scalar, Value}
use Rattle.gl_calculus.specs.Values.Lift.{item, shape, rows}
use Rattle.gl_calculus.specs.Values.Functions.{kept, left_over}
use Rattle.gl_calculus.specs.Evaluation.Sound.{is_sound_value}
use Rattle.gl_arrays.specs.Parts.{row, window, kept_start, kept_count, left_start, left_count, start_of, count_of, rule_of}
use Rattle.gl_arrays.specs.declared.parts.Part.{Part}
use Rattle.gl_arrays.specs.declared.parts.Part.TheVariants.{Kept, LeftOver}
use Rattle.gl_arrays.proofs.Ranges.{map_same, map_shift, map_map, take_map, drop_map}
use Rattle.gl_arrays.proofs.Tables.{rows_are, beyond_rows, beyond_cols, extents_small}

pub far_rows : (v : Value) (i j : ℕ) → IsTrue (is_sound_value v) → 65536 ≤ i → item v i j ≡ Scalar.Err ErrKind.Na
far_rows v i j h l = let e = extents_small v h in beyond_rows v i j (omega (arith, e.2))

pub far_cols : (v : Value) (i j : ℕ) → IsTrue (is_sound_value v) → 65536 ≤ j → item v i j ≡ Scalar.Err ErrKind.Na
far_cols v i j h l = let e = extents_small v h in beyond_cols v i j (omega (arith, e.3))

-- the first so many, and those from a place on
first_of : {X : Type 0} (g : ℕ → X) (r k m : ℕ) → m ≡ min k r → take k (map g (range_with_len 0 r)) ≡ map (λ i. g (0 + i)) (range_with_len 0 m)
first_of g r k m e =
    let xs = map g (range_with_len 0 r) in
    let all : length xs ≡ r = length-map-range_with_len g 0 r in
    let same : m ≡ min k (length xs) = rw all e in
    let least : m ≤ r = omega arith in
    sym (rw (← same) at (take_min k xs))
    ∙ take_map g 0 r m m least refl
    ∙ map_shift g 0 0 0 m refl

from_place : {X : Type 0} (g : ℕ → X) (r k s m : ℕ) → s ≡ k → m ≡ r - k → drop k (map g (range_with_len 0 r)) ≡ map (λ i. g (s + i)) (range_with_len 0 m)
from_place g r k s m e f =
    let z : 0 + k ≡ s = omega arith in
    let n : r - k ≡ m = sym f in
    drop_map g 0 r k ∙ rw (z, n) (map_shift g s 0 s m (omega arith))

pub kept_is : {X : Type 0} (g : ℕ → X) (n : ℤ) (r : ℕ) → kept n (map g (range_with_len 0 r)) ≡ map (λ i. g (kept_start n r + i)) (range_with_len 0 (kept_count n r))
kept_is g (pos n) r = first_of g r n (min n r) refl
kept_is g (negsuc n) r =
    let xs = map g (range_with_len 0 r) in
    let all : length xs ≡ r = length-map-range_with_len g 0 r in
    rw all (from_place g r (r - suc n) (r - suc n) (min (suc n) r) refl (omega arith))

pub left_is : {X : Type 0} (g : ℕ → X) (n : ℤ) (r : ℕ) → left_over n (map g (range_with_len 0 r)) ≡ map (λ i. g (left_start n r + i)) (range_with_len 0 (left_count n r))
left_is g (pos n) r =
    let xs = map g (range_with_len 0 r) in
    let all : length xs ≡ r = length-map-range_with_len g 0 r in
    let same : min n (length xs) ≡ min n r = rw all refl in
    sym (rw same at (drop_min n xs)) ∙ from_place g r (min n r) (min n r) (r - n) refl (omega arith)
left_is g (negsuc n) r =
    let xs = map g (range_with_len 0 r) in
    let all : length xs ≡ r = length-map-range_with_len g 0 r in
    rw all (first_of g r (r - suc n) (r - suc n) (omega arith))

windows : (v : Value) (p : List (List Scalar) → List (List Scalar)) (q : List Scalar → List Scalar) (a m b n : ℕ) → IsTrue (is_sound_value v)
    → p (map (row v) (range_with_len 0 (shape v).rows)) ≡ map (λ i. row v (a + i)) (range_with_len 0 m)
    → ((g : ℕ → Scalar) → q (map g (range_with_len 0 (shape v).cols)) ≡ map (λ j. g (b + j)) (range_with_len 0 n))
    → window v a m b n ≡ map q (p (rows v))
windows v p q a m b n h e f =
    sym (
    ap (λ rs. map q (p rs)) (rows_are v h)
    ∙ ap (map q) e
    ∙ map_map q (λ i. row v (a + i)) (range_with_len 0 m)
    ∙ map_same (λ i. q (row v (a + i))) (λ i. map (λ j. item v (a + i) (b + j)) (range_with_len 0 n)) 0 m (λ i _ _. f (item v (a + i)))
    )

kept_window : (v : Value) (m n : ℤ) (r c a k b l : ℕ) → IsTrue (is_sound_value v) → r ≡ (shape v).rows → c ≡ (shape v).cols → a ≡ kept_start m r → k ≡ kept_count m r → b ≡ kept_start n c → l ≡ kept_count n c
    → window v a k b l ≡ map (kept n) (kept m (rows v))
kept_window v m n r c a k b l h er ec ea ek eb el =
    rw (ea, ek, eb, el, er, ec)
    (windows v (kept m) (kept n) (kept_start m (shape v).rows) (kept_count m (shape v).rows) (kept_start n (shape v).cols) (kept_count n (shape v).cols) h (kept_is (row v) m (shape v).rows) (λ g. kept_is g n (shape v).cols))

left_window : (v : Value) (m n : ℤ) (r c a k b l : ℕ) → IsTrue (is_sound_value v) → r ≡ (shape v).rows → c ≡ (shape v).cols → a ≡ left_start m r → k ≡ left_count m r → b ≡ left_start n c → l ≡ left_count n c
    → window v a k b l ≡ map (left_over n) (left_over m (rows v))
left_window v m n r c a k b l h er ec ea ek eb el =
    rw (ea, ek, eb, el, er, ec)
    (windows v (left_over m) (left_over n) (left_start m (shape v).rows) (left_count m (shape v).rows) (left_start n (shape v).cols) (left_count n (shape v).cols) h (left_is (row v) m (shape v).rows) (λ g. left_is g n (shape v).cols))

pub part_window : (part : Part) (v : Value) (m n : ℤ) (r c a k b l : ℕ) → IsTrue (is_sound_value v) → r ≡ (shape v).rows → c ≡ (shape v).cols → a ≡ start_of part m r → k ≡ count_of part m r → b ≡ start_of part n c → l ≡ count_of part n c
    → window v a k b l ≡ map (rule_of part n) (rule_of part m (rows v))
part_window Kept = kept_window
part_window LeftOver = left_window
