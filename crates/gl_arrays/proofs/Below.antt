-- Values one under the other.
use Rattle.std.proofs.Common.{◌≡◌, ℕ, ◌+◌, ◌-◌, ◌<◌, ◌≤◌, max, false, nat_lt, List, [], ◌∷◌, ◌++◌, length, map, replicate, refl, ap, sym, ◌∙◌, arith}
use Rattle.std.specs.List.{range_with_len, flat_map}
use Rattle.std.proofs.lemmas.Bool.Decides.{nat_tests}
use Rattle.std.proofs.lemmas.List.{map-append}
use Rattle.std.proofs.lemmas.List.FromFn.{length-map-range_with_len}
use Rattle.gl_calculus.specs.Grid.Grid.{size}
use Rattle.gl_calculus.specs.Values.ErrKind.{ErrKind}
use Rattle.gl_calculus.specs.Values.Value.{Scalar, Value}
use Rattle.gl_calculus.specs.Values.Lift.{item, shape, table, rows, from_rows}
use Rattle.gl_calculus.specs.Values.Functions.{padded, greatest_cols, vstack}
use Rattle.gl_arrays.specs.Parts.{row}
use Rattle.gl_arrays.specs.Stacks.{total, greatest, stacked}
use Rattle.gl_arrays.specs.declared.stacks.Axis.TheVariants.{Rows, Columns}
use Rattle.gl_arrays.proofs.Ranges.{map_same, map_shift, map_map, map_const, range_append}
use Rattle.gl_arrays.proofs.Tables.{from_rows_are, beyond_cols, test_lt}

abbrev pub total_rows : List Value → ℕ
total_rows vs = total Rows vs

abbrev pub below : List Value → ℕ → ℕ → Scalar
below vs = stacked Rows vs

pub greatest_is : (vs : List Value) → greatest Columns vs ≡ greatest_cols vs
greatest_is [] = refl
greatest_is (v ∷ vs) = ap (λ n. max (shape v).cols n) (greatest_is vs)

abbrev pub HaveRows : List Value → Type 0
HaveRows [] = Unit {0}
HaveRows (v ∷ vs) = (rows v ≡ map (row v) (range_with_len 0 (shape v).rows)) × HaveRows vs

padded_row : (v : Value) (i c : ℕ) → (shape v).cols ≤ c → padded c (row v i) ≡ map (item v i) (range_with_len 0 c)
padded_row v i c h =
    let n = (shape v).cols in
    let all : length (row v i) ≡ n = length-map-range_with_len (item v i) 0 n in
    let whole : n + (c - n) ≡ c = omega arith in
    let z : 0 + n ≡ n = omega arith in
    ap (λ k. row v i ++ replicate (c - k) (Scalar.Err ErrKind.Na)) all
    ∙ ap (λ ys. row v i ++ ys) (sym (map_const (item v i) (Scalar.Err ErrKind.Na) n (c - n) (λ k p. beyond_cols v i k p)))
    ∙ ap (λ k. row v i ++ map (item v i) (range_with_len k (c - n))) (sym z)
    ∙ sym (range_append (item v i) 0 n (c - n))
    ∙ ap (λ k. map (item v i) (range_with_len 0 k)) whole

below_first : (v : Value) (vs : List Value) (i j : ℕ) → i < (shape v).rows → below (v ∷ vs) i j ≡ item v i j
below_first v vs i j h = rw (test_lt i (shape v).rows h) refl

below_rest : (v : Value) (vs : List Value) (i j : ℕ) → below (v ∷ vs) ((shape v).rows + i) j ≡ below vs i j
below_rest v vs i j =
    let off : nat_lt ((shape v).rows + i) (shape v).rows ≡ false = grind (arith, nat_tests) in
    let z : (shape v).rows + i - (shape v).rows ≡ i = omega arith in
    rw (off, z) refl

stack_rows : (vs : List Value) (c : ℕ) → HaveRows vs → greatest_cols vs ≤ c → map (padded c) (flat_map rows vs) ≡ map (λ i. map (below vs i) (range_with_len 0 c)) (range_with_len 0 (total_rows vs))
stack_rows [] c h l = refl
stack_rows (v ∷ vs) c h l =
    let r = (shape v).rows in
    let t = total_rows vs in
    let f = λ (i : ℕ). map (below (v ∷ vs) i) (range_with_len 0 c) in
    let fits : (shape v).cols ≤ c = omega arith in
    let others : greatest_cols vs ≤ c = omega arith in
    map-append (padded c) (rows v) (flat_map rows vs)
    ∙ ap (λ ys. map (padded c) ys ++ map (padded c) (flat_map rows vs)) h.0
    ∙ ap (λ ys. ys ++ map (padded c) (flat_map rows vs)) (
    map_map (padded c) (row v) (range_with_len 0 r)
    ∙ map_same (λ i. padded c (row v i)) f 0 r (λ i p q. padded_row v i c fits ∙ map_same (item v i) (below (v ∷ vs) i) 0 c (λ j a b. sym (below_first v vs i j (omega (arith, q)))))
    )
    ∙ ap (λ ys. map f (range_with_len 0 r) ++ ys) (
    stack_rows vs c h.1 others
    ∙ map_same (λ i. map (below vs i) (range_with_len 0 c)) (λ i. f (r + i)) 0 t (λ i p q. map_same (below vs i) (below (v ∷ vs) (r + i)) 0 c (λ j a b. sym (below_rest v vs i j)))
    ∙ sym (map_shift f r 0 (0 + r) t (omega arith))
    )
    ∙ sym (range_append f 0 r t)

pub vstack_is : (vs : List Value) → HaveRows vs → 0 < total_rows vs → vstack vs ≡ table (size (total_rows vs) (greatest_cols vs)) (below vs)
vstack_is vs h p = ap from_rows (stack_rows vs (greatest_cols vs) h (omega arith)) ∙ from_rows_are (below vs) (total_rows vs) (greatest_cols vs) p
