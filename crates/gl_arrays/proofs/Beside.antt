-- Sound values, one under the other and side by side.
use Rattle.std.proofs.Common.{◌≡◌, ℕ, ◌+◌, ◌*◌, ◌-◌, ◌<◌, ◌≤◌, Bool, true, false, nat_lt, max, List, [], ◌∷◌, length, map, refl, ap, sym, ◌∙◌, arith, IsTrue, All, if◌then◌else◌}
use Rattle.std.specs.List.{range_with_len}
use Rattle.std.proofs.lemmas.Bool.Decides.{nat_tests}
use Rattle.std.proofs.lemmas.List.{length-map}
use Rattle.std.proofs.lemmas.List.Elements.{All-head, All-tail}
use Rattle.gl_calculus.specs.Grid.Grid.{Size, size}
use Rattle.gl_calculus.specs.Values.ErrKind.{ErrKind}
use Rattle.gl_calculus.specs.Values.Value.{Scalar, Value, One}
use Rattle.gl_calculus.specs.Values.Lift.{item, shape, is_small, table, rows}
use Rattle.gl_calculus.specs.Values.Functions.{flipped, transpose, greatest_cols, vstack, hstack}
use Rattle.gl_calculus.specs.Evaluation.Sound.{is_sound_value}
use Rattle.gl_value.specs.View.{value_tree}
use Rattle.gl_value.specs.declared.Value as Code
use Rattle.gl_arrays.specs.Parts.{row}
use Rattle.gl_arrays.specs.Stacks.{total, greatest, stacked}
use Rattle.gl_arrays.specs.declared.stacks.Axis.TheVariants.{Rows, Columns}
use Rattle.gl_arrays.proofs.Tables.{rows_are, extents_small, cells_few, small_table, table_item, table_rows, table_same, table_large, beyond_rows, beyond_cols}
use Rattle.gl_arrays.proofs.Below.{total_rows, below, greatest_is, HaveRows, vstack_is}

abbrev pub total_cols : List Value → ℕ
total_cols vs = total Columns vs

abbrev pub greatest_rows : List Value → ℕ
greatest_rows vs = greatest Rows vs

abbrev pub beside : List Value → ℕ → ℕ → Scalar
beside vs i j = stacked Columns vs j i

abbrev pub AreSound : List Value → Type 0
AreSound [] = Unit {0}
AreSound (v ∷ vs) = IsTrue (is_sound_value v) × AreSound vs

pub are_sound_trees : (vs : List Code.Value) → All (λ v. IsTrue (is_sound_value (value_tree v))) vs → AreSound (map value_tree vs)
are_sound_trees [] h = tt
are_sound_trees (v ∷ vs) h = (All-head (λ v. IsTrue (is_sound_value (value_tree v))) v vs h, are_sound_trees vs (All-tail (λ v. IsTrue (is_sound_value (value_tree v))) v vs h))

have_rows : (vs : List Value) → AreSound vs → HaveRows vs
have_rows [] h = tt
have_rows (v ∷ vs) h = (rows_are v h.0, have_rows vs h.1)

pub some_rows : (vs : List Value) → AreSound vs → 1 ≤ length vs → 0 < total_rows vs
some_rows [] h l = absurd (omega arith)
some_rows (v ∷ vs) h l = let e = extents_small v h.0 in omega (arith, e.0)

pub some_cols : (vs : List Value) → AreSound vs → 1 ≤ length vs → 0 < total_cols vs
some_cols [] h l = absurd (omega arith)
some_cols (v ∷ vs) h l = let e = extents_small v h.0 in omega (arith, e.1)

pub some_greatest_rows : (vs : List Value) → AreSound vs → 1 ≤ length vs → 0 < greatest_rows vs
some_greatest_rows [] h l = absurd (omega arith)
some_greatest_rows (v ∷ vs) h l = let e = extents_small v h.0 in omega (arith, e.0)

pub some_greatest_cols : (vs : List Value) → AreSound vs → 1 ≤ length vs → 0 < greatest Columns vs
some_greatest_cols [] h l = absurd (omega arith)
some_greatest_cols (v ∷ vs) h l = let e = extents_small v h.0 in omega (arith, e.1)

pub vstack_sound : (vs : List Value) → AreSound vs → 1 ≤ length vs → vstack vs ≡ table (size (total_rows vs) (greatest_cols vs)) (below vs)
vstack_sound vs h l = vstack_is vs (have_rows vs h) (some_rows vs h l)

-- ---- rows and columns exchanged

small_flipped : (v : Value) → IsTrue (is_sound_value v) → is_small (size (shape v).cols (shape v).rows) ≡ true
small_flipped v h =
    let few = cells_few v h in
    let swap : (shape v).cols * (shape v).rows ≤ 10000 = grind (arith, few) in
    grind (arith, nat_tests, swap)

flipped_shape : (v : Value) → IsTrue (is_sound_value v) → shape (flipped v) ≡ size (shape v).cols (shape v).rows
flipped_shape v h = ap shape (small_table (shape v).cols (shape v).rows (λ i j. item v j i) (small_flipped v h))

flipped_item_if : (v : Value) (i j : ℕ) (a b : Bool) → IsTrue (is_sound_value v) → nat_lt i (shape v).rows ≡ a → nat_lt j (shape v).cols ≡ b → item (flipped v) j i ≡ item v i j
flipped_item_if v i j true true h p q =
    let r : i < (shape v).rows = grind (arith, nat_tests) in
    let c : j < (shape v).cols = grind (arith, nat_tests) in
    table_item (shape v).cols (shape v).rows (λ i j. item v j i) j i (small_flipped v h) c r
flipped_item_if v i j false b h p q =
    let r : (shape v).rows ≤ i = grind (arith, nat_tests) in
    let s = flipped_shape v h in
    let c : (shape (flipped v)).cols ≤ i = rw s r in
    beyond_cols (flipped v) j i c ∙ sym (beyond_rows v i j r)
flipped_item_if v i j true false h p q =
    let c : (shape v).cols ≤ j = grind (arith, nat_tests) in
    let s = flipped_shape v h in
    let r : (shape (flipped v)).rows ≤ j = rw s c in
    beyond_rows (flipped v) j i r ∙ sym (beyond_cols v i j c)

flipped_item : (v : Value) (i j : ℕ) → IsTrue (is_sound_value v) → item (flipped v) j i ≡ item v i j
flipped_item v i j h = flipped_item_if v i j (nat_lt i (shape v).rows) (nat_lt j (shape v).cols) h refl refl

flipped_rows : (v : Value) → IsTrue (is_sound_value v) → rows (flipped v) ≡ map (row (flipped v)) (range_with_len 0 (shape (flipped v)).rows)
flipped_rows v h =
    let s = flipped_shape v h in
    let n : (shape (flipped v)).rows ≡ (shape v).cols = ap (λ (z : Size). z.rows) s in
    table_rows (shape v).cols (shape v).rows (λ i j. item v j i) (small_flipped v h) ∙ ap (λ k. map (row (flipped v)) (range_with_len 0 k)) (sym n)

all_flipped_rows : (vs : List Value) → AreSound vs → HaveRows (map flipped vs)
all_flipped_rows [] h = tt
all_flipped_rows (v ∷ vs) h = (flipped_rows v h.0, all_flipped_rows vs h.1)

flipped_total : (vs : List Value) → AreSound vs → total_rows (map flipped vs) ≡ total_cols vs
flipped_total [] h = refl
flipped_total (v ∷ vs) h =
    ap (λ (z : Size). z.rows + total_rows (map flipped vs)) (flipped_shape v h.0)
    ∙ ap (λ n. (shape v).cols + n) (flipped_total vs h.1)

flipped_greatest : (vs : List Value) → AreSound vs → greatest_cols (map flipped vs) ≡ greatest_rows vs
flipped_greatest [] h = refl
flipped_greatest (v ∷ vs) h =
    ap (λ (z : Size). max z.cols (greatest_cols (map flipped vs))) (flipped_shape v h.0)
    ∙ ap (λ n. max (shape v).rows n) (flipped_greatest vs h.1)

flipped_below : (vs : List Value) (i j : ℕ) → AreSound vs → below (map flipped vs) j i ≡ beside vs i j
flipped_below [] i j h = refl
flipped_below (v ∷ vs) i j h =
    ap (λ (z : Size). if nat_lt j z.rows then item (flipped v) j i else below (map flipped vs) (j - z.rows) i) (flipped_shape v h.0)
    ∙ ap (λ y. if nat_lt j (shape v).cols then y else below (map flipped vs) (j - (shape v).cols) i) (flipped_item v i j h.0)
    ∙ ap (λ y. if nat_lt j (shape v).cols then item v i j else y) (flipped_below vs i (j - (shape v).cols) h.1)

is_small_swap : (m n : ℕ) (b : Bool) → is_small (size m n) ≡ b → is_small (size n m) ≡ b
is_small_swap m n b h = let e : n * m ≡ m * n = grind arith in rw e h

transpose_table_if : (m n : ℕ) (f : ℕ → ℕ → Scalar) (b : Bool) → is_small (size m n) ≡ b → transpose (table (size m n) f) ≡ table (size n m) (λ i j. f j i)
transpose_table_if m n f true h =
    let same = small_table m n f h in
    ap transpose same
    ∙ ap flipped (sym same)
    ∙ ap (λ (z : Size). table (size z.cols z.rows) (λ i j. item (table (size m n) f) j i)) (ap shape same)
    ∙ table_same n m (λ i j. item (table (size m n) f) j i) (λ i j. f j i) (λ i j p q. table_item m n f j i h q p)
transpose_table_if m n f false h =
    let other = is_small_swap m n false h in
    rw (h, other) refl

transpose_table : (m n : ℕ) (f : ℕ → ℕ → Scalar) → transpose (table (size m n) f) ≡ table (size n m) (λ i j. f j i)
transpose_table m n f = transpose_table_if m n f (is_small (size m n)) refl

pub hstack_sound : (vs : List Value) → AreSound vs → 1 ≤ length vs → hstack vs ≡ table (size (greatest_rows vs) (total_cols vs)) (beside vs)
hstack_sound vs h l =
    let ws = map flipped vs in
    let total = flipped_total vs h in
    let some : 0 < total_rows ws = rw total (some_cols vs h l) in
    ap transpose (vstack_is ws (all_flipped_rows vs h) some)
    ∙ transpose_table (total_rows ws) (greatest_cols ws) (below ws)
    ∙ ap (λ n. table (size n (total_rows ws)) (λ i j. below ws j i)) (flipped_greatest vs h)
    ∙ ap (λ n. table (size (greatest_rows vs) n) (λ i j. below ws j i)) total
    ∙ table_same (greatest_rows vs) (total_cols vs) (λ i j. below ws j i) (beside vs) (λ i j p q. flipped_below vs i j h)

-- ---- what the code finds of the values

pub vstack_fits : (vs : List Value) (m n : ℕ) → AreSound vs → 1 ≤ length vs → m ≡ total_rows vs → n ≡ greatest Columns vs → table (size m n) (below vs) ≡ vstack vs
vstack_fits vs m n h l e f = rw (e, f, greatest_is vs) (sym (vstack_sound vs h l))

pub vstack_large : (vs : List Value) (m n : ℕ) → AreSound vs → 1 ≤ length vs → m ≡ total_rows vs → n ≡ greatest Columns vs → 10000 < m * n → One (Scalar.Err ErrKind.Size) ≡ vstack vs
vstack_large vs m n h l e f g = sym (table_large m n (below vs) g) ∙ vstack_fits vs m n h l e f

pub hstack_fits : (vs : List Value) (m n : ℕ) → AreSound vs → 1 ≤ length vs → m ≡ greatest_rows vs → n ≡ total_cols vs → table (size m n) (beside vs) ≡ hstack vs
hstack_fits vs m n h l e f = rw (e, f) (sym (hstack_sound vs h l))

pub hstack_large : (vs : List Value) (m n : ℕ) → AreSound vs → 1 ≤ length vs → m ≡ greatest_rows vs → n ≡ total_cols vs → 10000 < m * n → One (Scalar.Err ErrKind.Size) ≡ hstack vs
hstack_large vs m n h l e f g = sym (table_large m n (beside vs) g) ∙ hstack_fits vs m n h l e f

pub some_trees : (vs : List Code.Value) → 1 ≤ length vs → 1 ≤ length (map value_tree vs)
some_trees vs h = rw length-map h
