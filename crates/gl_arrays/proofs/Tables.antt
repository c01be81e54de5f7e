-- Tables, and the rows of a value.
use Rattle.std.proofs.Common.{◌≡◌, ℕ, zero, suc, ◌+◌, ◌*◌, ◌<◌, ◌≤◌, ◌==◌, Bool, true, false, ◌&&◌, nat_lt, nat_le, List, [], ◌∷◌, length, map, take, drop, get_or, refl, ap, sym, ◌∙◌, arith, IsTrue}
use Rattle.std.specs.List.{range_with_len, flat_map}
use Rattle.std.proofs.lemmas.Bool.{and_parts, eqb-true}
use Rattle.std.proofs.lemmas.Bool.Decides.{nat_tests}
use Rattle.std.proofs.lemmas.List.{length-take-le, length-drop, get_or-take, get_or-drop}
use Rattle.std.proofs.lemmas.List.FromFn.{length-map-range_with_len, fill_by_all}
use Rattle.std.proofs.lemmas.List.Folds.{flat_map-map}
use Rattle.gl_calculus.specs.Grid.Grid.{Size, size}
use Rattle.gl_calculus.specs.Values.ErrKind.{ErrKind}
use Rattle.gl_calculus.specs.Values.Value.{Scalar, Scalars, Value, One, Array, items, scalars}
use Rattle.gl_calculus.specs.Values.Lift.{item, shape, is_small, table, cut, rows, width, from_rows}
use Rattle.gl_calculus.specs.Values.Functions.{some_rows, value_or_error, when}
use Rattle.gl_calculus.specs.Evaluation.Sound.{is_size, are_sound, is_sound_value}
use Rattle.gl_arrays.specs.Parts.{row}
use Rattle.gl_arrays.proofs.Ranges.{flat_map_same, map_same, map_shift, get_or_rows, count_rows}
use Rattle.gl_calculus.proofs.Tables.{table_if, rows_if}

pub size_of : (m n : ℕ) (s : Size) → m ≡ s.rows → n ≡ s.cols → size m n ≡ s
size_of m n s e f = λ i. record { rows = e i; cols = f i }

-- ---- tables

table_if_same : (b : Bool) (s : Size) (f g : ℕ → ℕ → Scalar) → flat_map (λ i. map (f i) (range_with_len 0 s.cols)) (range_with_len 0 s.rows) ≡ flat_map (λ i. map (g i) (range_with_len 0 s.cols)) (range_with_len 0 s.rows) → table_if b s f ≡ table_if b s g
table_if_same true s f g h = ap (λ ys. Array s (scalars ys)) h
table_if_same false s f g h = refl

pub table_same : (m n : ℕ) (f g : ℕ → ℕ → Scalar) → ((i j : ℕ) → i < m → j < n → f i j ≡ g i j) → table (size m n) f ≡ table (size m n) g
table_same m n f g h =
    table_if_same (is_small (size m n)) (size m n) f g
    (flat_map_same (λ i. map (f i) (range_with_len 0 n)) (λ i. map (g i) (range_with_len 0 n)) 0 m
    (λ i p q. map_same (f i) (g i) 0 n (λ j r t. h i j (omega arith) (omega arith))))

pub table_large : (m n : ℕ) (f : ℕ → ℕ → Scalar) → 10000 < m * n → table (size m n) f ≡ One (Scalar.Err ErrKind.Size)
table_large m n f h =
    let large : is_small (size m n) ≡ false = grind (arith, nat_tests) in
    rw large refl

-- ---- elements

pub test_lt : (a b : ℕ) → a < b → nat_lt a b ≡ true
test_lt a b h = grind (arith, nat_tests)

pub item_in : (s : Size) (xs : Scalars) (i j : ℕ) → i < s.rows → j < s.cols → item (Array s xs) i j ≡ get_or (items xs) (i * s.cols + j) (Scalar.Err ErrKind.Na)
item_in s xs i j h k = rw (test_lt i s.rows h, test_lt j s.cols k) refl

pub count : (s : Size) (xs : Scalars) → IsTrue (is_sound_value (Array s xs)) → length (items xs) ≡ s.rows * s.cols
count s xs h = eqb-true (length (items xs)) (s.rows * s.cols) (and_parts (is_size s) _ (and_parts (is_size s && _) (are_sound xs) h).0).1

-- ---- rows

cut_is : (n m : ℕ) (ys : List Scalar) (d : Scalar) (f : ℕ → ℕ → Scalar) → length ys ≡ n * m → ((i j : ℕ) → i < n → j < m → get_or ys (i * m + j) d ≡ f i j)
    → cut n m ys ≡ map (λ i. map (f i) (range_with_len 0 m)) (range_with_len 0 n)
cut_is zero m ys d f e h = refl
cut_is (suc n) m ys d f e h =
    let enough : m ≤ length ys = grind arith in
    let first : take m ys ≡ map (f 0) (range_with_len 0 m) =
    fill_by_all (f 0) (take m ys) m d (length-take-le m ys enough)
    (λ k p. get_or-take m ys k d p ∙ (let z : zero * m + k ≡ k = grind arith in rw z at (h zero k (omega arith) p)))
    in
    let rest : length (drop m ys) ≡ n * m = length-drop m ys ∙ grind arith in
    ap (λ r. r ∷ cut n m (drop m ys)) first
    ∙ ap (λ rs. map (f 0) (range_with_len 0 m) ∷ rs)
    (cut_is n m (drop m ys) d (λ i j. f (1 + i) j) rest
    (λ i j p q. get_or-drop m ys (i * m + j) d ∙ (let z : m + (i * m + j) ≡ (1 + i) * m + j = grind arith in rw z (h (1 + i) j (omega arith) q)))
    ∙ sym (map_shift (λ i. map (f i) (range_with_len 0 m)) 1 0 1 n refl))

pub rows_of : (s : Size) (xs : Scalars) → length (items xs) ≡ s.rows * s.cols → rows (Array s xs) ≡ map (row (Array s xs)) (range_with_len 0 s.rows)
rows_of s xs h = cut_is s.rows s.cols (items xs) (Scalar.Err ErrKind.Na) (item (Array s xs)) h (λ i j p q. sym (item_in s xs i j p q))

pub rows_are : (v : Value) → IsTrue (is_sound_value v) → rows v ≡ map (row v) (range_with_len 0 (shape v).rows)
rows_are (One x) h = refl
rows_are (Array s xs) h = rows_of s xs (count s xs h)

flat_map_rows : (g : ℕ → List Scalar) (ks : List ℕ) → flat_map (λ r. r) (map g ks) ≡ flat_map g ks
flat_map_rows g ks = flat_map-map (λ r. r) g ks

width_rows : (f : ℕ → ℕ → Scalar) (m n : ℕ) → 0 < m → width (map (λ i. map (f i) (range_with_len 0 n)) (range_with_len 0 m)) ≡ n
width_rows f zero n h = absurd (omega arith)
width_rows f (suc m) n h = length-map-range_with_len (f 0) 0 n

rows_if_is : (b : Bool) (rs : List (List Scalar)) (s : Size) (f : ℕ → ℕ → Scalar) → size (length rs) (width rs) ≡ s → flat_map (λ r. r) rs ≡ flat_map (λ i. map (f i) (range_with_len 0 s.cols)) (range_with_len 0 s.rows) → rows_if b rs ≡ table_if b s f
rows_if_is true rs s f e g = ap (λ z. Array z (scalars (flat_map (λ r. r) rs))) e ∙ ap (λ ys. Array s (scalars ys)) g
rows_if_is false rs s f e g = refl

pub from_rows_are : (f : ℕ → ℕ → Scalar) (m n : ℕ) → 0 < m → from_rows (map (λ i. map (f i) (range_with_len 0 n)) (range_with_len 0 m)) ≡ table (size m n) f
from_rows_are f m n h =
    let rs = map (λ i. map (f i) (range_with_len 0 n)) (range_with_len 0 m) in
    let same : size (length rs) (width rs) ≡ size m n = size_of (length rs) (width rs) (size m n) (length-map-range_with_len (λ i. map (f i) (range_with_len 0 n)) 0 m) (width_rows f m n h) in
    ap (λ z. rows_if (is_small z) rs) same
    ∙ rows_if_is (is_small (size m n)) rs (size m n) f same (flat_map_rows (λ i. map (f i) (range_with_len 0 n)) (range_with_len 0 m))

-- the array of some rows
pub some_rows_are : (k : ErrKind) (f : ℕ → ℕ → Scalar) (m n : ℕ) → 0 < m → 0 < n → value_or_error (some_rows k (map (λ i. map (f i) (range_with_len 0 n)) (range_with_len 0 m))) ≡ table (size m n) f
some_rows_are k f m n h l =
    let rs = map (λ i. map (f i) (range_with_len 0 n)) (range_with_len 0 m) in
    ap (λ b. value_or_error (when b k (from_rows rs))) (ap (nat_lt 0) (width_rows f m n h) ∙ test_lt 0 n l) ∙ from_rows_are f m n h

-- an element beyond the extents
pub beyond_rows : (v : Value) (i j : ℕ) → (shape v).rows ≤ i → item v i j ≡ Scalar.Err ErrKind.Na
beyond_rows (One x) i j h = let off : (i == 0) ≡ false = grind (arith, nat_tests) in rw off refl
beyond_rows (Array s xs) i j h = let off : nat_lt i s.rows ≡ false = grind (arith, nat_tests) in rw off refl

and_off : (b c : Bool) → c ≡ false → (b && c) ≡ false
and_off true c h = h
and_off false c h = refl

pub beyond_cols : (v : Value) (i j : ℕ) → (shape v).cols ≤ j → item v i j ≡ Scalar.Err ErrKind.Na
beyond_cols (One x) i j h = let off : (j == 0) ≡ false = grind (arith, nat_tests) in rw (and_off (i == 0) (j == 0) off) refl
beyond_cols (Array s xs) i j h = let off : nat_lt j s.cols ≡ false = grind (arith, nat_tests) in rw (and_off (nat_lt i s.rows) (nat_lt j s.cols) off) refl

size_small : (m n : ℕ) → is_size (size m n) ≡ true → (0 < m) × (0 < n) × (m * n ≤ 10000)
size_small m n h =
    let p = and_parts (nat_lt 0 m && nat_lt 0 n) (nat_le (m * n) 10000) h in
    let q = and_parts (nat_lt 0 m) (nat_lt 0 n) p.0 in
    (grind (arith, nat_tests, q.0), grind (arith, nat_tests, q.1), grind (arith, nat_tests, p.1))

below_product : (m n k : ℕ) → 0 < n → m * n ≤ k → m ≤ k
below_product m n k h l = grind arith

pub extents_small : (v : Value) → IsTrue (is_sound_value v) → (0 < (shape v).rows) × (0 < (shape v).cols) × ((shape v).rows ≤ 10000) × ((shape v).cols ≤ 10000)
extents_small (One x) h = (omega arith, omega arith, omega arith, omega arith)
extents_small (Array s xs) h =
    let p = size_small s.rows s.cols (and_parts (is_size s) _ (and_parts (is_size s && _) (are_sound xs) h).0).0 in
    let swap : s.cols * s.rows ≤ 10000 = grind (arith, p.2) in
    (p.0, p.1, below_product s.rows s.cols 10000 p.1 p.2, below_product s.cols s.rows 10000 p.0 swap)

pub cells_few : (v : Value) → IsTrue (is_sound_value v) → (shape v).rows * (shape v).cols ≤ 10000
cells_few (One x) h = omega arith
cells_few (Array s xs) h = (size_small s.rows s.cols (and_parts (is_size s) _ (and_parts (is_size s && _) (are_sound xs) h).0).0).2

-- ---- the elements and the rows of a table

items_scalars : (ys : List Scalar) → items (scalars ys) ≡ ys
items_scalars [] = refl
items_scalars (y ∷ ys) = ap (λ zs. y ∷ zs) (items_scalars ys)

abbrev pub cells : ℕ → ℕ → (ℕ → ℕ → Scalar) → Scalars
cells m n f = scalars (flat_map (λ i. map (f i) (range_with_len 0 n)) (range_with_len 0 m))

pub small_table : (m n : ℕ) (f : ℕ → ℕ → Scalar) → is_small (size m n) ≡ true → table (size m n) f ≡ Array (size m n) (cells m n f)
small_table m n f h = rw h refl

pub table_item : (m n : ℕ) (f : ℕ → ℕ → Scalar) (i j : ℕ) → is_small (size m n) ≡ true → i < m → j < n → item (table (size m n) f) i j ≡ f i j
table_item m n f i j h p q =
    let z : 0 + i ≡ i = omega arith in
    ap (λ v. item v i j) (small_table m n f h)
    ∙ item_in (size m n) (cells m n f) i j p q
    ∙ ap (λ ys. get_or ys (i * n + j) (Scalar.Err ErrKind.Na)) (items_scalars (flat_map (λ k. map (f k) (range_with_len 0 n)) (range_with_len 0 m)))
    ∙ get_or_rows f n 0 m i j (Scalar.Err ErrKind.Na) p q
    ∙ ap (λ k. f k j) z

pub table_rows : (m n : ℕ) (f : ℕ → ℕ → Scalar) → is_small (size m n) ≡ true → rows (table (size m n) f) ≡ map (row (table (size m n) f)) (range_with_len 0 m)
table_rows m n f h =
    let same = small_table m n f h in
    rw same (rows_of (size m n) (cells m n f) (ap length (items_scalars (flat_map (λ k. map (f k) (range_with_len 0 n)) (range_with_len 0 m))) ∙ count_rows f n 0 m))
