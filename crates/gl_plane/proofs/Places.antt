-- The addresses of a range by their places.
use Rattle.std.proofs.Common.{◌≡◌, ℕ, zero, suc, ◌+◌, ◌-◌, ◌*◌, ◌/◌, ◌%◌, ◌≤◌, ◌<◌, nat_le, IsTrue, List, [], ◌∷◌, ◌++◌, map, length, slice_get, Some, refl, ap, sym, subst, ◌∙◌, arith}
use Rattle.std.specs.List.{flat_map, range_with_len}
use Rattle.std.proofs.Math.Nat.{mod-lt, div-lt_iff_lt-mul}
use Rattle.std.proofs.lemmas.Bool.{leb-true}
use Rattle.std.proofs.lemmas.Nat.{div-add-mod'}
use Rattle.std.proofs.lemmas.List.FromFn.{length-map-range_with_len}
use Rattle.gl_calculus.specs.Grid.Grid.{Addr, addr, Range, extents, addresses}
use Rattle.gl_calculus.proofs.Tests.{both}
use Rattle.gl_plane.specs.Addresses.{addresses_from}
use Rattle.gl_plane.specs.Parts.{is_ordered}
use Rattle.gl_plane.proofs.Cells.{addresses_count}

abbrev row : ℕ → ℕ → ℕ → List Addr
row c n i = map (λ j. addr j i) (range_with_len c n)

module _ {X : Type 0} where
  get_first : (xs ys : List X) (i : ℕ) → i < length xs → slice_get (xs ++ ys) i ≡ slice_get xs i
  get_first [] ys i h = absurd (omega (arith, h))
  get_first (x ∷ xs) ys zero h = refl
  get_first (x ∷ xs) ys (suc i) h = get_first xs ys i (omega (arith, h))

  get_second : (xs ys : List X) (i : ℕ) → slice_get (xs ++ ys) (length xs + i) ≡ slice_get ys i
  get_second [] ys i = let e : length {A = X} [] + i ≡ i = omega arith in ap (slice_get ys) e
  get_second (x ∷ xs) ys i = let e : length (x ∷ xs) + i ≡ suc (length xs + i) = omega arith in ap (slice_get (x ∷ xs ++ ys)) e ∙ get_second xs ys i

in_row : (c n i j : ℕ) → j < n → slice_get (row c n i) j ≡ Some (addr (c + j) i)
in_row c zero i j h = absurd (omega (arith, h))
in_row c (suc n) i zero h = let e : c ≡ c + 0 = omega arith in ap (λ k. Some (addr k i)) e
in_row c (suc n) i (suc j) h = let e : c + 1 + j ≡ c + suc j = omega arith in in_row (c + 1) n i j (omega (arith, h)) ∙ ap (λ k. Some (addr k i)) e

in_rows : (c n f m k j : ℕ) → k < m → j < n → slice_get (flat_map (row c n) (range_with_len f m)) (k * n + j) ≡ Some (addr (c + j) (f + k))
in_rows c n f zero k j h l = absurd (omega (arith, h))
in_rows c n f (suc m) zero j h l =
    let e : 0 * n + j ≡ j = omega arith in
    let g : f ≡ f + 0 = omega arith in
    let s : length (row c n f) ≡ n = length-map-range_with_len (λ i. addr i f) c n in
    ap (slice_get (flat_map (row c n) (range_with_len f (suc m)))) e
    ∙ get_first (row c n f) (flat_map (row c n) (range_with_len (f + 1) m)) j (omega (arith, s, l))
    ∙ in_row c n f j l
    ∙ ap (λ i. Some (addr (c + j) i)) g
in_rows c n f (suc m) (suc k) j h l =
    let s : length (row c n f) ≡ n = length-map-range_with_len (λ i. addr i f) c n in
    let e : suc k * n + j ≡ length (row c n f) + (k * n + j) = omega (arith, s) in
    let g : f + 1 + k ≡ f + suc k = omega arith in
    ap (slice_get (flat_map (row c n) (range_with_len f (suc m)))) e
    ∙ get_second (row c n f) (flat_map (row c n) (range_with_len (f + 1) m)) (k * n + j)
    ∙ in_rows c n (f + 1) m k j (omega (arith, h)) l
    ∙ ap (λ i. Some (addr (c + j) i)) g

-- a place before the last is in one of the rows
pub row_of : (r : Range) (i : ℕ) → 0 < (extents r).cols → i < length (addresses r) → i / (extents r).cols < (extents r).rows
row_of r i h l =
    let n = (extents r).cols in
    let e : length (addresses r) ≡ (extents r).rows * n = addresses_count r in
    (div-lt_iff_lt-mul {k = n} {x = i} {y = (extents r).rows} h).1 (subst (λ k. i < k) e l)

pub column_of : (r : Range) (i : ℕ) → 0 < (extents r).cols → i % (extents r).cols < (extents r).cols
column_of r i h = mod-lt i h

pub place_is : (r : Range) (i : ℕ) → 0 < (extents r).cols → i < length (addresses r) → Some (addr (r.first.col + i % (extents r).cols) (r.first.row + i / (extents r).cols)) ≡ slice_get (addresses r) i
place_is r i h l =
    let n = (extents r).cols in
    sym (ap (slice_get (addresses r)) (sym (div-add-mod' i n)) ∙ in_rows r.first.col n r.first.row (extents r).rows (i / n) (i % n) (row_of r i h l) (column_of r i h))

-- ---- a place by the corners

pub record Placed (r : Range) (i n : ℕ) (first last : Addr) : Type 0 where
  pub row : first.row + i / n ≤ last.row
  pub column : first.col + i % n ≤ last.col
  pub is : Some (addr (first.col + i % n) (first.row + i / n)) ≡ slice_get (addresses r) i

placed_in : (r : Range) (i : ℕ) → IsTrue (is_ordered r.first r.last) → i < length (addresses r) → Placed r i (extents r).cols r.first r.last
placed_in r i o l =
    let (v, h) = both (nat_le r.first.row r.last.row) (nat_le r.first.col r.last.col) o in
    let rows = leb-true r.first.row r.last.row v in
    let cols = leb-true r.first.col r.last.col h in
    let some : 0 < (extents r).cols = omega (arith, cols) in
    let at_row : i / (extents r).cols < r.last.row + 1 - r.first.row = row_of r i some l in
    let at_column : i % (extents r).cols < r.last.col + 1 - r.first.col = column_of r i some in
    record { row = omega (arith, rows, at_row); column = omega (arith, cols, at_column); is = place_is r i some l }

pub placed : (r : Range) (i n : ℕ) (first last : Addr) → first ≡ r.first → last ≡ r.last → IsTrue (is_ordered r.first r.last) → n ≡ last.col + 1 - first.col → i < length (addresses r) → Placed r i n first last
placed r i n first last e f o k l =
    let whole : n ≡ (extents r).cols = k ∙ ap (λ a. a.col + 1 - first.col) f ∙ ap (λ a. r.last.col + 1 - a.col) e in
    subst (λ a. Placed r i n a last) (sym e) (subst (λ a. Placed r i n r.first a) (sym f) (subst (λ m. Placed r i m r.first r.last) (sym whole) (placed_in r i o l)))

-- how many addresses a range has, by its corners
pub counted : (r : Range) (first last : Addr) → first ≡ r.first → last ≡ r.last → (last.row + 1 - first.row) * (last.col + 1 - first.col) ≡ length (addresses r)
counted r first last e f =
    ap (λ a. (a.row + 1 - first.row) * (a.col + 1 - first.col)) f ∙ ap (λ a. (r.last.row + 1 - a.row) * (r.last.col + 1 - a.col)) e ∙ sym (addresses_count r)

-- from the first on all are to come
pub all_to_come : (r : Range) → IsTrue (is_ordered r.first r.last) → addresses_from r (Some r.first) ≡ addresses r
all_to_come r o =
    let (v, h) = both (nat_le r.first.row r.last.row) (nat_le r.first.col r.last.col) o in
    let rows = leb-true r.first.row r.last.row v in
    let e : (extents r).rows ≡ suc (r.last.row - r.first.row) = omega (arith, rows) in
    rw e refl
