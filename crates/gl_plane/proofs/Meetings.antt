-- The first entry, from a place on, that meets a range.
use Rattle.std.proofs.Common.{◌≡◌, ℕ, zero, suc, ◌+◌, ◌-◌, ◌/◌, ◌%◌, ◌<◌, ◌≤◌, nat_lt, nat_le, Bool, true, false, ◌&&◌, cond, List, [], ◌∷◌, length, drop, get_or, Some, None, slice_index, ◌⊎◌, inl, inr, refl, ap, arith, sym, ◌∙◌, subst}
use Rattle.std.proofs.lemmas.Bool.Decides.{nat_tests}
use Rattle.std.proofs.lemmas.Option.{slice_get-get_or}
use Rattle.std.proofs.lemmas.List.{drop_more, at_drop_all}
use Rattle.gl_calculus.specs.Grid.Grid.{Addr, addr, size, Range, is_before, lies_in, grid}
use Rattle.gl_calculus.specs.Values.Same.{is_permitted}
use Rattle.gl_calculus.specs.Values.Value.{Refused, Entry, Oracle}
use Rattle.gl_calculus.specs.Evaluation.Oracle.{IsInOrder, area_of}
use Rattle.gl_plane.specs.Reach.{first_from, spills_into, lowest_row, last_column, AreReaches, AreBounds, IsPassed}

-- ---- passing entries

-- past the end there is nothing
pub ended : (p : Entry → Bool) (es : Oracle) (i j : ℕ) → length es ≤ i → first_from p j (drop i es) ≡ None
ended p es i j h = at_drop_all (first_from p j) es i h

-- an entry that fails the test is passed
pub passed : (p : Entry → Bool) (es : Oracle) (i : ℕ) (d : Entry) → i < length es → p (get_or es i d) ≡ false → first_from p i (drop i es) ≡ first_from p (i + 1) (drop (i + 1) es)
passed p es i d h f = ap (first_from p i) (drop_more es i d h) ∙ ap (λ b. cond b (Some (i, get_or es i d)) (first_from p (i + 1) (drop (i + 1) es))) f

pub found : (p : Entry → Bool) (es : Oracle) (i : ℕ) (d : Entry) → i < length es → p (get_or es i d) ≡ true → first_from p i (drop i es) ≡ Some (i, get_or es i d)
found p es i d h f = ap (first_from p i) (drop_more es i d h) ∙ ap (λ b. cond b (Some (i, get_or es i d)) (first_from p (i + 1) (drop (i + 1) es))) f

-- so are many
pub all_passed : (p : Entry → Bool) (es : Oracle) (d : Entry) (n i : ℕ) → ((k : ℕ) → i ≤ k → k < i + n → k < length es → p (get_or es k d) ≡ false) → first_from p i (drop i es) ≡ first_from p (i + n) (drop (i + n) es)
all_passed p es d zero i h = let e : i ≡ i + 0 = omega arith in ap (λ j. first_from p j (drop j es)) e
all_passed p es d (suc n) i h =
    let e : i + 1 + n ≡ i + suc n = omega arith in
    one_passed (nat_lt i (length es)) refl ∙ all_passed p es d n (i + 1) (λ k lo hi in_list. h k (omega arith) (omega arith) in_list) ∙ ap (λ j. first_from p j (drop j es)) e
  where
    one_passed : (b : Bool) → nat_lt i (length es) ≡ b → first_from p i (drop i es) ≡ first_from p (i + 1) (drop (i + 1) es)
    one_passed true f = let lt : i < length es = grind (arith, nat_tests) in passed p es i d lt (h i (omega arith) (omega arith) lt)
    one_passed false f = let le : length es ≤ i = grind (arith, nat_tests) in ended p es i i le ∙ sym (ended p es (i + 1) (i + 1) (omega arith))

-- ---- entries above or below the range

above : (b f g : Bool) (last row : ℕ) → cond b last 0 < row → b && ((f && nat_le row last) && g) ≡ false
above false f g last row h = refl
above true f g last row h = let e : nat_le row last ≡ false = grind (arith, nat_tests) in rw e (middle f)
  where
    middle : (f : Bool) → ((f && false) && g) ≡ false
    middle true = refl
    middle false = refl

ends_above : (r : Range) (x : Entry) → lowest_row x < r.first.row → spills_into r x ≡ false
ends_above r x h =
    above (is_permitted x.permit && lies_in (area_of x) grid) (nat_le x.root.row r.last.row) (nat_le x.root.col r.last.col && nat_le r.first.col (area_of x).last.col) (area_of x).last.row r.first.row h

left_of : (b f g : Bool) (last col : ℕ) → cond b last 0 < col → b && (f && (g && nat_le col last)) ≡ false
left_of false f g last col h = refl
left_of true f g last col h = let e : nat_le col last ≡ false = grind (arith, nat_tests) in rw e (middle f g)
  where
    middle : (f g : Bool) → (f && (g && false)) ≡ false
    middle true true = refl
    middle true false = refl
    middle false g = refl

ends_left : (r : Range) (x : Entry) → last_column x < r.first.col → spills_into r x ≡ false
ends_left r x h =
    left_of (is_permitted x.permit && lies_in (area_of x) grid) (nat_le x.root.row r.last.row && nat_le r.first.row (area_of x).last.row) (nat_le x.root.col r.last.col) (area_of x).last.col r.first.col h

below : (b f g : Bool) (first last : ℕ) → last < first → b && ((nat_le first last && f) && g) ≡ false
below false f g first last h = refl
below true f g first last h = let e : nat_le first last ≡ false = grind (arith, nat_tests) in rw e refl

begins_below : (r : Range) (x : Entry) → r.last.row < x.root.row → spills_into r x ≡ false
begins_below r x h =
    below (is_permitted x.permit && lies_in (area_of x) grid) (nat_le r.first.row (area_of x).last.row) (nat_le x.root.col r.last.col && nat_le r.first.col (area_of x).last.col) x.root.row r.last.row h

before_rows : (a b : Addr) → is_before a b ≡ true → a.row ≤ b.row
before_rows a b h = grind (arith, nat_tests)

rows_after : (x : Entry) (es : Oracle) (k : ℕ) (d : Entry) → IsInOrder (x ∷ es) → k < length (x ∷ es) → x.root.row ≤ (get_or (x ∷ es) k d).root.row
rows_after x es zero d o h = omega arith
rows_after x [] (suc k) d o h = absurd (omega arith)
rows_after x (y ∷ ys) (suc k) d o h =
    let one : x.root.row ≤ y.root.row = before_rows x.root y.root o.0 in
    let more : y.root.row ≤ (get_or (y ∷ ys) k d).root.row = rows_after y ys k d o.1 (omega arith) in
    omega arith

rows_increase : (es : Oracle) (i k : ℕ) (d : Entry) → IsInOrder es → i ≤ k → k < length es → (get_or es i d).root.row ≤ (get_or es k d).root.row
rows_increase [] i k d o le h = absurd (omega arith)
rows_increase (x ∷ es) zero k d o le h = rows_after x es k d o h
rows_increase (x ∷ es) (suc i) zero d o le h = absurd (omega arith)
rows_increase (x ∷ []) (suc i) (suc k) d o le h = absurd (omega arith)
rows_increase (x ∷ y ∷ ys) (suc i) (suc k) d o le h = rows_increase (y ∷ ys) i k d o.1 (omega arith) (omega arith)

-- ---- the two steps that pass many

pub no_entry : Entry
no_entry = record { root = addr 0 0; size = size 0 0; permit = Refused }

abbrev SameBlock : ℕ → Type 0
SameBlock size = (i k : ℕ) → i % size ≡ 0 → i ≤ k → k < i + size → k / size ≡ i / size

-- a block of which no entry reaches this far, if the entries that don't are passed
block_fails : (size : ℕ) (reach : Entry → ℕ) (r : Range) (es : Oracle) (reaches : List ℕ) (i n : ℕ) → SameBlock size → ((x : Entry) → reach x < n → spills_into r x ≡ false) → AreReaches size reach es reaches → i % size ≡ 0 → slice_index reaches (i / size) < n → IsPassed r es i size
block_fails size reach r es reaches i n same fails a z h = let d = no_entry in all_passed (spills_into r) es d size i (λ k lo hi in_list.
    let low : slice_index reaches (k / size) < n = subst (λ j. slice_index reaches j < n) (sym (same i k z lo hi)) h in
    fails (get_or es k d) (at_most (reach (get_or es k d)) (slice_index reaches (k / size)) n (a.bounds k (get_or es k d) (slice_get-get_or es k d in_list)) low))
  where
    at_most : (x y z : ℕ) → x ≤ y → y < z → x < z
    at_most x y z p q = omega (arith, p, q)

block_passed : (size : ℕ) (r : Range) (es : Oracle) (rows columns : List ℕ) (i : ℕ) → SameBlock size → AreBounds size es rows columns → i % size ≡ 0 → (slice_index rows (i / size) < r.first.row) ⊎ (slice_index columns (i / size) < r.first.col) → IsPassed r es i size
block_passed size r es rows columns i same a z (inl h) = block_fails size lowest_row r es rows i r.first.row same (ends_above r) a.0 z h
block_passed size r es rows columns i same a z (inr h) = block_fails size last_column r es columns i r.first.col same (ends_left r) a.1 z h

-- a block that reaches no further than above the range or left of it
pub near_passed : (r : Range) (es : Oracle) (rows columns : List ℕ) (i : ℕ) → AreBounds 64 es rows columns → i % 64 ≡ 0 → (slice_index rows (i / 64) < r.first.row) ⊎ (slice_index columns (i / 64) < r.first.col) → IsPassed r es i 64
near_passed r es rows columns i a z h = block_passed 64 r es rows columns i (λ j k z lo hi. omega (arith, z, lo, hi)) a z h

-- and a block of blocks
pub far_passed : (r : Range) (es : Oracle) (rows columns : List ℕ) (i : ℕ) → AreBounds 4096 es rows columns → i % 4096 ≡ 0 → (slice_index rows (i / 4096) < r.first.row) ⊎ (slice_index columns (i / 4096) < r.first.col) → IsPassed r es i 4096
far_passed r es rows columns i a z h = block_passed 4096 r es rows columns i (λ j k z lo hi. omega (arith, z, lo, hi)) a z h

pub none_passed : (r : Range) (es : Oracle) (i : ℕ) → IsPassed r es i 0
none_passed r es i = let e : i ≡ i + 0 = omega arith in ap (λ j. first_from (spills_into r) j (drop j es)) e

-- all from the first root below the range on
pub rest_passed : (r : Range) (es : Oracle) (i : ℕ) (d : Entry) → IsInOrder es → i < length es → r.last.row < (get_or es i d).root.row → first_from (spills_into r) i (drop i es) ≡ None
rest_passed r es i d o h low =
    all_passed (spills_into r) es d (length es - i) i (λ k lo hi in_list.
    let further : (get_or es i d).root.row ≤ (get_or es k d).root.row = rows_increase es i k d o lo in_list in
    begins_below r (get_or es k d) (omega arith))
    ∙ ended (spills_into r) es (i + (length es - i)) (i + (length es - i)) (omega arith)
