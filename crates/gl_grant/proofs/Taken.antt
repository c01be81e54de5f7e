-- Whether a permitted area meets another, by lists of areas and by entries.
use Rattle.std.proofs.Common.{◌≡◌, ℕ, zero, suc, ◌+◌, ◌≤◌, nat_lt, nat_le, Bool, true, false, ◌&&◌, ◌||◌, not, cond, List, [], ◌∷◌, take, Option, Some, None, refl, ap, arith, ◌∙◌}
use Rattle.std.specs.List.{list_all, list_any}
use Rattle.std.proofs.lemmas.Bool.Decides.{nat_tests}
use Rattle.gl_calculus.specs.Grid.Grid.{Range, lies_in, meets, grid}
use Rattle.gl_calculus.specs.Values.Value.{Entry, Oracle}
use Rattle.gl_calculus.specs.Values.Same.{is_permitted}
use Rattle.gl_calculus.specs.Evaluation.Oracle.{area_of}
use Rattle.gl_calculus.proofs.Tests.{both}
use Rattle.gl_plane.specs.Reach.{first_from, spills_into}
use Rattle.gl_grant.specs.Granted.{taken_beside, taken_by, fits_grid}

and_back : (a b : Bool) → (a && b) ≡ (b && a)
and_back true true = refl
and_back true false = refl
and_back false true = refl
and_back false false = refl

-- meeting is mutual
pub meets_same : (r s : Range) → meets r s ≡ meets s r
meets_same r s =
    ap (λ v. v && (nat_le r.first.col s.last.col && nat_le s.first.col r.last.col)) (and_back (nat_le r.first.row s.last.row) (nat_le s.first.row r.last.row))
    ∙ ap (λ h. (nat_le s.first.row r.last.row && nat_le r.first.row s.last.row) && h) (and_back (nat_le r.first.col s.last.col) (nat_le s.first.col r.last.col))

front : (a m b : Bool) → ((m || a) || b) ≡ (a || (m || b))
front true true b = refl
front true false b = refl
front false true b = refl
front false false b = refl

none_more : (a b : Bool) → (a || b) ≡ (a || (false || b))
none_more a b = refl

-- what the next entry adds to the areas
any_step : (p l : Bool) (r : Range) (taken : List Range) (x : Entry) (xs : Oracle) → (not p || l) ≡ true →
    ((rs : List Range) → list_any (meets r) (taken_beside rs xs) ≡ (list_any (meets r) rs || list_any (spills_into r) xs)) →
    list_any (meets r) (taken_beside (cond p (area_of x ∷ taken) taken) xs) ≡ (list_any (meets r) taken || ((p && l && meets (area_of x) r) || list_any (spills_into r) xs))
any_step true true r taken x xs h rest =
    rest (area_of x ∷ taken) ∙ ap (λ m. (m || list_any (meets r) taken) || list_any (spills_into r) xs) (meets_same r (area_of x)) ∙ front (list_any (meets r) taken) (meets (area_of x) r) (list_any (spills_into r) xs)
any_step true false r taken x xs h rest = absurd (cc h)
any_step false l r taken x xs h rest = rest taken

any_beside : (r : Range) (taken : List Range) (w : Oracle) → list_all fits_grid w ≡ true → list_any (meets r) (taken_beside taken w) ≡ (list_any (meets r) taken || list_any (spills_into r) w)
any_beside r taken [] h = or_none (list_any (meets r) taken)
  where
    or_none : (a : Bool) → a ≡ (a || false)
    or_none true = refl
    or_none false = refl
any_beside r taken (x ∷ xs) h =
    let parts = both (fits_grid x) (list_all fits_grid xs) h in
    any_step (is_permitted x.permit) (lies_in (area_of x) grid) r taken x xs parts.0 (λ rs. any_beside r rs xs parts.1)

-- a taken area meets the range exactly where an entry spills into it
pub any_taken : (r : Range) (w : Oracle) → list_all fits_grid w ≡ true → list_any (meets r) (taken_by w) ≡ list_any (spills_into r) w
any_taken r w h = any_beside r [] w h

-- ---- the first entry that passes, and those before a place

none_step : (b : Bool) (n k : ℕ) (x : Entry) (xs : Oracle) (found : Option (ℕ × Entry)) (any : Bool) → (found ≡ None → any ≡ false) → cond b (Some (n, x)) found ≡ None → (b || any) ≡ false
none_step true n k x xs found any rest h = absurd (cc h)
none_step false n k x xs found any rest h = rest h

pub none_passes : (p : Entry → Bool) (n k : ℕ) (w : Oracle) → first_from p n w ≡ None → list_any p (take k w) ≡ false
none_passes p n zero w h = refl
none_passes p n (suc k) [] h = refl
none_passes p n (suc k) (x ∷ xs) h = none_step (p x) n k x xs (first_from p (n + 1) xs) (list_any p (take k xs)) (none_passes p (n + 1) k xs) h

same_places : (p q : ℕ × Entry) → Some p ≡ Some q → p.0 ≡ q.0
same_places p q h = let e : p ≡ q = cc in ap (λ (r : ℕ × Entry). r.0) e

place_of : (n i : ℕ) (x y : Entry) → ◌≡◌ {A = Option (ℕ × Entry)} (Some (n, x)) (Some (i, y)) → n ≡ i
place_of n i x y h = same_places (n, x) (i, y) h

least_step : (b : Bool) (n i : ℕ) (x y : Entry) (found : Option (ℕ × Entry)) → (found ≡ Some (i, y) → n + 1 ≤ i) → cond b (Some (n, x)) found ≡ Some (i, y) → n ≤ i
least_step true n i x y found rest h = let e : n ≡ i = place_of n i x y h in omega arith
least_step false n i x y found rest h = let l : n + 1 ≤ i = rest h in omega arith

least : (p : Entry → Bool) (n i : ℕ) (y : Entry) (w : Oracle) → first_from p n w ≡ Some (i, y) → n ≤ i
least p n i y [] h = absurd (cc h)
least p n i y (x ∷ xs) h = least_step (p x) n i x y (first_from p (n + 1) xs) (least p (n + 1) i y xs) h

before_step : (b : Bool) (n k i : ℕ) (x y : Entry) (found : Option (ℕ × Entry)) (any : Bool) → (found ≡ Some (i, y) → nat_lt i (n + 1 + k) ≡ any) → cond b (Some (n, x)) found ≡ Some (i, y) → nat_lt i (n + suc k) ≡ (b || any)
before_step true n k i x y found any rest h =
    let e : n ≡ i = place_of n i x y h in
    grind (arith, nat_tests)
before_step false n k i x y found any rest h =
    let e : n + suc k ≡ n + 1 + k = omega arith in
    ap (nat_lt i) e ∙ rest h

-- the first that passes stands before the place exactly where one of those before it passes
pub some_passes : (p : Entry → Bool) (n k i : ℕ) (y : Entry) (w : Oracle) → first_from p n w ≡ Some (i, y) → nat_lt i (n + k) ≡ list_any p (take k w)
some_passes p n k i y [] h = absurd (cc h)
some_passes p n zero i y (x ∷ xs) h =
    let l : n ≤ i = least p n i y (x ∷ xs) h in
    grind (arith, nat_tests)
some_passes p n (suc k) i y (x ∷ xs) h = before_step (p x) n k i x y (first_from p (n + 1) xs) (list_any p (take k xs)) (some_passes p (n + 1) k i y xs) h
