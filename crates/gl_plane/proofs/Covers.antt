-- The first root that spills over an address.
use Rattle.std.proofs.Common.{◌≡◌, ℕ, ◌+◌, Bool, true, false, cond, [], ◌∷◌, Some, None, refl, ◌∙◌, ap}
use Rattle.gl_calculus.specs.Grid.Grid.{Addr, single}
use Rattle.gl_calculus.specs.Values.Value.{Entry, Oracle}
use Rattle.gl_calculus.specs.Evaluation.Oracle.{spills_over, cover}
use Rattle.gl_plane.specs.Reach.{first_from, spills_into}
use Rattle.gl_plane.specs.Entries.{cover_by}

here : (a : Addr) (x : Entry) (xs : Oracle) → spills_over a x ≡ true → cover (x ∷ xs) a ≡ cover_by x a
here a x xs e = rw e refl

behind : (a : Addr) (x : Entry) (xs : Oracle) → spills_over a x ≡ false → cover (x ∷ xs) a ≡ cover xs a
behind a x xs e = rw e refl

covers_step : (b : Bool) (a : Addr) (n i : ℕ) (x y : Entry) (xs : Oracle) → spills_over a x ≡ b → (first_from (spills_into (single a)) (n + 1) xs ≡ Some (i, y) → cover xs a ≡ cover_by y a) → cond b (Some (n, x)) (first_from (spills_into (single a)) (n + 1) xs) ≡ Some (i, y) → cover (x ∷ xs) a ≡ cover_by y a
covers_step true a n i x y xs e rest h =
    let pairs : (n, x) ≡ (i, y) = cc in
    let same : x ≡ y = ap (λ (p : ℕ × Entry). p.1) pairs in
    here a x xs e ∙ ap (λ z. cover_by z a) same
covers_step false a n i x y xs e rest h = behind a x xs e ∙ rest h

-- the first entry that meets the range of one address covers it
pub first_covers : (a : Addr) (n i : ℕ) (y : Entry) (w : Oracle) → first_from (spills_into (single a)) n w ≡ Some (i, y) → cover w a ≡ cover_by y a
first_covers a n i y [] h = absurd (cc h)
first_covers a n i y (x ∷ xs) h = covers_step (spills_over a x) a n i x y xs refl (first_covers a (n + 1) i y xs) h

nowhere_step : (b : Bool) (a : Addr) (n : ℕ) (x : Entry) (xs : Oracle) → spills_over a x ≡ b → (first_from (spills_into (single a)) (n + 1) xs ≡ None → cover xs a ≡ None) → cond b (Some (n, x)) (first_from (spills_into (single a)) (n + 1) xs) ≡ None → cover (x ∷ xs) a ≡ None
nowhere_step true a n x xs e rest h = absurd (cc h)
nowhere_step false a n x xs e rest h = behind a x xs e ∙ rest h

-- where there is none, nothing covers it
pub none_covers : (a : Addr) (n : ℕ) (w : Oracle) → first_from (spills_into (single a)) n w ≡ None → cover w a ≡ None
none_covers a n [] h = refl
none_covers a n (x ∷ xs) h = nowhere_step (spills_over a x) a n x xs refl (none_covers a (n + 1) xs) h
