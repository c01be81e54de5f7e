-- Numbers in lists, and the numbers of rows.
use Rattle.std.proofs.Common.{◌≡◌, ◌⊎◌, ℕ, Bool, true, false, ◌||◌, nat_eq, List, [], ◌∷◌, ◌++◌, refl, ap, inl, inr, eqb-true, eq-eqb}
use Rattle.gl_calculus.specs.Computation.Lists.{Member}
use Rattle.gl_calculus.specs.Computation.Notes.{Note}
use Rattle.gl_calculus.specs.Grid.Grid.{Range}
use Rattle.gl_support.specs.Reach.{has}
use Rattle.gl_support.specs.Rows.{notes_of}
use Rattle.gl_support.specs.declared.row.Row.{Row}
use Rattle.gl_demand.specs.declared.outcome.Outcome.{Outcome}
use Rattle.gl_core.specs.Numbers.{numbers_of}

-- ---- numbers in lists

pub has_push : (xs : List ℕ) (n k : ℕ) → has (xs ++ n ∷ []) k ≡ (has xs k || nat_eq k n)
has_push [] n k = by (nat_eq k n)
  where
    by : (b : Bool) → (b || false) ≡ (false || b)
    by true = refl
    by false = refl
has_push (x ∷ xs) n k = by (nat_eq k x) (has_push xs n k)
  where
    by : (b : Bool) → has (xs ++ n ∷ []) k ≡ (has xs k || nat_eq k n) → (b || has (xs ++ n ∷ []) k) ≡ ((b || has xs k) || nat_eq k n)
    by true e = refl
    by false e = e

pub has_there : (xs : List ℕ) (k : ℕ) → Member k xs → has xs k ≡ true
has_there [] k m = absurd m
has_there (x ∷ xs) k (inl e) = ap (λ b. b || has xs k) (eq-eqb k x e)
has_there (x ∷ xs) k (inr m) = by (nat_eq k x) (has_there xs k m)
  where
    by : (b : Bool) → has xs k ≡ true → (b || has xs k) ≡ true
    by true e = refl
    by false e = e

pub there_has : (xs : List ℕ) (k : ℕ) → has xs k ≡ true → Member k xs
there_has [] k e = absurd (cc e)
there_has (x ∷ xs) k e = by (nat_eq k x) refl e (there_has xs k)
  where
    by : (b : Bool) → nat_eq k x ≡ b → (b || has xs k) ≡ true → (has xs k ≡ true → Member k xs) → Member k (x ∷ xs)
    by true t d f = inl (eqb-true k x t)
    by false t d f = inr (f d)

pub in_both : {P : Type 0} (xs ys : List ℕ) (k : ℕ) → Member k (xs ++ ys) → (Member k xs → P) → (Member k ys → P) → P
in_both [] ys k m f g = g m
in_both (x ∷ xs) ys k (inl e) f g = f (inl e)
in_both (x ∷ xs) ys k (inr m) f g = in_both xs ys k m (λ n. f (inr n)) g

pub in_first : (xs ys : List ℕ) (k : ℕ) → Member k xs → Member k (xs ++ ys)
in_first [] ys k m = absurd m
in_first (x ∷ xs) ys k (inl e) = inl e
in_first (x ∷ xs) ys k (inr m) = inr (in_first xs ys k m)

pub in_second : (xs ys : List ℕ) (k : ℕ) → Member k ys → Member k (xs ++ ys)
in_second [] ys k m = m
in_second (x ∷ xs) ys k m = inr (in_second xs ys k m)

-- ---- numbers of rows

pub note_number : (rs : List (Row Outcome Range)) (n : Note ℕ Outcome Range) → Member n (notes_of rs) → Member n.key (numbers_of rs)
note_number [] n m = absurd m
note_number (r ∷ rs) n (inl e) = inl (ap (λ (x : Note ℕ Outcome Range). x.key) e)
note_number (r ∷ rs) n (inr m) = inr (note_number rs n m)
