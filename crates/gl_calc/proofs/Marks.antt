-- The contents of a range, one after another.
use Rattle.std.proofs.Common.{◌≡◌, inl, inr, ℕ, zero, suc, ◌+◌, ◌≤◌, ◌<◌, Bool, true, false, ◌&&◌, cond, List, [], ◌∷◌, ◌++◌, map, filter, find, take, length, slice_get, Some, None, refl, sym, ap, subst, ◌∙◌, arith}
use Rattle.gl_calculus.specs.Computation.Lists.{Member}
use Rattle.gl_calculus.specs.Grid.Grid.{Addr, Range, is_before, covers, AreInOrder}
use Rattle.gl_calculus.specs.Formulas.Formula.{Cells}
use Rattle.gl_calculus.proofs.Grants.{Before, before_of, of_before, before_trans, not_same}
use Rattle.gl_cells.specs.Search.{is_in_play}
use Rattle.gl_demand.proofs.Ordered.{tail, behind}

pub some_there : {X : Type 0} (xs : List X) (n : ℕ) (x : X) → slice_get xs n ≡ Some x → n < length xs
some_there [] n x e = absurd (cc e)
some_there (y ∷ ys) zero x e = omega arith
some_there (y ∷ ys) (suc n) x e = let l = some_there ys n x e in omega (arith, l)

pub none_there : {X : Type 0} (xs : List X) (n : ℕ) → slice_get xs n ≡ None → length xs ≤ n
none_there [] n e = omega arith
none_there (y ∷ ys) zero e = absurd (cc e)
none_there (y ∷ ys) (suc n) e = let l = none_there ys n e in omega (arith, l)

pub take_whole : {X : Type 0} (xs : List X) (n : ℕ) → length xs ≤ n → take n xs ≡ xs
take_whole [] zero l = refl
take_whole [] (suc n) l = refl
take_whole (x ∷ xs) zero l = absurd (omega (arith, l))
take_whole (x ∷ xs) (suc n) l = ap (λ ys. x ∷ ys) (take_whole xs n (omega (arith, l)))

take_suc : {X : Type 0} (xs : List X) (n : ℕ) (x : X) → slice_get xs n ≡ Some x → take (suc n) xs ≡ take n xs ++ x ∷ []
take_suc [] n x e = absurd (cc e)
take_suc (y ∷ ys) zero x e = let q : y ≡ x = cc e in ap (λ z. z ∷ []) q
take_suc (y ∷ ys) (suc n) x e = ap (λ zs. y ∷ zs) (take_suc ys n x e)

pub take_more : {X : Type 0} (xs : List X) (n : ℕ) (x : X) → slice_get xs n ≡ Some x → take (n + 1) xs ≡ take n xs ++ x ∷ []
take_more xs n x e = let s : n + 1 ≡ suc n = omega arith in ap (λ m. take m xs) s ∙ take_suc xs n x e

not_before : (a b : Addr) → Before b a → is_before a b ≡ false
not_before a b h = by (is_before a b) refl
  where
    by : (c : Bool) → is_before a b ≡ c → c ≡ false
    by true e = absurd (not_same b b (before_trans b a b h (before_of a b e)) refl)
    by false e = refl

not_itself : (a : Addr) → is_before a a ≡ false
not_itself a = by (is_before a a) refl
  where
    by : (c : Bool) → is_before a a ≡ c → c ≡ false
    by true e = absurd (not_same a a (before_of a a e) refl)
    by false e = refl

module _ (r : Range) where
  pub next_first : (xs : List Addr) → find (is_in_play r None) xs ≡ slice_get (filter (covers r) xs) 0
  next_first [] = refl
  next_first (x ∷ xs) = by (covers r x) (next_first xs)
    where
      by : (b : Bool) → find (is_in_play r None) xs ≡ slice_get (filter (covers r) xs) 0 → cond (b && true) (Some x) (find (is_in_play r None) xs) ≡ slice_get (cond b (x ∷ filter (covers r) xs) (filter (covers r) xs)) 0
      by true h = refl
      by false h = h

  -- all that stands behind an address comes after it
  first_behind : (a : Addr) (xs : List Addr) → ((b : Addr) → Member b xs → Before a b) → find (is_in_play r (Some a)) xs ≡ slice_get (filter (covers r) xs) 0
  first_behind a [] h = refl
  first_behind a (x ∷ xs) h = by (covers r x) (is_before a x) (of_before a x (h x (inl refl))) (first_behind a xs (λ b m. h b (inr m)))
    where
      by : (b s : Bool) → s ≡ true → find (is_in_play r (Some a)) xs ≡ slice_get (filter (covers r) xs) 0 → cond (b && s) (Some x) (find (is_in_play r (Some a)) xs) ≡ slice_get (cond b (x ∷ filter (covers r) xs) (filter (covers r) xs)) 0
      by true true e k = refl
      by true false e k = absurd (cc e)
      by false s e k = k

  in_covered : (xs : List Addr) (a : Addr) (n : ℕ) → slice_get (filter (covers r) xs) n ≡ Some a → Member a xs
  in_covered [] a n e = absurd (cc e)
  in_covered (x ∷ xs) a n e = by (covers r x) n e (in_covered xs a)
    where
      by : (b : Bool) (m : ℕ) → slice_get (cond b (x ∷ filter (covers r) xs) (filter (covers r) xs)) m ≡ Some a → ((k : ℕ) → slice_get (filter (covers r) xs) k ≡ Some a → Member a xs) → Member a (x ∷ xs)
      by true zero d f = let q : x ≡ a = cc d in inl (sym q)
      by true (suc m) d f = inr (f m d)
      by false m d f = inr (f m d)

  next_suc : (xs : List Addr) → AreInOrder xs → (n : ℕ) (a : Addr) → slice_get (filter (covers r) xs) n ≡ Some a → find (is_in_play r (Some a)) xs ≡ slice_get (filter (covers r) xs) (suc n)
  next_suc [] o n a e = absurd (cc e)
  next_suc (x ∷ xs) o n a e = by (covers r x) n e (λ m d. next_suc xs (tail x xs o) m a d)
    where
      skip : (s : Bool) → s ≡ false → (b : Bool) → cond (b && s) (Some x) (find (is_in_play r (Some a)) xs) ≡ find (is_in_play r (Some a)) xs
      skip true k b = absurd (cc k)
      skip false k true = refl
      skip false k false = refl

      by : (b : Bool) (m : ℕ) → slice_get (cond b (x ∷ filter (covers r) xs) (filter (covers r) xs)) m ≡ Some a → ((k : ℕ) → slice_get (filter (covers r) xs) k ≡ Some a → find (is_in_play r (Some a)) xs ≡ slice_get (filter (covers r) xs) (suc k)) →
          cond (b && is_before a x) (Some x) (find (is_in_play r (Some a)) xs) ≡ slice_get (cond b (x ∷ filter (covers r) xs) (filter (covers r) xs)) (suc m)
      by true zero d f =
          let q : x ≡ a = cc d in
          skip (is_before a x) (subst (λ u. is_before a u ≡ false) (sym q) (not_itself a)) true
          ∙ first_behind a xs (λ b m. subst (λ u. Before u b) q (behind x xs o b m))
      by true (suc m) d f = skip (is_before a x) (not_before a x (behind x xs o a (in_covered xs a m d))) true ∙ f m d
      by false m d f = f m d

  pub next_after : (xs : List Addr) → AreInOrder xs → (n : ℕ) (a : Addr) → slice_get (filter (covers r) xs) n ≡ Some a → find (is_in_play r (Some a)) xs ≡ slice_get (filter (covers r) xs) (n + 1)
  next_after xs o n a e = let s : suc n ≡ n + 1 = omega arith in next_suc xs o n a e ∙ ap (slice_get (filter (covers r) xs)) s

pub places_length : (S : Cells) → length (map (λ x. x.0) S) ≡ length S
places_length [] = refl
places_length (x ∷ xs) = ap suc (places_length xs)
