-- The place of an address among addresses in their order.
use Rattle.std.proofs.Common.{◌≡◌, ◌∙◌, ◌⊎◌, inl, inr, ℕ, ◌+◌, ◌<◌, ◌≤◌, zero, suc, false, List, [], ◌∷◌, length, get_or, sym, ap, subst, arith, IsTrue}
use Rattle.std.proofs.lemmas.List.{length-map}
use Rattle.std.proofs.lemmas.Grind.{common_steps}
use Rattle.gl_calculus.specs.Grid.Grid.{Addr, same_addr, is_before, AreInOrder}
use Rattle.gl_merge.specs.Index.{Index, places}
use Rattle.gl_merge.specs.Spot.{place_at, AreBefore, AreAfter, IsFoundAt, IsGapAt}

before_all : (a b c : Addr) → IsTrue (is_before a b) → IsTrue (is_before b c) → IsTrue (is_before a c)
before_all a b c h k = grind (arith, common_steps)

pub behind_apart : (a b : Addr) → IsTrue (is_before b a) → same_addr a b ≡ false
behind_apart a b h = grind (arith, common_steps)

pub behind_not : (a b : Addr) → IsTrue (is_before b a) → is_before a b ≡ false
behind_not a b h = grind (arith, common_steps)

pub ahead_apart : (a b : Addr) → IsTrue (is_before a b) → same_addr a b ≡ false
ahead_apart a b h = grind (arith, common_steps)

pub behind_other : (a b : Addr) → same_addr a b ≡ false → is_before a b ≡ false → IsTrue (is_before b a)
behind_other a b h k = grind (arith, common_steps)

pub tail : (a : Addr) (ps : List Addr) → AreInOrder (a ∷ ps) → AreInOrder ps
tail a [] o = tt
tail a (b ∷ ps) o = o.1

head_before : (p : Addr) (ps : List Addr) (k : ℕ) → AreInOrder (p ∷ ps) → k < length ps → IsTrue (is_before p (place_at ps k))
head_before p [] k o l = absurd (omega arith)
head_before p (q ∷ ps) zero o l = o.0
head_before p (q ∷ ps) (suc k) o l = before_all p q (place_at ps k) o.0 (head_before q ps k o.1 (omega arith))

ordered_at : (ps : List Addr) (j k : ℕ) → AreInOrder ps → j < k → k < length ps → IsTrue (is_before (place_at ps j) (place_at ps k))
ordered_at [] j k o h l = absurd (omega arith)
ordered_at (p ∷ ps) j zero o h l = absurd (omega arith)
ordered_at (p ∷ ps) zero (suc k) o h l = head_before p ps k o (omega arith)
ordered_at (p ∷ ps) (suc j) (suc k) o h l = ordered_at ps j k (tail p ps o) (omega arith) (omega arith)

pub place_read : (ix : Index) (m : ℕ) (x : Addr × ℕ) → m < length ix → x ≡ get_or ix m x → place_at (places ix) m ≡ x.0
place_read [] m x l e = absurd (omega arith)
place_read (p ∷ ix) zero x l e = ap (λ (z : Addr × ℕ). z.0) (sym e)
place_read (p ∷ ix) (suc m) x l e = place_read ix m x (omega arith) e

-- what the address in the middle says
module _ (ix : Index) (a : Addr) (m : ℕ) (x : Addr × ℕ) (o : AreInOrder (places ix)) (l : m < length ix) (is : x ≡ get_or ix m x) where
  here : place_at (places ix) m ≡ x.0
  here = place_read ix m x l is

  long : length (places ix) ≡ length ix
  long = length-map ix (λ (p : Addr × ℕ). p.0)

  in_places : m < length (places ix)
  in_places = subst (λ (n : ℕ). m < n) (sym long) l

  pub before_more : IsTrue (is_before x.0 a) → AreBefore (places ix) a (m + 1)
  before_more b k h = by (lower k h)
    where
      lower : (k : ℕ) → k < m + 1 → (k < m) ⊎ (k ≡ m)
      lower k h = grind arith

      at_middle : IsTrue (is_before (place_at (places ix) m) a)
      at_middle = subst (λ (z : Addr). IsTrue (is_before z a)) (sym here) b

      by : (k < m) ⊎ (k ≡ m) → IsTrue (is_before (place_at (places ix) k) a)
      by (inl j) = before_all (place_at (places ix) k) (place_at (places ix) m) a (ordered_at (places ix) k m o j in_places) at_middle
      by (inr e) = subst (λ (n : ℕ). IsTrue (is_before (place_at (places ix) n) a)) (sym e) at_middle

  pub after_from : IsTrue (is_before a x.0) → AreAfter (places ix) a m
  after_from b k h j = by (lower k h)
    where
      lower : (k : ℕ) → m ≤ k → (m < k) ⊎ (k ≡ m)
      lower k h = grind arith

      at_middle : IsTrue (is_before a (place_at (places ix) m))
      at_middle = subst (λ (z : Addr). IsTrue (is_before a z)) (sym here) b

      by : (m < k) ⊎ (k ≡ m) → IsTrue (is_before a (place_at (places ix) k))
      by (inl i) = before_all a (place_at (places ix) m) (place_at (places ix) k) at_middle (ordered_at (places ix) m k o i j)
      by (inr e) = subst (λ (n : ℕ). IsTrue (is_before a (place_at (places ix) n))) (sym e) at_middle

  pub found_at : x.0 ≡ a → IsFoundAt (places ix) a m
  found_at e = record {
    within = in_places;
    here = here ∙ e;
    before = λ k h. subst (λ (z : Addr). IsTrue (is_before (place_at (places ix) k) z)) (here ∙ e) (ordered_at (places ix) k m o h in_places);
  }

pub found_tail : (p : Addr) (ps : List Addr) (a : Addr) (i : ℕ) → IsFoundAt (p ∷ ps) a (suc i) → IsFoundAt ps a i
found_tail p ps a i f = record { within = let w = f.within in omega arith; here = f.here; before = λ k h. f.before (suc k) (omega arith) }

pub gap_tail : (p : Addr) (ps : List Addr) (a : Addr) (i : ℕ) → IsGapAt (p ∷ ps) a (suc i) → IsGapAt ps a i
gap_tail p ps a i g = record { within = let w = g.within in omega arith; before = λ k h. g.before (suc k) (omega arith); after = λ k h l. g.after (suc k) (omega arith) (omega arith) }

pub found_within : (ix : Index) (a : Addr) (i : ℕ) → IsFoundAt (places ix) a i → i < length ix
found_within ix a i f = subst (λ (n : ℕ). i < n) (length-map ix (λ (p : Addr × ℕ). p.0)) f.within

pub gap_within : (ix : Index) (a : Addr) (i : ℕ) → IsGapAt (places ix) a i → i ≤ length ix
gap_within ix a i g = subst (λ (n : ℕ). i ≤ n) (length-map ix (λ (p : Addr × ℕ). p.0)) g.within
