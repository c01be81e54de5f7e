-- Rivals, one number and one block after another.
use Rattle.std.proofs.Common.{◌≡◌, ◌⊎◌, inl, inr, ℕ, zero, suc, ◌+◌, ◌-◌, ◌/◌, ◌%◌, ◌<◌, ◌≤◌, max, nat_le, Bool, true, false, ◌&&◌, ◌||◌, cond, List, [], ◌∷◌, filter, length, get_or, set, length-set, refl, sym, subst, ap, ◌∙◌, arith}
use Rattle.std.specs.Prelude.{Option, Some, None, slice_get}
use Rattle.std.specs.List.{list_any, range_with_len}
use Rattle.std.specs.Option.{option_to_list}
use Rattle.std.proofs.lemmas.Bool.{and_parts, cases_eq, leb-true}
use Rattle.std.proofs.lemmas.List.{get_or-set_same, get_or-set_other}
use Rattle.std.proofs.lemmas.Option.{slice_get_within, slice_get_read, slice_get-get_or}
use Rattle.gl_calculus.specs.Grid.Grid.{Range, meets}
use Rattle.gl_flow.specs.Columns.{BoxAt}
use Rattle.gl_flow.specs.Rivals.{meets_box, rivals_from, bottom_row, AreBottoms}

module _ (boxes : List (Option Range)) (r : Range) (k : ℕ) where
  first_is : (j : ℕ) → j < k → range_with_len j (k - j) ≡ j ∷ range_with_len (j + 1) (k - (j + 1))
  first_is j l = let e : k - j ≡ suc (k - (j + 1)) = omega (arith, l) in ap (λ t. range_with_len j t) e

  pub past_end : (j : ℕ) → k ≤ j → rivals_from boxes r k j ≡ []
  past_end j l = let e : k - j ≡ 0 = omega (arith, l) in ap (λ t. filter (meets_box boxes r) (range_with_len j t)) e

  pub next_no : (j : ℕ) → meets_box boxes r j ≡ false → rivals_from boxes r k j ≡ rivals_from boxes r k (j + 1)
  next_no j e = by (cases_lt j k)
    where
      cases_lt : (a b : ℕ) → (a < b) ⊎ (b ≤ a)
      cases_lt a zero = inr (omega arith)
      cases_lt zero (suc b) = inl (omega arith)
      cases_lt (suc a) (suc b) = elim (cases_lt a b) as (λ v. (suc a < suc b) ⊎ (suc b ≤ suc a)) [
        | inl l ↦ inl (omega (arith, l))
        | inr l ↦ inr (omega (arith, l))
      ]

      by : (j < k) ⊎ (k ≤ j) → rivals_from boxes r k j ≡ rivals_from boxes r k (j + 1)
      by (inl l) = ap (filter (meets_box boxes r)) (first_is j l) ∙ ap (λ b. cond b (j ∷ rivals_from boxes r k (j + 1)) (rivals_from boxes r k (j + 1))) e
      by (inr l) = past_end j l ∙ sym (past_end (j + 1) (omega (arith, l)))

  pub next_yes : (j : ℕ) → j < k → meets_box boxes r j ≡ true → rivals_from boxes r k j ≡ j ∷ rivals_from boxes r k (j + 1)
  next_yes j l e = ap (filter (meets_box boxes r)) (first_is j l) ∙ ap (λ b. cond b (j ∷ rivals_from boxes r k (j + 1)) (rivals_from boxes r k (j + 1))) e

  pass : (n j : ℕ) → ((i : ℕ) → j ≤ i → i < j + n → meets_box boxes r i ≡ false) → rivals_from boxes r k j ≡ rivals_from boxes r k (j + n)
  pass zero j h = let e : j ≡ j + 0 = omega arith in ap (rivals_from boxes r k) e
  pass (suc n) j h =
      let e : j + 1 + n ≡ j + suc n = omega arith in
      next_no j (h j (omega arith) (omega arith)) ∙ pass n (j + 1) (λ i l m. h i (omega (arith, l)) (omega (arith, m))) ∙ ap (rivals_from boxes r k) e

  pub block_passed : (bottoms : List ℕ) (j : ℕ) → AreBottoms boxes bottoms → j % 64 ≡ 0 → get_or bottoms (j / 64) 0 < r.first.row → rivals_from boxes r k j ≡ rivals_from boxes r k (j + 64)
  block_passed bottoms j h e l = pass 64 j (λ i u v. above i (same i u v) (get_or boxes i None) refl)
    where
      same : (i : ℕ) → j ≤ i → i < j + 64 → i / 64 ≡ j / 64
      same i u v = omega (arith, e, u, v)

      above : (i : ℕ) → i / 64 ≡ j / 64 → (o : Option Range) → get_or boxes i None ≡ o → list_any (meets r) (option_to_list o) ≡ false
      above i w None d = refl
      above i w (Some b) d = by (meets r b) refl
        where
          at : BoxAt boxes i b
          at = slice_get-get_or boxes i None (inside boxes i d) ∙ ap Some d
            where
              inside : (xs : List (Option Range)) (i : ℕ) → get_or xs i None ≡ Some b → i < length xs
              inside [] i d = absurd (cc d)
              inside (x ∷ xs) zero d = omega arith
              inside (x ∷ xs) (suc i) d = let m = inside xs i d in omega (arith, m)

          by : (t : Bool) → meets r b ≡ t → (t || false) ≡ false
          by false u = refl
          by true u =
              let (p, q) = and_parts (nat_le r.first.row b.last.row && nat_le b.first.row r.last.row) (nat_le r.first.col b.last.col && nat_le b.first.col r.last.col) u in
              let (x, y) = and_parts (nat_le r.first.row b.last.row) (nat_le b.first.row r.last.row) p in
              let m = leb-true r.first.row b.last.row x in
              let n = h i b at in
              let z : get_or bottoms (i / 64) 0 ≡ get_or bottoms (j / 64) 0 = ap (λ t. get_or bottoms t 0) w in
              absurd (omega (arith, m, n, z, l))

-- ---- the rows that are kept for blocks

pub record AreRaised (boxes : List (Option Range)) (count : ℕ) (bottoms : List ℕ) : Type 0 where
  pub size : length bottoms ≡ length boxes / 64 + 1
  pub low : (j : ℕ) (b : Range) → BoxAt boxes j b → j < count → b.last.row ≤ get_or bottoms (j / 64) 0

pub raise_start : (boxes : List (Option Range)) (bottoms : List ℕ) → length bottoms ≡ length boxes / 64 + 1 → AreRaised boxes 0 bottoms
raise_start boxes bottoms e = record { size = e; low = λ j b at l. absurd (omega (arith, l)) }

pub raise_on : (boxes : List (Option Range)) (k : ℕ) (o : Option Range) (bottoms new : List ℕ) → k < length boxes → o ≡ get_or boxes k o → new ≡ set bottoms (k / 64) (max (get_or bottoms (k / 64) 0) (bottom_row o)) → AreRaised boxes k bottoms → AreRaised boxes (k + 1) new
raise_on boxes k o bottoms new l is e h = subst (λ t. AreRaised boxes (k + 1) t) (sym e) (record {
  size = length-set bottoms (k / 64) (max (get_or bottoms (k / 64) 0) (bottom_row o)) ∙ h.size;
  low = λ j b at m. low j b at m (cases_eq j k);
})
  where
    within : k / 64 < length bottoms
    within = let s = h.size in omega (arith, s, l)

    here : get_or (set bottoms (k / 64) (max (get_or bottoms (k / 64) 0) (bottom_row o))) (k / 64) 0 ≡ max (get_or bottoms (k / 64) 0) (bottom_row o)
    here = get_or-set_same bottoms (k / 64) (max (get_or bottoms (k / 64) 0) (bottom_row o)) 0 within

    more : (i x : ℕ) → x ≤ get_or bottoms i 0 → x ≤ get_or (set bottoms (k / 64) (max (get_or bottoms (k / 64) 0) (bottom_row o))) i 0
    more i x m = by (cases_eq i (k / 64))
      where
        by : (i ≡ k / 64) ⊎ (i ≡ k / 64 → ⊥) → x ≤ get_or (set bottoms (k / 64) (max (get_or bottoms (k / 64) 0) (bottom_row o))) i 0
        by (inl d) = subst (λ t. x ≤ get_or (set bottoms (k / 64) (max (get_or bottoms (k / 64) 0) (bottom_row o))) t 0) (sym d) (let u : get_or bottoms i 0 ≡ get_or bottoms (k / 64) 0 = ap (λ t. get_or bottoms t 0) d in omega (arith, here, m, u))
        by (inr d) = let u = get_or-set_other bottoms (k / 64) i (max (get_or bottoms (k / 64) 0) (bottom_row o)) 0 d in omega (arith, u, m)

    low : (j : ℕ) (b : Range) → BoxAt boxes j b → j < k + 1 → (j ≡ k) ⊎ (j ≡ k → ⊥) → b.last.row ≤ get_or (set bottoms (k / 64) (max (get_or bottoms (k / 64) 0) (bottom_row o))) (j / 64) 0
    low j b at m (inl d) =
        let u : Some o ≡ Some (Some b) = sym (slice_get_read boxes (length boxes) k o refl l is) ∙ ap (slice_get boxes) (sym d) ∙ at in
        let v : o ≡ Some b = cc u in
        let w : bottom_row o ≡ b.last.row = ap bottom_row v in
        subst (λ t. b.last.row ≤ get_or (set bottoms (k / 64) (max (get_or bottoms (k / 64) 0) (bottom_row o))) (t / 64) 0) (sym d) (omega (arith, here, w))
    low j b at m (inr d) = more (j / 64) b.last.row (h.low j b at (omega (arith, m, d)))

pub raise_done : (boxes : List (Option Range)) (k : ℕ) (bottoms : List ℕ) → length boxes ≤ k → AreRaised boxes k bottoms → AreBottoms boxes bottoms
raise_done boxes k bottoms l h j b at = let m = slice_get_within boxes j (Some b) at in h.low j b at (omega (arith, l, m))
