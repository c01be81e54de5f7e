-- A range meets another exactly where one of its addresses is the other's.
use Rattle.std.proofs.Common.{◌≡◌, ◌⊎◌, inl, inr, ℕ, ◌≤◌, ◌<◌, List, [], ◌∷◌, Bool, true, false, ◌&&◌, ◌||◌, not, refl, sym, ap, ◌∙◌, arith}
use Rattle.std.specs.Prelude.{nat_le}
use Rattle.std.specs.List.{list_any, list_all}
use Rattle.std.proofs.lemmas.Bool.{cases_order, leb-true}
use Rattle.gl_calculus.specs.Grid.Grid.{Addr, addr, Range, addresses, covers, meets}
use Rattle.gl_calculus.specs.Calculation.Telling.{MeetsAtAddresses}
use Rattle.gl_calculus.proofs.Tests.{both}
use Rattle.gl_calculus.proofs.Grants.{all_covered, not_all, not_false, split}
use Rattle.gl_calculus.proofs.Tells.{same_bools, within, covered, meeting}

-- some member passes exactly where not all fail
any_all : {X : Type 0} (p : X → Bool) (xs : List X) → list_any p xs ≡ not (list_all (λ x. not (p x)) xs)
any_all p [] = refl
any_all p (x ∷ xs) = by (p x) (any_all p xs)
  where
    by : (b : Bool) → list_any p xs ≡ not (list_all (λ x. not (p x)) xs) → (b || list_any p xs) ≡ not (not b && list_all (λ x. not (p x)) xs)
    by true h = refl
    by false h = h

flipped : (b c : Bool) → b ≡ not c → b ≡ true → c ≡ false
flipped b true e t = absurd (cc (sym t ∙ e))
flipped b false e t = refl

flipped_false : (b c : Bool) → b ≡ not c → b ≡ false → c ≡ true
flipped_false b true e t = refl
flipped_false b false e t = absurd (cc (sym t ∙ e))

-- the greater of two numbers
record Greater (a b : ℕ) : Type 0 where
  most : ℕ
  above : a ≤ most
  beyond : b ≤ most
  least : (c : ℕ) → a ≤ c → b ≤ c → most ≤ c

greater : (a b : ℕ) → Greater a b
greater a b = by (cases_order a b)
  where
    by : (a ≡ b) ⊎ ((a < b) ⊎ (b < a)) → Greater a b
    by (inl e) = record { most = a; above = omega arith; beyond = omega (arith, e); least = λ c l r. l }
    by (inr (inl h)) = record { most = b; above = omega (arith, h); beyond = omega arith; least = λ c l r. r }
    by (inr (inr h)) = record { most = a; above = omega arith; beyond = omega (arith, h); least = λ c l r. l }

module _ (r c : Range) (r_ordered : covers r r.first ≡ true) (c_ordered : covers c c.first ≡ true) where
  found : list_any (covers c) (addresses r) ≡ true → meets r c ≡ true
  found e =
      let f = flipped (list_any (covers c) (addresses r)) (list_all (λ a. not (covers c a)) (addresses r)) (any_all (covers c) (addresses r)) e in
      let (a, i, n) = not_all (λ a. not (covers c a)) r f in
      meeting r c a i (not_false (covers c a) n)

  there : meets r c ≡ true → (a : Addr) × (covers r a ≡ true) × (covers c a ≡ true)
  there e =
      let (v, h) = both (nat_le r.first.row c.last.row && nat_le c.first.row r.last.row) (nat_le r.first.col c.last.col && nat_le c.first.col r.last.col) e in
      let (v1, v2) = both (nat_le r.first.row c.last.row) (nat_le c.first.row r.last.row) v in
      let (h1, h2) = both (nat_le r.first.col c.last.col) (nat_le c.first.col r.last.col) h in
      let a = leb-true r.first.row c.last.row v1 in
      let b = leb-true c.first.row r.last.row v2 in
      let d = leb-true r.first.col c.last.col h1 in
      let f = leb-true c.first.col r.last.col h2 in
      let s = within r r.first r_ordered in
      let t = within c c.first c_ordered in
      let row = greater r.first.row c.first.row in
      let col = greater r.first.col c.first.col in (
        addr col.most row.most,
        covered r (addr col.most row.most) (record { top = row.above; bottom = row.least r.last.row s.bottom b; near = col.above; far = col.least r.last.col s.far f }),
        covered c (addr col.most row.most) (record { top = row.beyond; bottom = row.least c.last.row a t.bottom; near = col.beyond; far = col.least c.last.col d t.far }),
      )

  is_found : meets r c ≡ true → list_any (covers c) (addresses r) ≡ true
  is_found e = by (split (list_any (covers c) (addresses r)))
    where
      by : (list_any (covers c) (addresses r) ≡ true) ⊎ (list_any (covers c) (addresses r) ≡ false) → list_any (covers c) (addresses r) ≡ true
      by (inl t) = t
      by (inr n) =
          let (a, i, j) = there e in
          let all = flipped_false (list_any (covers c) (addresses r)) (list_all (λ a. not (covers c a)) (addresses r)) (any_all (covers c) (addresses r)) n in
          let o : not (covers c a) ≡ true = all_covered (λ a. not (covers c a)) r all a i in
          let q : not true ≡ true = sym (ap not j) ∙ o in
          absurd (cc q)

pub meets_at : MeetsAtAddresses
meets_at r c x y = same_bools (meets r c) (list_any (covers c) (addresses r)) (is_found r c x y) (found r c x y)
