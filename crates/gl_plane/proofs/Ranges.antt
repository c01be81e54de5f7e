-- What ranges cover together.
use Rattle.std.proofs.Common.{◌≡◌, ◌⊎◌, inl, inr, ℕ, ◌+◌, ◌≤◌, ◌<◌, List, [], ◌∷◌, ◌++◌, length, get_or, map, take, Bool, true, false, ◌||◌, Option, Some, None, refl, sym, ap, ◌∙◌, subst, arith}
use Rattle.std.specs.List.{list_any}
use Rattle.std.proofs.lemmas.Bool.{cases_order}
use Rattle.std.proofs.lemmas.List.{take_more}
use Rattle.std.proofs.lemmas.List.Folds.{list_any-append}
use Rattle.gl_calculus.proofs.Members.{any_member, member_any, either, left, right}
use Rattle.gl_calculus.specs.Grid.Grid.{Addr, same_addr, Range, range, single, addresses, covers}
use Rattle.gl_calculus.proofs.Tests.{addr_exact, addr_same}
use Rattle.gl_calculus.proofs.Grants.{clash}
use Rattle.gl_calculus.proofs.Tells.{same_bools, within, covered}
use Rattle.gl_plane.specs.Changes.{is_covered, reaches, hull_covers, IsHull, IsBoth}

-- ---- one range for two

pub rows_joined : (a b : Range) → a.first.col ≡ b.first.col → a.last.col ≡ b.last.col → a.first.row ≤ b.first.row → b.first.row ≤ a.last.row + 1 → a.last.row ≤ b.last.row → IsBoth a b (range a.first b.last)
rows_joined a b c d e f g p = same_bools (covers (range a.first b.last) p) (covers a p || covers b p) apart together
  where
    apart : covers (range a.first b.last) p ≡ true → (covers a p || covers b p) ≡ true
    apart h =
        let w = within (range a.first b.last) p h in
        let wt = w.top in
        let wb = w.bottom in
        let wn = w.near in
        let wf = w.far in
        by wt wb wn wf (cases_order p.row a.last.row)
      where
        by : a.first.row ≤ p.row → p.row ≤ b.last.row → a.first.col ≤ p.col → p.col ≤ b.last.col → (p.row ≡ a.last.row) ⊎ ((p.row < a.last.row) ⊎ (a.last.row < p.row)) → (covers a p || covers b p) ≡ true
        by t m n r (inl l) = left (covers a p) (covers b p) (covered a p (record { top = t; bottom = omega (arith, l); near = n; far = omega (arith, r, d) }))
        by t m n r (inr (inl l)) = left (covers a p) (covers b p) (covered a p (record { top = t; bottom = omega (arith, l); near = n; far = omega (arith, r, d) }))
        by t m n r (inr (inr l)) = right (covers a p) (covers b p) (covered b p (record { top = omega (arith, l, f); bottom = m; near = omega (arith, n, c); far = r }))

    together : (covers a p || covers b p) ≡ true → covers (range a.first b.last) p ≡ true
    together h = by (either (covers a p) (covers b p) h)
      where
        by : (covers a p ≡ true) ⊎ (covers b p ≡ true) → covers (range a.first b.last) p ≡ true
        by (inl i) =
            let w = within a p i in
            let wb = w.bottom in
            let wf = w.far in
            covered (range a.first b.last) p (record { top = w.top; bottom = omega (arith, wb, g); near = w.near; far = omega (arith, wf, d) })
        by (inr i) =
            let w = within b p i in
            let wt = w.top in
            let wn = w.near in
            covered (range a.first b.last) p (record { top = omega (arith, wt, e); bottom = w.bottom; near = omega (arith, wn, c); far = w.far })

pub columns_joined : (a b : Range) → a.first.row ≡ b.first.row → a.last.row ≡ b.last.row → a.first.col ≤ b.first.col → b.first.col ≤ a.last.col + 1 → a.last.col ≤ b.last.col → IsBoth a b (range a.first b.last)
columns_joined a b c d e f g p = same_bools (covers (range a.first b.last) p) (covers a p || covers b p) apart together
  where
    apart : covers (range a.first b.last) p ≡ true → (covers a p || covers b p) ≡ true
    apart h =
        let w = within (range a.first b.last) p h in
        let wt = w.top in
        let wb = w.bottom in
        let wn = w.near in
        let wf = w.far in
        by wt wb wn wf (cases_order p.col a.last.col)
      where
        by : a.first.row ≤ p.row → p.row ≤ b.last.row → a.first.col ≤ p.col → p.col ≤ b.last.col → (p.col ≡ a.last.col) ⊎ ((p.col < a.last.col) ⊎ (a.last.col < p.col)) → (covers a p || covers b p) ≡ true
        by t m n r (inl l) = left (covers a p) (covers b p) (covered a p (record { top = t; bottom = omega (arith, m, d); near = n; far = omega (arith, l) }))
        by t m n r (inr (inl l)) = left (covers a p) (covers b p) (covered a p (record { top = t; bottom = omega (arith, m, d); near = n; far = omega (arith, l) }))
        by t m n r (inr (inr l)) = right (covers a p) (covers b p) (covered b p (record { top = omega (arith, t, c); bottom = m; near = omega (arith, l, f); far = r }))

    together : (covers a p || covers b p) ≡ true → covers (range a.first b.last) p ≡ true
    together h = by (either (covers a p) (covers b p) h)
      where
        by : (covers a p ≡ true) ⊎ (covers b p ≡ true) → covers (range a.first b.last) p ≡ true
        by (inl i) =
            let w = within a p i in
            let wb = w.bottom in
            let wf = w.far in
            covered (range a.first b.last) p (record { top = w.top; bottom = omega (arith, wb, d); near = w.near; far = omega (arith, wf, g) })
        by (inr i) =
            let w = within b p i in
            let wt = w.top in
            let wn = w.near in
            covered (range a.first b.last) p (record { top = omega (arith, wt, c); bottom = w.bottom; near = omega (arith, wn, e); far = w.far })

pub inside : (a b : Range) → covers a b.first ≡ true → covers a b.last ≡ true → IsBoth a b a
inside a b f l p = same_bools (covers a p) (covers a p || covers b p) (left (covers a p) (covers b p)) (λ h. by (either (covers a p) (covers b p) h))
  where
    by : (covers a p ≡ true) ⊎ (covers b p ≡ true) → covers a p ≡ true
    by (inl i) = i
    by (inr i) =
        let u = within a b.first f in
        let v = within a b.last l in
        let w = within b p i in
        let ut = u.top in
        let un = u.near in
        let vb = v.bottom in
        let vf = v.far in
        let wt = w.top in
        let wb = w.bottom in
        let wn = w.near in
        let wf = w.far in
        covered a p (record { top = omega (arith, ut, wt); bottom = omega (arith, vb, wb); near = omega (arith, un, wn); far = omega (arith, vf, wf) })

-- a range that reaches at least as far to all sides covers both
pub around_both : (a b r : Range) (p : Addr) → r.first.row ≤ a.first.row → r.first.row ≤ b.first.row → r.first.col ≤ a.first.col → r.first.col ≤ b.first.col → a.last.row ≤ r.last.row → b.last.row ≤ r.last.row → a.last.col ≤ r.last.col → b.last.col ≤ r.last.col → (covers a p || covers b p) ≡ true → covers r p ≡ true
around_both a b r p ta tb na nb ba bb fa fb h = by (either (covers a p) (covers b p) h)
  where
    by : (covers a p ≡ true) ⊎ (covers b p ≡ true) → covers r p ≡ true
    by (inl i) =
        let w = within a p i in
        let wt = w.top in
        let wb = w.bottom in
        let wn = w.near in
        let wf = w.far in
        covered r p (record { top = omega (arith, wt, ta); bottom = omega (arith, wb, ba); near = omega (arith, wn, na); far = omega (arith, wf, fa) })
    by (inr i) =
        let w = within b p i in
        let wt = w.top in
        let wb = w.bottom in
        let wn = w.near in
        let wf = w.far in
        covered r p (record { top = omega (arith, wt, tb); bottom = omega (arith, wb, bb); near = omega (arith, wn, nb); far = omega (arith, wf, fb) })

pub first_covered : (r : Range) → r.first.row ≤ r.last.row → r.first.col ≤ r.last.col → covers r r.first ≡ true
first_covered r t f = covered r r.first (record { top = omega arith; bottom = t; near = omega arith; far = f })

-- ---- lists of ranges

single_test : (x p : Addr) → covers (single x) p ≡ same_addr p x
single_test x p = same_bools (covers (single x) p) (same_addr p x) same (λ e. subst (λ q. covers (single x) q ≡ true) (sym (addr_exact p x e)) (first_covered (single x) (omega arith) (omega arith)))
  where
    same : covers (single x) p ≡ true → same_addr p x ≡ true
    same c =
        let w = within (single x) p c in
        let t = w.top in
        let b = w.bottom in
        let n = w.near in
        let f = w.far in
        let r : p.row ≡ x.row = omega (arith, t, b) in
        let q : p.col ≡ x.col = omega (arith, n, f) in
        let e : p ≡ x = λ i. record { col = q i; row = r i } in
        subst (λ a. same_addr a x ≡ true) (sym e) (addr_same x)

-- the ranges of single addresses cover these addresses
pub singles_covered : (places : List Addr) (p : Addr) → is_covered (map single places) p ≡ list_any (same_addr p) places
singles_covered [] p = refl
singles_covered (a ∷ rest) p = ap (λ b. b || is_covered (map single rest) p) (single_test a p) ∙ ap (λ b. same_addr p a || b) (singles_covered rest p)

-- the changes reach a range exactly where some of them shares an address with it
pub shared : (cs : List Range) (r : Range) → list_any (λ c. list_any (covers c) (addresses r)) cs ≡ reaches cs r
shared cs r = same_bools (list_any (λ c. list_any (covers c) (addresses r)) cs) (reaches cs r) there back
  where
    there : list_any (λ c. list_any (covers c) (addresses r)) cs ≡ true → reaches cs r ≡ true
    there e =
        let (c, m, h) = any_member (λ c. list_any (covers c) (addresses r)) cs e in
        let (a, n, i) = any_member (covers c) (addresses r) h in
        member_any (is_covered cs) (addresses r) a n (member_any (λ d. covers d a) cs c m i)

    back : reaches cs r ≡ true → list_any (λ c. list_any (covers c) (addresses r)) cs ≡ true
    back e =
        let (a, n, h) = any_member (is_covered cs) (addresses r) e in
        let (c, m, i) = any_member (λ d. covers d a) cs h in
        member_any (λ c. list_any (covers c) (addresses r)) cs c m (member_any (covers c) (addresses r) a n i)

pub not_true : (b : Bool) → (b ≡ true → ⊥) → false ≡ b
not_true true f = absurd (f refl)
not_true false f = refl

-- what lies apart from the hull is not reached
pub apart_from_hull : (hull : Option Range) (h : Range) (cs : List Range) (r : Range) → IsHull hull cs → hull ≡ Some h → list_any (covers h) (addresses r) ≡ false → false ≡ reaches cs r
apart_from_hull hull h cs r k s f = not_true (reaches cs r) (λ e.
    let (a, n, i) = any_member (is_covered cs) (addresses r) e in
    let c : covers h a ≡ true = subst (λ o. hull_covers o a ≡ true) s (k a i) in
    clash (member_any (covers h) (addresses r) a n c) f)

pub no_hull : (hull : Option Range) (cs : List Range) (r : Range) → IsHull hull cs → hull ≡ None → false ≡ reaches cs r
no_hull hull cs r k s = not_true (reaches cs r) (λ e.
    let (a, n, i) = any_member (is_covered cs) (addresses r) e in
    let c : false ≡ true = subst (λ o. hull_covers o a ≡ true) s (k a i) in
    cc c)

-- a hull that is widened by one range more
pub wider : (hull wide : Option Range) (r new : Range) (more : List Range) (i : ℕ) → i < length more → r ≡ get_or more i r →
    ((a : Addr) → (hull_covers hull a || is_covered (take i more) a) ≡ true → hull_covers wide a ≡ true) →
    ((a : Addr) → (hull_covers wide a || covers r a) ≡ true → covers new a ≡ true) →
    (a : Addr) → (hull_covers hull a || is_covered (take (i + 1) more) a) ≡ true → covers new a ≡ true
wider hull wide r new more i l is so_far next a h = by (either (hull_covers hull a) (is_covered (take (i + 1) more) a) h)
  where
    old : List Range
    old = take i more

    held : (hull_covers hull a || is_covered old a) ≡ true → covers new a ≡ true
    held e = next a (left (hull_covers wide a) (covers r a) (so_far a e))

    last : is_covered (take (i + 1) more) a ≡ true → (is_covered old a || (covers r a || false)) ≡ true
    last e =
        let taken : take (i + 1) more ≡ old ++ r ∷ [] = take_more more i r l ∙ ap (λ x. old ++ x ∷ []) (sym is) in
        sym (ap (λ rs. is_covered rs a) taken ∙ list_any-append (λ x. covers x a) old (r ∷ [])) ∙ e

    by_last : (is_covered old a ≡ true) ⊎ ((covers r a || false) ≡ true) → covers new a ≡ true
    by_last (inl e) = held (right (hull_covers hull a) (is_covered old a) e)
    by_last (inr e) = alone (either (covers r a) false e)
      where
        alone : (covers r a ≡ true) ⊎ (false ≡ true) → covers new a ≡ true
        alone (inl c) = next a (right (hull_covers wide a) (covers r a) c)
        alone (inr c) = absurd (cc c)

    by : (hull_covers hull a ≡ true) ⊎ (is_covered (take (i + 1) more) a ≡ true) → covers new a ≡ true
    by (inl e) = held (left (hull_covers hull a) (is_covered old a) e)
    by (inr e) = by_last (either (is_covered old a) (covers r a || false) (last e))
