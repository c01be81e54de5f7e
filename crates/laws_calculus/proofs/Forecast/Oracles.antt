-- Oracles of the rounds: their entries lie in the boxes, so what they say of an address depends on few entries.
use Rattle.std.proofs.Common.{◌≡◌, ◌⊎◌, inl, inr, ◌+◌, ◌-◌, ◌≤◌, nat_le, Bool, true, false, cond, ◌&&◌, List, [], ◌∷◌, map, Option, Some, None, if◌then◌else◌, refl, sym, ◌∙◌, subst, ap, arith, option_map}
use Rattle.std.specs.List.{filter}
use Rattle.std.proofs.lemmas.Bool.{leb-true, le-leb}
use Rattle.gl_calculus.specs.Computation.Lists.{Member}
use Rattle.gl_calculus.specs.Grid.Grid.{Addr, same_addr, AreInOrder, Range, Size, area, covers, meets, grid, lies_in}
use Rattle.gl_calculus.specs.Values.Value.{Permit, Permitted, Refused, Entry, Oracle}
use Rattle.gl_calculus.specs.Values.Same.{is_permitted}
use Rattle.gl_calculus.specs.Formulas.Formula.{Formula, Const, Form, Cells, content, formula_addresses}
use Rattle.gl_calculus.specs.Evaluation.Oracle.{IsInOrder, entry_at, status, spills_over, Cover, cover, area_of, ArePermits}
use Rattle.gl_calculus.specs.Evaluation.Facts.{fact}
use Rattle.gl_calculus.specs.Calculation.Calculation.{has_content}
use Rattle.gl_calculus.proofs.Tests.{both, and_true, addr_exact, addr_same}
use Rattle.gl_calculus.proofs.Grants.{Before, before_of, before_trans, not_same, clash, split}
use Rattle.laws_calculus.proofs.Calculus.Settles.{formula_listed}
use Rattle.gl_calculus.specs.Forecast.{cell_shape, covering, has_box}

pub record IsFit (S : Cells) (w : Oracle) : Type 0 where
  pub in_order : IsInOrder w
  pub permits : ArePermits grid (has_content S) w
  -- each entry is of a formula cell, and no larger than its shape
  pub boxed : (x : Entry) → Member x w → (z : Size) × (cell_shape S x.root ≡ Some z) × (x.size.rows ≤ z.rows) × (x.size.cols ≤ z.cols)

-- ---- entries

pub entry_member : (w : Oracle) (a : Addr) (x : Entry) → entry_at w a ≡ Some x → Member x w × (x.root ≡ a)
entry_member [] a x e = absurd (cc e)
entry_member (y ∷ w) a x e =
    (elim (same_addr a y.root) as (λ b. same_addr a y.root ≡ b → (if b then Some y else entry_at w a) ≡ Some x → Member x (y ∷ w) × (x.root ≡ a)) [
      | true ↦ λ u z. let p : y ≡ x = cc z in (inl (sym p), ap (λ t. t.root) (sym p) ∙ sym (addr_exact a y.root u))
      | false ↦ λ u z. let (m, q) = entry_member w a x z in (inr m, q)
    ]) refl e

pub after : (a : Addr) (w : Oracle) → AreInOrder (a ∷ map (λ x. x.root) w) → (x : Entry) → Member x w → Before a x.root
after a [] o x m = absurd m
after a (y ∷ w) (p, o) x (inl e) = subst (λ t. Before a t.root) (sym e) (before_of a y.root p)
after a (y ∷ w) (p, o) x (inr m) = before_trans a y.root x.root (before_of a y.root p) (after y.root w o x m)

pub order_tail : (a : Addr) (rest : List Addr) → AreInOrder (a ∷ rest) → AreInOrder rest
order_tail a [] o = tt
order_tail a (b ∷ rest) (p, o) = o

pub member_entry : (w : Oracle) → IsInOrder w → (x : Entry) → Member x w → entry_at w x.root ≡ Some x
member_entry [] o x m = absurd m
member_entry (y ∷ w) o x (inl e) = subst (λ t. entry_at (y ∷ w) t.root ≡ Some t) (sym e) (rw (addr_same y.root) refl)
member_entry (y ∷ w) o x (inr m) = by (split (same_addr x.root y.root)) (member_entry w (order_tail y.root (map (λ x. x.root) w) o) x m)
  where
    by : (same_addr x.root y.root ≡ true) ⊎ (same_addr x.root y.root ≡ false) → entry_at w x.root ≡ Some x → entry_at (y ∷ w) x.root ≡ Some x
    by (inl e) h = absurd (not_same y.root x.root (after y.root w o x m) (sym (addr_exact x.root y.root e)))
    by (inr e) h = rw e h

-- ---- covers

abbrev pub cover_of : Addr → Entry → Cover
cover_of a x = record { root = x.root; rows = a.row - x.root.row; cols = a.col - x.root.col }

pub cover_entry : (w : Oracle) (a : Addr) (c : Cover) → cover w a ≡ Some c → (x : Entry) × Member x w × (spills_over a x ≡ true) × (c ≡ cover_of a x)
cover_entry [] a c e = absurd (cc e)
cover_entry (y ∷ w) a c e =
    (elim (spills_over a y) as (λ b. spills_over a y ≡ b → (if b then Some (cover_of a y) else cover w a) ≡ Some c → (x : Entry) × Member x (y ∷ w) × (spills_over a x ≡ true) × (c ≡ cover_of a x)) [
      | true ↦ λ u z. let p : cover_of a y ≡ c = cc z in (y, inl refl, u, sym p)
      | false ↦ λ u z. let (x, m, s, q) = cover_entry w a c z in (x, inr m, s, q)
    ]) refl e

cover_some : (w : Oracle) (a : Addr) (x : Entry) → Member x w → spills_over a x ≡ true → (c : Cover) × (cover w a ≡ Some c)
cover_some [] a x m s = absurd m
cover_some (y ∷ w) a x m s =
    (elim (spills_over a y) as (λ b. spills_over a y ≡ b → (c : Cover) × ((if b then Some (cover_of a y) else cover w a) ≡ Some c)) [
      | true ↦ λ u. (cover_of a y, refl)
      | false ↦ λ u. behind u (λ i. cover_some w a x i s) m
    ]) refl
  where
    behind : spills_over a y ≡ false → (Member x w → (c : Cover) × (cover w a ≡ Some c)) → (x ≡ y) ⊎ Member x w → (c : Cover) × (cover w a ≡ Some c)
    behind u h (inl e) = absurd (clash (subst (λ t. spills_over a t ≡ true) e s) u)
    behind u h (inr m) = h m

-- ---- areas

-- the test of a range that covers an address, as inequalities
covered_parts : (r : Range) (a : Addr) → covers r a ≡ true → (r.first.row ≤ a.row) × (a.row ≤ r.last.row) × (r.first.col ≤ a.col) × (a.col ≤ r.last.col)
covered_parts r a e =
    let (h, k) = both (nat_le r.first.row a.row && nat_le a.row r.last.row) (nat_le r.first.col a.col && nat_le a.col r.last.col) e in
    let (p, q) = both (nat_le r.first.row a.row) (nat_le a.row r.last.row) h in
    let (s, t) = both (nat_le r.first.col a.col) (nat_le a.col r.last.col) k in
    (leb-true r.first.row a.row p, leb-true a.row r.last.row q, leb-true r.first.col a.col s, leb-true a.col r.last.col t)

four : (p q s t : Bool) → p ≡ true → q ≡ true → s ≡ true → t ≡ true → ((p && q) && (s && t)) ≡ true
four p q s t a b c d = and_true (p && q) (s && t) (and_true p q a b) (and_true s t c d)

-- two ranges that cover one address meet
pub meets_at : (r s : Range) (a : Addr) → covers r a ≡ true → covers s a ≡ true → meets r s ≡ true
meets_at r s a h k =
    let (p, q, u, v) = covered_parts r a h in
    let (p', q', u', v') = covered_parts s a k in
    four _ _ _ _ (le-leb r.first.row s.last.row (omega (arith, p, q'))) (le-leb s.first.row r.last.row (omega (arith, p', q))) (le-leb r.first.col s.last.col (omega (arith, u, v'))) (le-leb s.first.col r.last.col (omega (arith, u', v)))

-- a greater area covers what a smaller one does
pub wider_covers : (a b : Addr) (s t : Size) → s.rows ≤ t.rows → s.cols ≤ t.cols → covers (area a s) b ≡ true → covers (area a t) b ≡ true
wider_covers a b s t l k e =
    let (p, q, u, v) = covered_parts (area a s) b e in
    four _ _ _ _ (le-leb a.row b.row p) (le-leb b.row (a.row + t.rows - 1) (omega (arith, q, l))) (le-leb a.col b.col u) (le-leb b.col (a.col + t.cols - 1) (omega (arith, v, k)))

-- and meets what a smaller one meets
pub wider_meets : (a : Addr) (s t : Size) (r : Range) → s.rows ≤ t.rows → s.cols ≤ t.cols → meets (area a s) r ≡ true → meets (area a t) r ≡ true
wider_meets a s t r l k e =
    let (h, g) = both (nat_le a.row r.last.row && nat_le r.first.row (a.row + s.rows - 1)) (nat_le a.col r.last.col && nat_le r.first.col (a.col + s.cols - 1)) e in
    let (p, q) = both (nat_le a.row r.last.row) (nat_le r.first.row (a.row + s.rows - 1)) h in
    let (u, v) = both (nat_le a.col r.last.col) (nat_le r.first.col (a.col + s.cols - 1)) g in
    let q' : r.first.row ≤ a.row + s.rows - 1 = leb-true r.first.row (a.row + s.rows - 1) q in
    let v' : r.first.col ≤ a.col + s.cols - 1 = leb-true r.first.col (a.col + s.cols - 1) v in
    four _ _ _ _ p (le-leb r.first.row (a.row + t.rows - 1) (omega (arith, q', l))) u (le-leb r.first.col (a.col + t.cols - 1) (omega (arith, v', k)))

-- ---- facts

pub spill_parts : (a : Addr) (x : Entry) → spills_over a x ≡ true → (x.permit ≡ Permitted) × (covers (area_of x) a ≡ true)
spill_parts a x e =
    let (h, k) = both (is_permitted x.permit && lies_in (area_of x) grid) (covers (area_of x) a) e in
    (permit_is x.permit (both (is_permitted x.permit) (lies_in (area_of x) grid) h).0, k)
  where
    permit_is : (p : Permit) → is_permitted p ≡ true → p ≡ Permitted
    permit_is Permitted e = refl
    permit_is Refused e = absurd (cc e)

pub filtered : {X : Type 0} (test : X → Bool) (xs : List X) (x : X) → Member x xs → test x ≡ true → Member x (filter test xs)
filtered test [] x m e = absurd m
filtered test (y ∷ ys) x m e =
    (elim (test y) as (λ b. test y ≡ b → Member x (cond b (y ∷ filter test ys) (filter test ys))) [
      | true ↦ λ u. keep m (λ i. filtered test ys x i e)
      | false ↦ λ u. skip u m (λ i. filtered test ys x i e)
    ]) refl
  where
    keep : (x ≡ y) ⊎ Member x ys → (Member x ys → Member x (filter test ys)) → (x ≡ y) ⊎ Member x (filter test ys)
    keep (inl d) h = inl d
    keep (inr i) h = inr (h i)

    skip : test y ≡ false → (x ≡ y) ⊎ Member x ys → (Member x ys → Member x (filter test ys)) → Member x (filter test ys)
    skip u (inl d) h = absurd (clash (subst (λ t. test t ≡ true) d e) u)
    skip u (inr i) h = h i

module _ (S : Cells) where
  pub shaped_formula : (a : Addr) (z : Size) → cell_shape S a ≡ Some z → (f : Formula) × (content S a ≡ Some (Form f))
  shaped_formula a z e =
      (elim (content S a) as (λ c. content S a ≡ c → (f : Formula) × (content S a ≡ Some (Form f))) [
        | None ↦ λ u. let h : None ≡ Some z = rw u at e in absurd (cc h)
        | Some (Const x) ↦ λ u. let h : None ≡ Some z = rw u at e in absurd (cc h)
        | Some (Form f) ↦ λ u. (f, u)
      ]) refl

  pub boxed_covering : (w : Oracle) → IsFit S w → (a : Addr) (x : Entry) → Member x w → covers (area_of x) a ≡ true → Member x.root (covering S a)
  boxed_covering w fit a x m c =
      let (z, e, l, k) = fit.boxed x m in
      let (f, d) = shaped_formula x.root z e in
      let t : covers (area x.root z) a ≡ true = wider_covers x.root a x.size z l k c in
      filtered (has_box S (λ b. covers b a)) (formula_addresses S) x.root (formula_listed S x.root f d) (rw (e, t) refl)

  -- an entry that spills over an address is the one that covers it
  cover_by : (w : Oracle) → IsFit S w → (a : Addr) (x : Entry) → Member x w → spills_over a x ≡ true → cover w a ≡ Some (cover_of a x)
  cover_by w fit a x m s =
      let (c, e) = cover_some w a x m s in
      let (y, n, t, q) = cover_entry w a c e in
      let (p, h) = spill_parts a x s in
      let (p', h') = spill_parts a y t in
      let r : x.root ≡ y.root = fit.permits.apart x y m n p p' (meets_at (area_of x) (area_of y) a h h') in
      let u : Some x ≡ Some y = sym (member_entry w fit.in_order x m) ∙ ap (entry_at w) r ∙ member_entry w fit.in_order y n in
      let v : x ≡ y = cc u in
      e ∙ ap Some (q ∙ ap (cover_of a) (sym v))

  pub unheld : (w : Oracle) → IsFit S w → (a : Addr) → ((f : Formula) → content S a ≡ Some (Form f) → ⊥) → entry_at w a ≡ None
  unheld w fit a n =
      (elim (entry_at w a) as (λ o. entry_at w a ≡ o → o ≡ None) [
        | None ↦ λ u. refl
        | Some x ↦ λ u.
            let (m, r) = entry_member w a x u in
            let (z, e, l, k) = fit.boxed x m in
            let (f, d) = shaped_formula x.root z e in
            absurd (n f (subst (λ t. content S t ≡ Some (Form f)) r d))
      ]) refl

  pub unboxed : (w : Oracle) → IsFit S w → (a : Addr) → cell_shape S a ≡ None → entry_at w a ≡ None
  unboxed w fit a n =
      (elim (entry_at w a) as (λ o. entry_at w a ≡ o → o ≡ None) [
        | None ↦ λ u. refl
        | Some x ↦ λ u.
            let (m, r) = entry_member w a x u in
            let (z, e, l, k) = fit.boxed x m in
            let d : None ≡ Some z = sym n ∙ ap (cell_shape S) (sym r) ∙ e in
            absurd (cc d)
      ]) refl

  module _ (w w' : Oracle) (fit : IsFit S w) (fit' : IsFit S w') where
    blank_carries : (a : Addr) (c : Cover) → ((r : Addr) → Member r (covering S a) → entry_at w r ≡ entry_at w' r) → cover w a ≡ Some c → cover w' a ≡ Some c
    blank_carries a c h e =
        let (x, m, s, q) = cover_entry w a c e in
        let (p, t) = spill_parts a x s in
        let u : entry_at w' x.root ≡ Some x = sym (h x.root (boxed_covering w fit a x m t)) ∙ member_entry w fit.in_order x m in
        cover_by w' fit' a x (entry_member w' x.root x u).0 s ∙ ap Some (sym q)

    held_carries : (a : Addr) (c : Cover) → has_content S a ≡ true → entry_at w a ≡ entry_at w' a → cover w a ≡ Some c → cover w' a ≡ Some c
    held_carries a c b h e =
        let (x, m, s, q) = cover_entry w a c e in
        let (p, t) = spill_parts a x s in
        let r : a ≡ x.root = fit.permits.alone x a m p t b in
        let v : entry_at w a ≡ Some x = ap (entry_at w) r ∙ member_entry w fit.in_order x m in
        cover_by w' fit' a x (entry_member w' a x (sym h ∙ v)).0 s ∙ ap Some (sym q)

  same_option : {X : Type 0} (o p : Option X) → ((x : X) → o ≡ Some x → p ≡ Some x) → ((x : X) → p ≡ Some x → o ≡ Some x) → o ≡ p
  same_option None None h k = refl
  same_option (Some x) p h k = sym (h x refl)
  same_option None (Some x) h k = k x refl

  module _ (w w' : Oracle) (fit : IsFit S w) (fit' : IsFit S w') where
    facts_of : (a : Addr) → entry_at w a ≡ entry_at w' a → cover w a ≡ cover w' a → fact S w a ≡ fact S w' a
    facts_of a e c = ap (λ u. record { address = a; content = content S a; status = option_map (λ (x : Entry). x.permit) u; cover = cover w a }) e ∙ ap (λ u. record { address = a; content = content S a; status = status w' a; cover = u }) c

    -- the facts at a formula cell whose entries are the same
    pub formula_fact : (a : Addr) (f : Formula) → content S a ≡ Some (Form f) → entry_at w a ≡ entry_at w' a → fact S w a ≡ fact S w' a
    formula_fact a f d e =
        let b : has_content S a ≡ true = rw d refl in
        facts_of a e (same_option (cover w a) (cover w' a) (λ c. held_carries w w' fit fit' a c b e) (λ c. held_carries w' w fit' fit a c b (sym e)))

    -- at a constant
    pub constant_fact : (a : Addr) (x : _) → content S a ≡ Some (Const x) → fact S w a ≡ fact S w' a
    constant_fact a x d =
        let b : has_content S a ≡ true = rw d refl in
        let none = λ (f : Formula) (u : content S a ≡ Some (Form f)). let g : Some (Const x) ≡ Some (Form f) = sym d ∙ u in absurd (cc g) in
        let e : entry_at w a ≡ entry_at w' a = unheld w fit a none ∙ sym (unheld w' fit' a none) in
        facts_of a e (same_option (cover w a) (cover w' a) (λ c. held_carries w w' fit fit' a c b e) (λ c. held_carries w' w fit' fit a c b (sym e)))

    -- at an address without content, where the entries of what may spill over it are the same
    pub blank_fact : (a : Addr) → content S a ≡ None → ((r : Addr) → Member r (covering S a) → entry_at w r ≡ entry_at w' r) → fact S w a ≡ fact S w' a
    blank_fact a d h =
        let none = λ (f : Formula) (u : content S a ≡ Some (Form f)). let g : None ≡ Some (Form f) = sym d ∙ u in absurd (cc g) in
        facts_of a (unheld w fit a none ∙ sym (unheld w' fit' a none))
        (same_option (cover w a) (cover w' a) (λ c. blank_carries w w' fit fit' a c h) (λ c. blank_carries w' w fit' fit a c (λ r m. sym (h r m))))
