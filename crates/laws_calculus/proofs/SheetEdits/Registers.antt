-- What registers hold after an edit that wins.
use Rattle.std.proofs.Common.{◌≡◌, ◌∙◌, Bool, true, false, cond, List, [], ◌∷◌, map, Option, Some, None, refl, sym, ap, subst, arith}
use Rattle.std.proofs.lemmas.Grind.{common_steps}
use Rattle.gl_calculus.specs.Grid.Grid.{Addr, same_addr, is_before, AreInOrder}
use Rattle.gl_calculus.specs.Formulas.Formula.{Content, Cells, IsSheet, content}
use Rattle.gl_calculus.proofs.Tests.{addr_exact}
use Rattle.gl_calculus.specs.Edits.Replicas.{Edit, IsJudged, Wins, is_earlier, register_at, with_edit, contents_of}
use Rattle.laws_calculus.proofs.Edits.Orders as R
use Rattle.laws_calculus.proofs.Edits.Taking.{order_with_edit}
use Rattle.gl_calculus.specs.Edits.Sheets.{with_change}
use Rattle.laws_calculus.proofs.SheetEdits.SheetChanges.{found_change, order_change}
use Rattle.laws_calculus.proofs.SheetEdits.SameSheets.{same_sheets, nothing_before, before_all}

places : List Edit → List Addr
places rs = map (λ (r : Edit). r.place) rs

spots : Cells → List Addr
spots S = map (λ (x : Addr × Content). x.0) S

-- the contents are in the order of the registers
in_order_from : (a : Addr) (rs : List Edit) → AreInOrder (a ∷ map (λ (r : Edit). r.place) rs) → AreInOrder (a ∷ map (λ (x : Addr × Content). x.0) (contents_of rs))
in_order_from a [] o = tt
in_order_from a (r ∷ rs) o = by r.content (in_order_from r.place rs o.1) (in_order_from a rs (skip rs o))
  where
    skip : (rs : List Edit) → AreInOrder (a ∷ r.place ∷ map (λ (q : Edit). q.place) rs) → AreInOrder (a ∷ map (λ (q : Edit). q.place) rs)
    skip [] o = tt
    skip (q ∷ rs) o = (before_all a r.place q.place o.0 o.1.0, o.1.1)

    rest : Option Content → Cells
    rest (Some c) = (r.place, c) ∷ contents_of rs
    rest None = contents_of rs

    by : (c : Option Content) → AreInOrder (r.place ∷ map (λ (x : Addr × Content). x.0) (contents_of rs)) → AreInOrder (a ∷ map (λ (x : Addr × Content). x.0) (contents_of rs)) → AreInOrder (a ∷ map (λ (x : Addr × Content). x.0) (contents_of (record r { content = c } ∷ rs)))
    by (Some c) h k = (o.0, h)
    by None h k = k

pub holds_sheet : (rs : List Edit) → AreInOrder (map (λ (r : Edit). r.place) rs) → IsSheet (contents_of rs)
holds_sheet [] o = tt
holds_sheet (r ∷ rs) o = by r.content (in_order_from r.place rs o) (holds_sheet rs (R.tail r.place (map (λ (q : Edit). q.place) rs) o))
  where
    by : (c : Option Content) → AreInOrder (r.place ∷ map (λ (x : Addr × Content). x.0) (contents_of rs)) → IsSheet (contents_of rs) → IsSheet (contents_of (record r { content = c } ∷ rs))
    by (Some c) h k = h
    by None h k = k

held : Option Edit → Option Content
held (Some r) = r.content
held None = None

-- an address holds what its register does
found_register : (rs : List Edit) (b : Addr) → AreInOrder (map (λ (r : Edit). r.place) rs) → content (contents_of rs) b ≡ held (register_at rs b)
unfolding held
found_register [] b o = refl
found_register (r ∷ rs) b o = by r.content (same_addr b r.place) refl (found_register rs b (R.tail r.place (map (λ (q : Edit). q.place) rs) o))
  where
    by : (c : Option Content) (t : Bool) → same_addr b r.place ≡ t → content (contents_of rs) b ≡ held (register_at rs b)
        → content (contents_of (record r { content = c } ∷ rs)) b ≡ held (cond t (Some (record r { content = c })) (register_at rs b))
    by (Some c) true e ih = ap (λ (t : Bool). cond t (Some c) (content (contents_of rs) b)) e
    by (Some c) false e ih = ap (λ (t : Bool). cond t (Some c) (content (contents_of rs) b)) e ∙ ih
    by None true e ih = nothing_before b (contents_of rs) (subst (λ (a : Addr). AreInOrder (a ∷ map (λ (x : Addr × Content). x.0) (contents_of rs))) (sym (addr_exact b r.place e)) (in_order_from r.place rs o))
    by None false e ih = ih

-- the register of an address after an edit that wins
pub register_with : (rs : List Edit) (e : Edit) (b : Addr) → IsJudged (register_at rs e.place) e Wins → register_at (with_edit rs e) b ≡ cond (same_addr b e.place) (Some e) (register_at rs b)
register_with [] e b w = refl
register_with (r ∷ rs) e b w = by (same_addr e.place r.place) (is_before e.place r.place) refl w (register_with rs e b)
  where
    hidden : e.place ≡ r.place → cond (same_addr b e.place) (Some e) (register_at rs b) ≡ cond (same_addr b e.place) (Some e) (cond (same_addr b r.place) (Some r) (register_at rs b))
    hidden h = again (same_addr b e.place) refl
      where
        again : (t : Bool) → same_addr b e.place ≡ t → cond t (Some e) (register_at rs b) ≡ cond t (Some e) (cond (same_addr b r.place) (Some r) (register_at rs b))
        again true k = refl
        again false k = sym (ap (λ (t : Bool). cond t (Some r) (register_at rs b)) (ap (same_addr b) (sym h) ∙ k))

    apart : same_addr e.place r.place ≡ false → same_addr b r.place ≡ true → same_addr b e.place ≡ false
    apart h k = let same : b ≡ r.place = addr_exact b r.place k in subst (λ (z : Addr). same_addr z e.place ≡ false) (sym same) (grind (arith, common_steps, h))

    by : (p q : Bool) → same_addr e.place r.place ≡ p → IsJudged (cond p (Some r) (register_at rs e.place)) e Wins → (IsJudged (register_at rs e.place) e Wins → register_at (with_edit rs e) b ≡ cond (same_addr b e.place) (Some e) (register_at rs b))
        → register_at (cond p ((cond (is_earlier r.stamp e.stamp) e r) ∷ rs) (cond q (e ∷ r ∷ rs) (r ∷ with_edit rs e))) b ≡ cond (same_addr b e.place) (Some e) (register_at (r ∷ rs) b)
    by true q h k ih = rw k (hidden (addr_exact e.place r.place h))
    by false true h k ih = refl
    by false false h k ih = again (same_addr b r.place) refl
      where
        again : (t : Bool) → same_addr b r.place ≡ t → cond t (Some r) (register_at (with_edit rs e) b) ≡ cond (same_addr b e.place) (Some e) (cond t (Some r) (register_at rs b))
        again true f = sym (ap (λ (t : Bool). cond t (Some e) (Some r)) (apart h f))
        again false f = ih k

-- An edit that wins changes what the registers hold as it says.
pub holds_with_edit : (rs : List Edit) (e : Edit) → AreInOrder (map (λ (r : Edit). r.place) rs) → IsJudged (register_at rs e.place) e Wins → contents_of (with_edit rs e) ≡ with_change (contents_of rs) e.place e.content
unfolding held
holds_with_edit rs e o w =
    let q : AreInOrder (map (λ (r : Edit). r.place) (with_edit rs e)) = order_with_edit rs e o (Wins, w, λ h. cc h) in
    same_sheets (contents_of (with_edit rs e)) (with_change (contents_of rs) e.place e.content) (holds_sheet (with_edit rs e) q) (order_change (contents_of rs) e.place e.content (holds_sheet rs o))
    (λ b. found_register (with_edit rs e) b q ∙ ap held (register_with rs e b w) ∙ split (same_addr b e.place) (register_at rs b) ∙ ap (λ (c : Option Content). cond (same_addr b e.place) e.content c) (sym (found_register rs b o)) ∙ sym (found_change (contents_of rs) e.place b e.content))
  where
    split : (t : Bool) (x : Option Edit) → held (cond t (Some e) x) ≡ cond t e.content (held x)
    split true x = refl
    split false x = refl
