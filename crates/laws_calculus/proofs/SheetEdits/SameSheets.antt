-- Sheets that hold the same at each address are equal.
use Rattle.std.proofs.Common.{◌≡◌, ◌∙◌, ◌⊎◌, inl, inr, Bool, true, false, cond, List, [], ◌∷◌, map, Some, None, refl, sym, ap, arith, IsTrue}
use Rattle.std.proofs.lemmas.Grind.{common_steps}
use Rattle.gl_calculus.specs.Grid.Grid.{Addr, same_addr, is_before, AreInOrder}
use Rattle.gl_calculus.specs.Formulas.Formula.{Content, Cells, IsSheet, content}
use Rattle.gl_calculus.proofs.Tests.{addr_exact, addr_same}

abbrev AllSame : Cells → Cells → Type 0
AllSame S T = (a : Addr) → content S a ≡ content T a

pub places : Cells → List Addr
places S = map (λ (x : Addr × Content). x.0) S

some_or_none : (c : Content) → Some c ≡ None → ⊥
some_or_none c h = cc h

some_same : (c d : Content) → Some c ≡ Some d → c ≡ d
some_same c d h = cc h

pub before_all : (a b c : Addr) → IsTrue (is_before a b) → IsTrue (is_before b c) → IsTrue (is_before a c)
before_all a b c h k = grind (arith, common_steps)

before_apart : (a b : Addr) → IsTrue (is_before a b) → same_addr a b ≡ false
before_apart a b h = grind (arith, common_steps)

tail_order : (x : Addr × Content) (S : Cells) → IsSheet (x ∷ S) → IsSheet S
tail_order x [] o = tt
tail_order x (y ∷ S) o = o.1

-- before the first there is nothing
pub nothing_before : (a : Addr) (S : Cells) → AreInOrder (a ∷ map (λ (x : Addr × Content). x.0) S) → content S a ≡ None
nothing_before a [] o = refl
nothing_before a (x ∷ S) o =
    ap (λ (t : Bool). cond t (Some x.1) (content S a)) (before_apart a x.0 o.0) ∙ nothing_before a S (skip S o)
  where
    skip : (S : Cells) → AreInOrder (a ∷ x.0 ∷ map (λ (y : Addr × Content). y.0) S) → AreInOrder (a ∷ map (λ (y : Addr × Content). y.0) S)
    skip [] o = tt
    skip (y ∷ S) o = (before_all a x.0 y.0 o.0 o.1.0, o.1.1)

here : (x : Addr × Content) (S : Cells) → content (x ∷ S) x.0 ≡ Some x.1
here x S = ap (λ (t : Bool). cond t (Some x.1) (content S x.0)) (addr_same x.0)

trichotomy : (a b : Addr) → (a ≡ b) ⊎ (IsTrue (is_before a b) ⊎ IsTrue (is_before b a))
trichotomy a b = by (same_addr a b) (is_before a b) refl refl
  where
    by : (p q : Bool) → same_addr a b ≡ p → is_before a b ≡ q → (a ≡ b) ⊎ (IsTrue (is_before a b) ⊎ IsTrue (is_before b a))
    by true q h k = inl (addr_exact a b h)
    by false true h k = inr (inl k)
    by false false h k = inr (inr (grind (arith, common_steps)))

pub same_sheets : (S T : Cells) → IsSheet S → IsSheet T → AllSame S T → S ≡ T
same_sheets [] [] o p h = refl
same_sheets [] (y ∷ T) o p h = absurd (some_or_none y.1 (sym (here y T) ∙ sym (h y.0)))
same_sheets (x ∷ S) [] o p h = absurd (some_or_none x.1 (sym (here x S) ∙ h x.0))
same_sheets (x ∷ S) (y ∷ T) o p h =
    let e : x ≡ y = first (trichotomy x.0 y.0) in
    ap (λ (z : Addr × Content). z ∷ S) e ∙ ap (λ (Z : Cells). y ∷ Z) (same_sheets S T (tail_order x S o) (tail_order y T p) (rest e))
  where
    first : (x.0 ≡ y.0) ⊎ (IsTrue (is_before x.0 y.0) ⊎ IsTrue (is_before y.0 x.0)) → x ≡ y
    first (inl e) =
        let c : x.1 ≡ y.1 = some_same x.1 y.1 (sym (here x S) ∙ h x.0 ∙ ap (content (y ∷ T)) e ∙ here y T) in
        λ i. (e i, c i)
    first (inr (inl b)) = absurd (some_or_none x.1 (sym (here x S) ∙ h x.0 ∙ nothing_before x.0 (y ∷ T) (b, p)))
    first (inr (inr b)) = absurd (some_or_none y.1 (sym (here y T) ∙ sym (h y.0) ∙ nothing_before y.0 (x ∷ S) (b, o)))

    rest : x ≡ y → AllSame S T
    rest e a = by (same_addr a x.0) refl
      where
        by : (t : Bool) → same_addr a x.0 ≡ t → content S a ≡ content T a
        by true f =
            let g : a ≡ x.0 = addr_exact a x.0 f in
            ap (content S) g ∙ nothing_before x.0 S o ∙ sym (ap (content T) (g ∙ ap (λ (z : Addr × Content). z.0) e) ∙ nothing_before y.0 T p)
        by false f =
            let f' : same_addr a y.0 ≡ false = ap (λ (z : Addr × Content). same_addr a z.0) (sym e) ∙ f in
            sym (ap (λ (t : Bool). cond t (Some x.1) (content S a)) f) ∙ h a ∙ ap (λ (t : Bool). cond t (Some y.1) (content T a)) f'
