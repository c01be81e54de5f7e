-- How many contents and formulas a sheet has, with contents that are put.
use Rattle.std.proofs.Common.{◌≡◌, ◌∙◌, ◌≤◌, suc, Bool, true, false, cond, [], ◌∷◌, map, length, Some, None, refl, sym, ap, arith}
use Rattle.std.specs.List.{AllByRecursion}
use Rattle.gl_calculus.specs.Grid.Grid.{Addr, same_addr, is_before}
use Rattle.gl_calculus.specs.Values.Value.{Scalar}
use Rattle.gl_calculus.specs.Formulas.Formula.{Content, Const, Form, Cells, IsSheet, content, formula_addresses}
use Rattle.laws_calculus.proofs.Edits.Orders.{tail}
use Rattle.gl_calculus.specs.Edits.Sheets.{with_content, with_contents}
use Rattle.laws_calculus.proofs.SheetEdits.SameSheets.{nothing_before}
use Rattle.laws_calculus.proofs.SheetEdits.SheetChanges.{found_change}
use Rattle.laws_calculus.proofs.SheetEdits.SheetOrders.{order_with}

-- a content at an address that has one adds none
length_over : (S : Cells) (a : Addr) (c : Content) → IsSheet S → (content S a ≡ None → ⊥) → length (with_content S a c) ≡ length S
length_over [] a c o n = absurd (n refl)
length_over (x ∷ S) a c o n = by (same_addr a x.0) (is_before a x.0) refl refl (length_over S a c (tail x.0 (map (λ (y : Addr × Content). y.0) S) o))
  where
    by : (p q : Bool) → same_addr a x.0 ≡ p → is_before a x.0 ≡ q → ((content S a ≡ None → ⊥) → length (with_content S a c) ≡ length S) → length (cond p ((a, c) ∷ S) (cond q ((a, c) ∷ x ∷ S) (x ∷ with_content S a c))) ≡ suc (length S)
    by true q e f ih = refl
    by false true e f ih = absurd (n (nothing_before a (x ∷ S) (f, o)))
    by false false e f ih = ap suc (ih (λ k. n (ap (λ (t : Bool). cond t (Some x.1) (content S a)) e ∙ k)))

-- each of them stands at an address that has a content
abbrev pub AreOver : Cells → Cells → Type 0
AreOver S cs = AllByRecursion (λ (c : Addr × Content). content S c.0 ≡ None → ⊥) cs

still_over : (S : Cells) (a : Addr) (c : Content) (cs : Cells) → AreOver S cs → AreOver (with_content S a c) cs
still_over S a c [] h = tt
still_over S a c (x ∷ cs) h = (by (same_addr x.0 a) refl, still_over S a c cs h.1)
  where
    by : (t : Bool) → same_addr x.0 a ≡ t → content (with_content S a c) x.0 ≡ None → ⊥
    by true e k = let some : Some c ≡ None = sym (found_change S a x.0 (Some c) ∙ ap (λ (t : Bool). cond t (Some c) (content S x.0)) e) ∙ k in cc some
    by false e k = h.0 (sym (found_change S a x.0 (Some c) ∙ ap (λ (t : Bool). cond t (Some c) (content S x.0)) e) ∙ k)

pub length_all_over : (cs S : Cells) → IsSheet S → AreOver S cs → length (with_contents S cs) ≡ length S
length_all_over [] S o h = refl
length_all_over (c ∷ cs) S o h = length_all_over cs (with_content S c.0 c.1) (order_with S c.0 c.1 o) (still_over S c.0 c.1 cs h.1) ∙ length_over S c.0 c.1 o h.0

-- ---- constants add no formula

abbrev pub IsConst : Addr × Content → Type 0
IsConst (a, Const x) = Unit {0}
IsConst (a, Form f) = ⊥

beside : (x : Addr × Content) (S T : Cells) → length (formula_addresses T) ≤ length (formula_addresses S) → length (formula_addresses (x ∷ T)) ≤ length (formula_addresses (x ∷ S))
beside (a, Const y) S T h = h
beside (a, Form f) S T h = omega (arith, h)

more : (x : Addr × Content) (S : Cells) → length (formula_addresses S) ≤ length (formula_addresses (x ∷ S))
more (a, Const y) S = omega arith
more (a, Form f) S = omega arith

formulas_const : (S : Cells) (a : Addr) (y : Scalar) → length (formula_addresses (with_content S a (Const y))) ≤ length (formula_addresses S)
formulas_const [] a y = omega arith
formulas_const (x ∷ S) a y = by (same_addr a x.0) (is_before a x.0) (formulas_const S a y)
  where
    by : (p q : Bool) → length (formula_addresses (with_content S a (Const y))) ≤ length (formula_addresses S)
        → length (formula_addresses (cond p ((a, Const y) ∷ S) (cond q ((a, Const y) ∷ x ∷ S) (x ∷ with_content S a (Const y))))) ≤ length (formula_addresses (x ∷ S))
    by true q ih = more x S
    by false true ih = omega arith
    by false false ih = beside x S (with_content S a (Const y)) ih

pub formulas_consts : (cs S : Cells) → AllByRecursion IsConst cs → length (formula_addresses (with_contents S cs)) ≤ length (formula_addresses S)
formulas_consts [] S h = omega arith
formulas_consts ((a, Const y) ∷ cs) S h = let i = formulas_consts cs (with_content S a (Const y)) h.1 in omega (arith, i, formulas_const S a y)
formulas_consts ((a, Form f) ∷ cs) S h = absurd h.0
