-- Edits keep a sheet within the limits.
use Rattle.std.specs.Prelude.{codes}
use Rattle.gl_language.specs.Texts.Text.{Bytes}
use Rattle.std.proofs.Common.{◌≡◌, ◌≤◌, nat_lt, Bool, true, false, cond, [], ◌∷◌, length, filter, refl, subst, arith}
use Rattle.std.proofs.lemmas.Bool.Decides.{nat_tests}
use Rattle.gl_calculus.specs.Grid.Limits.{max_formulas, max_contents}
use Rattle.gl_calculus.specs.Grid.Grid.{Addr}
use Rattle.gl_calculus.specs.Formulas.Formula.{Content, Const, Form, Cells, formula_addresses}
use Rattle.gl_protocol.specs.Scripts.Commands.{Is, Not, allowed}
use Rattle.laws_protocol.specs.Replies.{IsWithinLimits}

is_cells : (S T : Cells) → Is S ≡ Is T → S ≡ T
is_cells S T h = cc h

no_cells : (w : Bytes) (T : Cells) → Not w ≡ Is T → ⊥
no_cells w T h = cc h

-- a sheet that is allowed is within the limits, and is what was asked for
pub allowed_is : (S T : Cells) → allowed S ≡ Is T → (S ≡ T) × IsWithinLimits T
allowed_is S T h = by (nat_lt max_formulas (length (formula_addresses S))) (nat_lt max_contents (length S)) refl refl h
  where
    by : (p q : Bool) → nat_lt max_formulas (length (formula_addresses S)) ≡ p → nat_lt max_contents (length S) ≡ q → cond p (Not (codes "formulas")) (cond q (Not (codes "contents")) (Is S)) ≡ Is T → (S ≡ T) × IsWithinLimits T
    by true q e f k = absurd (no_cells (codes "formulas") T k)
    by false true e f k = absurd (no_cells (codes "contents") T k)
    by false false e f k =
        let few : length (formula_addresses S) ≤ max_formulas = grind (arith, nat_tests, e) in
        let small : length S ≤ max_contents = grind (arith, nat_tests, f) in
        (is_cells S T k, subst IsWithinLimits (is_cells S T k) (few, small))

-- no more formulas than with one content more
more_formulas : (x : Addr × Content) (S : Cells) → length (formula_addresses S) ≤ length (formula_addresses (x ∷ S))
more_formulas (a, Const y) S = omega arith
more_formulas (a, Form f) S = omega arith

beside : (x : Addr × Content) (S T : Cells) → length (formula_addresses T) ≤ length (formula_addresses S) → length (formula_addresses (x ∷ T)) ≤ length (formula_addresses (x ∷ S))
beside (a, Const y) S T h = h
beside (a, Form f) S T h = omega (arith, h)

fewer : (p : Addr × Content → Bool) (S : Cells) → (length (formula_addresses (filter p S)) ≤ length (formula_addresses S)) × (length (filter p S) ≤ length S)
fewer p [] = (omega arith, omega arith)
fewer p (x ∷ S) = by (p x) (fewer p S)
  where
    by : (t : Bool) → (length (formula_addresses (filter p S)) ≤ length (formula_addresses S)) × (length (filter p S) ≤ length S)
        → (length (formula_addresses (cond t (x ∷ filter p S) (filter p S))) ≤ length (formula_addresses (x ∷ S))) × (length (cond t (x ∷ filter p S) (filter p S)) ≤ length (x ∷ S))
    by true ih = (beside x S (filter p S) ih.0, omega (arith, ih.1))
    by false ih = (omega (arith, ih.0, more_formulas x S), omega (arith, ih.1))

pub limits_filter : (p : Addr × Content → Bool) (S : Cells) → IsWithinLimits S → IsWithinLimits (filter p S)
limits_filter p S h = let f = fewer p S in (omega (arith, f.0, h.0), omega (arith, f.1, h.1))
