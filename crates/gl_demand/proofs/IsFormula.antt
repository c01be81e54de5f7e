-- A cell key is proper exactly where its address holds a formula.
use Rattle.std.proofs.Common.{◌≡◌, false, Option, Some, None, IsTrue, IsFalse, refl, subst}
use Rattle.gl_calculus.specs.Formulas.Formula.{Formula}
use Rattle.gl_calculus.specs.Evaluation.Reference.{Held, Given, Computed}
use Rattle.gl_calculus.specs.Evaluation.Reference.{is_computed}

pub is_formula : (h : Option Held) → IsTrue (is_computed h) → (f : Formula) × (h ≡ Some (Computed f))
is_formula None e = absurd (cc e)
is_formula (Some (Given v)) e = absurd (cc e)
is_formula (Some (Computed f)) e = (f, refl)

pub no_formula : (h : Option Held) → IsFalse (is_computed h) → (f : Formula) → h ≡ Some (Computed f) → ⊥
no_formula h n f e =
    let t : is_computed (Some (Computed f)) ≡ false = subst (λ x. is_computed x ≡ false) e n in
    absurd (cc t)
