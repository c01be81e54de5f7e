use Rattle.std.proofs.Common.{◌≡◌, true, [], ◌∷◌, ◌++◌, ap, sym, ◌∙◌}
use Rattle.std.proofs.lemmas.Result.{IfOk-weaker}
use Rattle.gl_calculus.specs.Evaluation.SameOutcome.{same_outcome}
use Rattle.laws_calculus.proofs.Calculus.OutcomeTests.{outcome_equality}
use Rattle.gl_calculus.specs.Explanation.Walk.{comes_to}
use Rattle.gl_demand.specs.Equal.{eq_is_outcome}
use Rattle.gl_demand.specs.View.{key_tree, outcome_tree, found_tree}
use Rattle.gl_cert.specs.Notes.{claims}
use Rattle.gl_cert.proofs.straying.note_found.Goals as goal

pub returns-then-eq-clause-comes : goal.returns-then-eq-clause-comes
returns-then-eq-clause-comes c =
    let x = c.args.outcome.now in
    let y = c.in-Ready.o in
    let old = claims c.args.notes.now in
    IfOk-weaker c.note_right.result
    (λ b. (b ≡ true) × (claims c.note_right.new.notes ≡ old ++ (key_tree c.args.key.now, outcome_tree y) ∷ []))
    (λ b. b ≡ comes_to same_outcome (outcome_tree x) (found_tree c.args.found))
    (λ b h. h.0 ∙ sym c.if-eq.true ∙ c.eq.ensures ∙ eq_is_outcome x y ∙ ap (λ f. comes_to same_outcome (outcome_tree x) (found_tree f)) (sym c.in-Ready.is))
    c.note_right.ensures

pub returns-then-eq-clause-noted : goal.returns-then-eq-clause-noted
returns-then-eq-clause-noted c =
    let x = c.args.outcome.now in
    let y = c.in-Ready.o in
    let k = key_tree c.args.key.now in
    let old = claims c.args.notes.now in
    let e : outcome_tree x ≡ outcome_tree y = outcome_equality.0 (outcome_tree x) (outcome_tree y) (sym (c.eq.ensures ∙ eq_is_outcome x y) ∙ c.if-eq.true) in
    IfOk-weaker c.note_right.result
    (λ b. (b ≡ true) × (claims c.note_right.new.notes ≡ old ++ (k, outcome_tree y) ∷ []))
    (λ b. b ≡ true → claims c.note_right.new.notes ≡ old ++ (k, outcome_tree x) ∷ [])
    (λ b h t. h.1 ∙ ap (λ o. old ++ (k, o) ∷ []) (sym e))
    c.note_right.ensures

pub returns-in-Ready-clause-comes : goal.returns-in-Ready-clause-comes
returns-in-Ready-clause-comes c =
    let x = c.args.outcome.now in
    sym c.if-eq.false ∙ c.eq.ensures ∙ eq_is_outcome x c.in-Ready.o ∙ ap (λ f. comes_to same_outcome (outcome_tree x) (found_tree f)) (sym c.in-Ready.is)
