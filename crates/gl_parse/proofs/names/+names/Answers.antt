use Rattle.std.proofs.Common.{◌∷◌, ◌||◌, not, bytes_eq, ap, sym, refl, ◌∙◌, arith}
use Rattle.std.proofs.lemmas.Grind.{common_steps}
use Rattle.std.specs.List.{list_any}
use Rattle.gl_language.specs.Reading.Grammar.{has_bad_name, bad_name_in, bad_name_in_operands}
use Rattle.gl_language.specs.Reading.Grammar as G
use Rattle.gl_parse.specs.Raws.{raw_tree, plains, pairs, links, raws_of, letters}
use Rattle.gl_parse.specs.Faults.{scope}
use Rattle.gl_parse.proofs.Walks.{or_then, or_else}
use Rattle.gl_parse.proofs.Naming.{name_var, name_neg, name_chain, name_compare, name_let, name_apply, answer_is}
use Rattle.gl_parse.proofs.Others.{no_name}
use Rattle.gl_parse.proofs.names.+names.Goals as goal

pub bad_name-returns-then-bad-clause-value : goal.bad_name-returns-then-bad-clause-value
bad_name-returns-then-bad-clause-value t c =
    sym c.if-bad.true
    ∙ or_then _ _ _ _ (c.in_ok-bad-in-Chain.ensures.value ∙ ap (λ z. has_bad_name (scope c.args.text.now c.args.scope.now.items) (raw_tree c.args.text.now z)) c.deref-in-Chain.ensures) c.if-bad.true
    (name_chain c.args.text.now (scope c.args.text.now c.args.scope.now.items) c.args.raw.now _ c.in-Chain.f c.in-Chain.rest c.in-Chain.is)

pub bad_name-returns-then-bad-2-clause-value : goal.bad_name-returns-then-bad-2-clause-value
bad_name-returns-then-bad-2-clause-value t c =
    sym c.if-bad-2.true
    ∙ or_then _ _ _ _ (c.in_ok-bad-in-Compare.ensures.value ∙ ap (λ z. has_bad_name (scope c.args.text.now c.args.scope.now.items) (raw_tree c.args.text.now z)) c.deref-in-Compare.ensures) c.if-bad-2.true
    (name_compare c.args.text.now (scope c.args.text.now c.args.scope.now.items) c.args.raw.now _ c.in-Compare.f c.in-Compare.g c.in-Compare.is)

pub bad_name-returns-in-Neg-clause-value : goal.bad_name-returns-in-Neg-clause-value
bad_name-returns-in-Neg-clause-value t c =
    answer_is _ _ _ c.bad_name.ensures.value
    (ap (λ z. has_bad_name (scope c.args.text.now c.args.scope.now.items) (raw_tree c.args.text.now z)) c.deref-in-Neg.ensures
    ∙ sym (name_neg c.args.text.now (scope c.args.text.now c.args.scope.now.items) c.args.raw.now c.in-Neg.f c.in-Neg.is))

pub bad_name-returns-else-bad-clause-value : goal.bad_name-returns-else-bad-clause-value
bad_name-returns-else-bad-clause-value t c =
    answer_is _ _ _ c.bad_name_in_operands.ensures.value
    (ap (λ z. bad_name_in_operands (scope c.args.text.now z) (links (pairs c.args.text.now c.deref-in-Chain-2.result.now))) c.in_ok-bad-in-Chain.ensures.same
    ∙ ap (λ z. bad_name_in_operands (scope c.args.text.now c.args.scope.now.items) (links (pairs c.args.text.now z))) c.deref-in-Chain-2.ensures.value
    ∙ or_else _ _ _ _ _ (c.in_ok-bad-in-Chain.ensures.value ∙ ap (λ z. has_bad_name (scope c.args.text.now c.args.scope.now.items) (raw_tree c.args.text.now z)) c.deref-in-Chain.ensures) c.if-bad.false refl
    (name_chain c.args.text.now (scope c.args.text.now c.args.scope.now.items) c.args.raw.now _ c.in-Chain.f c.in-Chain.rest c.in-Chain.is))

pub bad_name-returns-else-bad-2-clause-value : goal.bad_name-returns-else-bad-2-clause-value
bad_name-returns-else-bad-2-clause-value t c =
    answer_is _ _ _ c.bad_name-in-Compare-2.ensures.value
    (ap (λ z. has_bad_name (scope c.args.text.now z) (raw_tree c.args.text.now c.deref-in-Compare-2.result.now)) c.in_ok-bad-in-Compare.ensures.same
    ∙ ap (λ z. has_bad_name (scope c.args.text.now c.args.scope.now.items) (raw_tree c.args.text.now z)) c.deref-in-Compare-2.ensures
    ∙ or_else _ _ _ _ _ (c.in_ok-bad-in-Compare.ensures.value ∙ ap (λ z. has_bad_name (scope c.args.text.now c.args.scope.now.items) (raw_tree c.args.text.now z)) c.deref-in-Compare.ensures) c.if-bad-2.false refl
    (name_compare c.args.text.now (scope c.args.text.now c.args.scope.now.items) c.args.raw.now _ c.in-Compare.f c.in-Compare.g c.in-Compare.is))

pub bad_name-returns-in-Apply-clause-value : goal.bad_name-returns-in-Apply-clause-value
bad_name-returns-in-Apply-clause-value t c =
    answer_is _ _ _ c.bad_name_in_call.ensures.value
    (ap (λ z. has_bad_name (scope c.args.text.now c.args.scope.now.items) (G.Raw.Apply z (raws_of (plains c.args.text.now c.deref-in-Apply.result.now)))) c.spelling.ensures
    ∙ ap (λ z. has_bad_name (scope c.args.text.now c.args.scope.now.items) (G.Raw.Apply (letters c.args.text.now c.in-Apply.word) (raws_of (plains c.args.text.now z)))) c.deref-in-Apply.ensures.value
    ∙ sym (name_apply c.args.text.now (scope c.args.text.now c.args.scope.now.items) c.args.raw.now c.in-Apply.word c.in-Apply.xs c.in-Apply.is))

pub bad_name-returns-then-bad-3-clause-value : goal.bad_name-returns-then-bad-3-clause-value
bad_name-returns-then-bad-3-clause-value t c =
    sym c.if-bad-3.true
    ∙ or_then _ _ _ _ (c.in_ok-bad-in-Let.ensures.value ∙ ap (λ z. has_bad_name (scope c.args.text.now c.args.scope.now.items) (raw_tree c.args.text.now z)) c.deref-in-Let.ensures) c.if-bad-3.true
    (name_let c.args.text.now (scope c.args.text.now c.args.scope.now.items) c.args.raw.now c.in-Let.name c.in-Let.value c.in-Let.body c.in-Let.is)

pub bad_name-returns-else-bad-3-clause-value : goal.bad_name-returns-else-bad-3-clause-value
bad_name-returns-else-bad-3-clause-value t c =
    answer_is _ _ _ c.bad_name_in_body.ensures.value
    (ap (λ z. has_bad_name (letters c.args.text.now c.in-Let.name ∷ scope c.args.text.now z) (raw_tree c.args.text.now c.deref-in-Let-2.result.now)) c.in_ok-bad-in-Let.ensures.same
    ∙ ap (λ z. has_bad_name (letters c.args.text.now c.in-Let.name ∷ scope c.args.text.now c.args.scope.now.items) (raw_tree c.args.text.now z)) c.deref-in-Let-2.ensures
    ∙ or_else _ _ _ _ _ (c.in_ok-bad-in-Let.ensures.value ∙ ap (λ z. has_bad_name (scope c.args.text.now c.args.scope.now.items) (raw_tree c.args.text.now z)) c.deref-in-Let.ensures) c.if-bad-3.false refl
    (name_let c.args.text.now (scope c.args.text.now c.args.scope.now.items) c.args.raw.now c.in-Let.name c.in-Let.value c.in-Let.body c.in-Let.is))

pub bad_name_in_call-returns-then-not-is_called-clause-value : goal.bad_name_in_call-returns-then-not-is_called-clause-value
bad_name_in_call-returns-then-not-is_called-clause-value t c =
    let bound = scope c.args.text.now c.args.scope.now.items in
    let fs = plains c.args.text.now c.args.xs.now in
    sym (ap (λ z. not z || bad_name_in bound (raws_of fs)) (sym c.is_called.ensures ∙ c.if-not-is_called.true))

pub bad_name_in_call-returns-clause-value : goal.bad_name_in_call-returns-clause-value
bad_name_in_call-returns-clause-value t c =
    let bound = scope c.args.text.now c.args.scope.now.items in
    let fs = plains c.args.text.now c.args.xs.now in
    answer_is _ _ _ c.bad_name_in_arguments.ensures.value (sym (ap (λ z. not z || bad_name_in bound (raws_of fs)) (sym c.is_called.ensures ∙ c.if-not-is_called.false)))

pub bad_name-returns-in-Var-clause-value : goal.bad_name-returns-in-Var-clause-value
bad_name-returns-in-Var-clause-value t c = ap not (c.is_bound.ensures ∙ ap (λ z. list_any (bytes_eq (letters c.args.text.now c.in-Var.name)) (scope c.args.text.now z)) c.deref.ensures.value) ∙ sym (name_var c.args.text.now (scope c.args.text.now c.args.scope.now.items) c.args.raw.now c.in-Var.name c.in-Var.is)

pub bad_name-returns-in_default-clause-value : goal.bad_name-returns-in_default-clause-value
bad_name-returns-in_default-clause-value t c =
    let other = c.in_default in
    sym (no_name c.args.text.now (scope c.args.text.now c.args.scope.now.items) c.args.raw.now other.not-Var other.not-Neg other.not-Chain other.not-Compare other.not-Let other.not-Apply)

pub bad_name_in_arguments-loop-raw-preserved : goal.bad_name_in_arguments-loop-raw-preserved
bad_name_in_arguments-loop-raw-preserved t c = grind (arith, common_steps)

pub bad_name_in_arguments-returns-clause-value : goal.bad_name_in_arguments-returns-clause-value
bad_name_in_arguments-returns-clause-value t c = grind (arith, common_steps)

pub bad_name_in_arguments-returns-then-bad-clause-value : goal.bad_name_in_arguments-returns-then-bad-clause-value
bad_name_in_arguments-returns-then-bad-clause-value t c = grind (arith, common_steps)

pub bad_name_in_body-returns-clause-same : goal.bad_name_in_body-returns-clause-same
bad_name_in_body-returns-clause-same t c = grind (arith, common_steps)

pub bad_name_in_operands-loop-operand-preserved : goal.bad_name_in_operands-loop-operand-preserved
bad_name_in_operands-loop-operand-preserved t c = grind (arith, common_steps)

pub bad_name_in_operands-returns-clause-value : goal.bad_name_in_operands-returns-clause-value
bad_name_in_operands-returns-clause-value t c = grind (arith, common_steps)

pub bad_name_in_operands-returns-then-bad-clause-value : goal.bad_name_in_operands-returns-then-bad-clause-value
bad_name_in_operands-returns-then-bad-clause-value t c = grind (arith, common_steps)
