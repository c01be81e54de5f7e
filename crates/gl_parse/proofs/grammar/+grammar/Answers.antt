use Rattle.std.proofs.Common.{[], ◌∷◌, ◌++◌, ◌∙◌, arith, ap, refl, subst, sym}
use Rattle.std.proofs.lemmas.Grind.{common_steps}
use Rattle.gl_language.specs.Reading.Grammar.{IsAtom, IsOperand}
use Rattle.gl_language.specs.Reading.Token.{Word}
use Rattle.gl_lex.specs.View.{tokens_in}
use Rattle.gl_ast.specs.View.{level_tree}
use Rattle.gl_parse.specs.Raws.{letters, pairs, plains, raw_tree, raws_of}
use Rattle.gl_parse.specs.Reading.{DecidesForm, DecidesLevel, SoFar, operand_end}
use Rattle.gl_parse.proofs.Cuts.{cut, spent, as_other, in_front}
use Rattle.gl_parse.proofs.Forms.{tree-Bool, tree-Var, compare_is, neg_is, pairs_pushed, plains_pushed}
use Rattle.gl_parse.proofs.Rules.{expr_alone, expr_compared, expr_cut, expr_none, so_far_start, so_far_step, so_far_done, so_far_cut, chain_none, operand_cat, operand_cat_none, operand_sum, operand_sum_none, operand_prod, operand_prod_none, unary_minus, unary_minus_none, unary_atom, unary_atom_none, atom_truth, atom_variable, atom_word, atom_call, atom_call_none, atom_parens, atom_open, atom_parens_none, arguments_empty, arguments_start, arguments_step, arguments_done, arguments_none, arguments_cut, arguments_open}
use Rattle.gl_parse.proofs.Rulesets.{atom_rules}
use Rattle.gl_parse.proofs.grammar.+grammar.Goals as goal

pub expr-returns-in_default-clause-cases : goal.expr-returns-in_default-clause-cases
expr-returns-in_default-clause-cases t c = expr_alone c.in_ok-first.ensures.cases c.in_default.ensures.cases

pub expr-returns-clause-cases : goal.expr-returns-clause-cases
expr-returns-clause-cases t c = expr_compared c.in_ok-first.ensures.cases c.in-Some.ensures.cases c.in_ok-second.ensures.cases (compare_is _ _ _ _ _ _ c.in_ok-new.ensures.ok c.in_ok-new-2.ensures.ok)

pub chain-loop-op-init : goal.chain-loop-op-init
chain-loop-op-init t c = record {
  so_far = subst (λ v. SoFar (level_tree c.args.level) (tokens_in c.args.text.now c.args.tokens.now) (raw_tree c.args.text.now c.in_ok-first.first) (pairs c.args.text.now v) (tokens_in c.args.text.now c.in_ok-first.rest.now)) (sym c.new-others.ensures.items) (so_far_start c.in_ok-first.ensures.cases);
  shorter = c.in_ok-first.ensures.shrinks;
}

pub chain-loop-op-preserved : goal.chain-loop-op-preserved
chain-loop-op-preserved t c = record {
  so_far = so_far_step c.loop-op.invariant.so_far c.in-Some.ensures.cases c.in_ok-next.ensures.cases (pairs_pushed _ _ _ _ _ c.in_ok-push.ensures.items);
  shorter = omega (arith, c.in_ok-next.ensures.shrinks, c.in-Some.ensures.len);
}

pub chain-returns-clause-cases : goal.chain-returns-clause-cases
chain-returns-clause-cases t c = so_far_done c.loop-op.invariant.so_far c.in_default.ensures.cases (c.in_ok-chained.ensures.tree c.args.text.now)

pub unary-returns-clause-cases : goal.unary-returns-clause-cases
unary-returns-clause-cases t c = unary_minus c.in_ok-inner.ensures.cases c.in-Some.ensures.cases (neg_is _ _ _ c.in_ok-new.ensures.ok)

pub arguments-returns-in-Some-clause-cases : goal.arguments-returns-in-Some-clause-cases
arguments-returns-in-Some-clause-cases t c = arguments_empty c.in-Some.ensures.cases (ap (λ v. raws_of (plains c.args.text.now v)) c.new-all.ensures.items)

pub arguments-loop-behind-init : goal.arguments-loop-behind-init
arguments-loop-behind-init t c = record {
  so_far = arguments_start c.in_default.ensures.cases c.in_ok-first.ensures.cases (plains_pushed _ _ _ _ c.in_ok-push.ensures.items ∙ ap (λ v. plains c.args.text.now v ++ raw_tree c.args.text.now c.in_ok-first.first ∷ []) c.new-all.ensures.items);
  shorter = c.in_ok-first.ensures.shrinks;
}

pub arguments-loop-behind-preserved : goal.arguments-loop-behind-preserved
arguments-loop-behind-preserved t c = record {
  so_far = arguments_step c.loop-behind.invariant.so_far c.in-Some-after.ensures.cases c.in_ok-next.ensures.cases (plains_pushed _ _ _ _ c.in_ok-push-2.ensures.items);
  shorter = omega (arith, c.in_ok-next.ensures.shrinks, c.in-Some-after.ensures.len);
}

pub arguments-returns-in-Some-after-2-clause-cases : goal.arguments-returns-in-Some-after-2-clause-cases
arguments-returns-in-Some-after-2-clause-cases t c = arguments_done c.loop-behind.invariant.so_far c.in-Some-after-2.ensures.cases refl

pub atom-returns-in_default-clause-cases : goal.atom-returns-in_default-clause-cases
atom-returns-in_default-clause-cases t c = grind (arith, common_steps)

pub arguments-returns-in_err-first-clause-cases : goal.arguments-returns-in_err-first-clause-cases
arguments-returns-in_err-first-clause-cases t c = cut _ _ _ _ _ (arguments_none c.in_default.ensures.cases) _ c.from_residual.result c.in_err-first.ensures.cases c.from_residual.ensures.1

pub arguments-returns-in_err-push-clause-cases : goal.arguments-returns-in_err-push-clause-cases
arguments-returns-in_err-push-clause-cases t c = spent _ _ _ _ _ c.from_residual-in_err-push.result c.from_residual-in_err-push.ensures.1

pub arguments-returns-in_err-next-clause-cases : goal.arguments-returns-in_err-next-clause-cases
arguments-returns-in_err-next-clause-cases t c = cut _ _ _ _ _ (arguments_cut c.loop-behind.invariant.so_far c.in-Some-after.ensures.cases) _ c.from_residual-in_err-next.result c.in_err-next.ensures.cases c.from_residual-in_err-next.ensures.1

pub arguments-returns-in_err-push-2-clause-cases : goal.arguments-returns-in_err-push-2-clause-cases
arguments-returns-in_err-push-2-clause-cases t c = spent _ _ _ _ _ c.from_residual-in_err-push-2.result c.from_residual-in_err-push-2.ensures.1

pub arguments-returns-clause-cases : goal.arguments-returns-clause-cases
arguments-returns-clause-cases t c = arguments_open c.loop-behind.invariant.so_far c.in-None.ensures.cases c.in_default-after.ensures.cases

pub atom-returns-in_err-map_err-in-Text-clause-cases : goal.atom-returns-in_err-map_err-in-Text-clause-cases
atom-returns-in_err-map_err-in-Text-clause-cases t c = grind (arith, common_steps)

pub atom-returns-in-Integer-clause-cases : goal.atom-returns-in-Integer-clause-cases
atom-returns-in-Integer-clause-cases t c = grind (arith, atom_rules)

pub atom-returns-in-Address-clause-cases : goal.atom-returns-in-Address-clause-cases
atom-returns-in-Address-clause-cases t c = subst (λ ts. DecidesForm IsAtom 5 c.args.text.now ts c.addressed.result) (sym (in_front c.args.text.now c.args.tokens.now _ _ _ c.in-Some.ensures.cases.0 c.in-Address.is)) c.addressed.ensures.cases

pub atom-returns-in_ok-map_err-in-Text-clause-cases : goal.atom-returns-in_ok-map_err-in-Text-clause-cases
atom-returns-in_ok-map_err-in-Text-clause-cases t c = grind (arith, atom_rules)

pub atom-returns-in-Truth-clause-cases : goal.atom-returns-in-Truth-clause-cases
atom-returns-in-Truth-clause-cases t c = atom_truth (in_front c.args.text.now c.args.tokens.now _ _ _ c.in-Some.ensures.cases.0 c.in-Truth.is) (tree-Bool c.args.text.now _)

pub atom-returns-in-Variable-clause-cases : goal.atom-returns-in-Variable-clause-cases
atom-returns-in-Variable-clause-cases t c = atom_variable (in_front c.args.text.now c.args.tokens.now _ _ _ c.in-Some.ensures.cases.0 c.in-Variable.is) (tree-Var c.args.text.now _)

pub atom-returns-in-Word-clause-cases : goal.atom-returns-in-Word-clause-cases
atom-returns-in-Word-clause-cases t c = subst (λ ts. DecidesForm IsAtom 5 c.args.text.now ts c.call.result) (sym (in_front c.args.text.now c.args.tokens.now _ _ _ c.in-Some.ensures.cases.0 c.in-Word.is)) c.call.ensures.cases

pub atom-returns-in-Sign-LeftParen-clause-cases : goal.atom-returns-in-Sign-LeftParen-clause-cases
atom-returns-in-Sign-LeftParen-clause-cases t c = grind (arith, common_steps)

pub call-returns-in_default-clause-cases : goal.call-returns-in_default-clause-cases
call-returns-in_default-clause-cases t c = atom_word refl c.in_default.ensures.cases

pub call-returns-in_err-all-clause-cases : goal.call-returns-in_err-all-clause-cases
call-returns-in_err-all-clause-cases t c = cut _ _ _ _ _ (atom_call_none (ap (λ ts. Word (letters c.args.text.now c.args.word) ∷ ts) c.in-Some.ensures.cases)) _ c.from_residual.result c.in_err-all.ensures.cases c.from_residual.ensures.1

pub call-returns-clause-cases : goal.call-returns-clause-cases
call-returns-clause-cases t c = atom_call (ap (λ ts. Word (letters c.args.text.now c.args.word) ∷ ts) c.in-Some.ensures.cases) c.in_ok-all.ensures.cases c.in_ok-applied.ensures.tree

pub call-returns-in_err-applied-clause-cases : goal.call-returns-in_err-applied-clause-cases
call-returns-in_err-applied-clause-cases t c = grind (arith, common_steps)

pub chain-returns-in_err-first-clause-cases : goal.chain-returns-in_err-first-clause-cases
chain-returns-in_err-first-clause-cases t c = cut _ _ _ _ _ chain_none _ c.from_residual.result c.in_err-first.ensures.cases c.from_residual.ensures.1

pub chain-returns-in_err-next-clause-cases : goal.chain-returns-in_err-next-clause-cases
chain-returns-in_err-next-clause-cases t c = cut _ _ _ _ _ (so_far_cut c.loop-op.invariant.so_far c.in-Some.ensures.cases) _ c.from_residual-in_err-next.result c.in_err-next.ensures.cases c.from_residual-in_err-next.ensures.1

pub chain-returns-in_err-push-clause-cases : goal.chain-returns-in_err-push-clause-cases
chain-returns-in_err-push-clause-cases t c = spent _ _ _ _ _ c.from_residual-in_err-push.result c.from_residual-in_err-push.ensures.1

pub chain-returns-in_err-chained-clause-cases : goal.chain-returns-in_err-chained-clause-cases
chain-returns-in_err-chained-clause-cases t c = grind (arith, common_steps)

pub expr-returns-in_err-first-clause-cases : goal.expr-returns-in_err-first-clause-cases
expr-returns-in_err-first-clause-cases t c = cut _ _ _ _ _ expr_none _ c.from_residual.result c.in_err-first.ensures.cases c.from_residual.ensures.1

pub expr-returns-in_err-second-clause-cases : goal.expr-returns-in_err-second-clause-cases
expr-returns-in_err-second-clause-cases t c = cut _ _ _ _ _ (expr_cut c.in_ok-first.ensures.cases c.in-Some.ensures.cases) _ c.from_residual-in_err-second.result c.in_err-second.ensures.cases c.from_residual-in_err-second.ensures.1

pub expr-returns-in_err-new-clause-cases : goal.expr-returns-in_err-new-clause-cases
expr-returns-in_err-new-clause-cases t c = spent _ _ _ _ _ c.from_residual-in_err-new.result c.from_residual-in_err-new.ensures.1

pub expr-returns-in_err-new-2-clause-cases : goal.expr-returns-in_err-new-2-clause-cases
expr-returns-in_err-new-2-clause-cases t c = spent _ _ _ _ _ c.from_residual-in_err-new-2.result c.from_residual-in_err-new-2.ensures.1

pub operand-returns-in-Cat-clause-cases : goal.operand-returns-in-Cat-clause-cases
operand-returns-in-Cat-clause-cases t c = subst (λ l. DecidesLevel IsOperand operand_end l c.args.text.now c.args.tokens.now c.chain.result) (sym c.in-Cat.is) (as_other _ _ _ _ _ (λ t vs. operand_cat) operand_cat_none c.chain.result c.chain.ensures.cases)

pub operand-returns-in-Sum-clause-cases : goal.operand-returns-in-Sum-clause-cases
operand-returns-in-Sum-clause-cases t c = subst (λ l. DecidesLevel IsOperand operand_end l c.args.text.now c.args.tokens.now c.chain-in-Sum.result) (sym c.in-Sum.is) (as_other _ _ _ _ _ (λ t vs. operand_sum) operand_sum_none c.chain-in-Sum.result c.chain-in-Sum.ensures.cases)

pub operand-returns-in-Prod-clause-cases : goal.operand-returns-in-Prod-clause-cases
operand-returns-in-Prod-clause-cases t c = subst (λ l. DecidesLevel IsOperand operand_end l c.args.text.now c.args.tokens.now c.unary.result) (sym c.in-Prod.is) (as_other _ _ _ _ _ (λ t vs. operand_prod) operand_prod_none c.unary.result c.unary.ensures.cases)

pub parens-returns-in_err-inner-clause-cases : goal.parens-returns-in_err-inner-clause-cases
parens-returns-in_err-inner-clause-cases t c = cut _ _ _ _ _ (atom_parens_none refl) _ c.from_residual.result c.in_err-inner.ensures.cases c.from_residual.ensures.1

pub parens-returns-in-Some-clause-cases : goal.parens-returns-in-Some-clause-cases
parens-returns-in-Some-clause-cases t c = atom_parens refl c.in_ok-inner.ensures.cases c.in-Some.ensures.cases

pub parens-returns-in-None-clause-cases : goal.parens-returns-in-None-clause-cases
parens-returns-in-None-clause-cases t c = atom_open refl c.in_ok-inner.ensures.cases c.in-None.ensures.cases

pub unary-returns-in_default-clause-cases : goal.unary-returns-in_default-clause-cases
unary-returns-in_default-clause-cases t c = as_other _ _ _ _ _ (λ t vs. unary_atom c.in_default.ensures.cases) (unary_atom_none c.in_default.ensures.cases) c.atom.result c.atom.ensures.cases

pub unary-returns-in_err-inner-clause-cases : goal.unary-returns-in_err-inner-clause-cases
unary-returns-in_err-inner-clause-cases t c = cut _ _ _ _ _ (λ n. unary_minus_none n c.in-Some.ensures.cases) _ c.from_residual.result c.in_err-inner.ensures.cases c.from_residual.ensures.1

pub unary-returns-in_err-new-clause-cases : goal.unary-returns-in_err-new-clause-cases
unary-returns-in_err-new-clause-cases t c = spent _ _ _ _ _ c.from_residual-in_err-new.result c.from_residual-in_err-new.ensures.1
