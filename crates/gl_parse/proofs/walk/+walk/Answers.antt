use Rattle.std.proofs.Common.{ap, sym, ◌∙◌, arith}
use Rattle.std.proofs.lemmas.Grind.{common_steps}
use Rattle.gl_language.specs.Reading.Grammar.{some_form, some_operand, some_argument}
use Rattle.gl_parse.specs.Raws.{raw_tree, links, pairs, raws_of, plains}
use Rattle.gl_parse.specs.Faults.{shows}
use Rattle.gl_parse.proofs.Walks.{or_then, or_else, shown_here, walk_neg, walk_chain, walk_compare, walk_let, walk_apply}
use Rattle.gl_parse.proofs.Others.{no_part}
use Rattle.gl_parse.proofs.walk.+walk.Goals as goal

pub some_form-returns-then-some_form : goal.some_form-returns-then-some_form
some_form-returns-then-some_form t c =
    or_then _ _ _ _ (c.some_form-in-Chain.ensures ∙ ap (λ z. some_form (shows c.args.fault) (raw_tree c.args.text.now z)) c.deref-in-Chain.ensures) c.if-some_form.true
    (walk_chain c.args.text.now c.args.fault c.args.raw.now (sym c.shows.ensures ∙ c.if-shows.false) _ c.in-Chain.f c.in-Chain.rest c.in-Chain.is)

pub some_form-returns-else-some_form : goal.some_form-returns-else-some_form
some_form-returns-else-some_form t c =
    or_else _ _ _ _ _ (c.some_form-in-Chain.ensures ∙ ap (λ z. some_form (shows c.args.fault) (raw_tree c.args.text.now z)) c.deref-in-Chain.ensures) c.if-some_form.false
    (c.some_operand.ensures ∙ ap (λ z. some_operand (shows c.args.fault) (links (pairs c.args.text.now z))) c.deref-else-some_form.ensures.value)
    (walk_chain c.args.text.now c.args.fault c.args.raw.now (sym c.shows.ensures ∙ c.if-shows.false) _ c.in-Chain.f c.in-Chain.rest c.in-Chain.is)

pub some_form-returns-then-some_form-2 : goal.some_form-returns-then-some_form-2
some_form-returns-then-some_form-2 t c =
    or_then _ _ _ _ (c.some_form-in-Compare.ensures ∙ ap (λ z. some_form (shows c.args.fault) (raw_tree c.args.text.now z)) c.deref-in-Compare.ensures) c.if-some_form-2.true
    (walk_compare c.args.text.now c.args.fault c.args.raw.now (sym c.shows.ensures ∙ c.if-shows.false) _ c.in-Compare.f c.in-Compare.g c.in-Compare.is)

pub some_form-returns-else-some_form-2 : goal.some_form-returns-else-some_form-2
some_form-returns-else-some_form-2 t c =
    or_else _ _ _ _ _ (c.some_form-in-Compare.ensures ∙ ap (λ z. some_form (shows c.args.fault) (raw_tree c.args.text.now z)) c.deref-in-Compare.ensures) c.if-some_form-2.false
    (c.some_form-else-some_form-2.ensures ∙ ap (λ z. some_form (shows c.args.fault) (raw_tree c.args.text.now z)) c.deref-else-some_form-2.ensures)
    (walk_compare c.args.text.now c.args.fault c.args.raw.now (sym c.shows.ensures ∙ c.if-shows.false) _ c.in-Compare.f c.in-Compare.g c.in-Compare.is)

pub some_form-returns-then-some_form-3 : goal.some_form-returns-then-some_form-3
some_form-returns-then-some_form-3 t c =
    or_then _ _ _ _ (c.some_form-in-Let.ensures ∙ ap (λ z. some_form (shows c.args.fault) (raw_tree c.args.text.now z)) c.deref-in-Let.ensures) c.if-some_form-3.true
    (walk_let c.args.text.now c.args.fault c.args.raw.now (sym c.shows.ensures ∙ c.if-shows.false) _ c.in-Let.f c.in-Let.body c.in-Let.is)

pub some_form-returns-else-some_form-3 : goal.some_form-returns-else-some_form-3
some_form-returns-else-some_form-3 t c =
    or_else _ _ _ _ _ (c.some_form-in-Let.ensures ∙ ap (λ z. some_form (shows c.args.fault) (raw_tree c.args.text.now z)) c.deref-in-Let.ensures) c.if-some_form-3.false
    (c.some_form-else-some_form-3.ensures ∙ ap (λ z. some_form (shows c.args.fault) (raw_tree c.args.text.now z)) c.deref-else-some_form-3.ensures)
    (walk_let c.args.text.now c.args.fault c.args.raw.now (sym c.shows.ensures ∙ c.if-shows.false) _ c.in-Let.f c.in-Let.body c.in-Let.is)

pub some_form-returns-in-Apply : goal.some_form-returns-in-Apply
some_form-returns-in-Apply t c =
    c.some_argument.ensures ∙ ap (λ z. some_argument (shows c.args.fault) (raws_of (plains c.args.text.now z))) c.deref-in-Apply.ensures.value
    ∙ sym (walk_apply c.args.text.now c.args.fault c.args.raw.now (sym c.shows.ensures ∙ c.if-shows.false) _ c.in-Apply.xs c.in-Apply.is)

pub some_form-returns-then-shows : goal.some_form-returns-then-shows
some_form-returns-then-shows t c = shown_here c.args.text.now c.args.fault c.args.raw.now (sym c.shows.ensures ∙ c.if-shows.true)

pub some_form-returns-in-Neg : goal.some_form-returns-in-Neg
some_form-returns-in-Neg t c =
    c.some_form.ensures ∙ ap (λ z. some_form (shows c.args.fault) (raw_tree c.args.text.now z)) c.deref.ensures
    ∙ sym (walk_neg c.args.text.now c.args.fault c.args.raw.now (sym c.shows.ensures ∙ c.if-shows.false) c.in-Neg.f c.in-Neg.is)

pub some_form-returns-in_default : goal.some_form-returns-in_default
some_form-returns-in_default t c =
    let other = c.in_default in
    let none = no_part c.args.text.now (shows c.args.fault) c.args.raw.now other.not-Neg other.not-Chain other.not-Compare other.not-Let other.not-Apply in
    sym (none ∙ sym c.shows.ensures ∙ c.if-shows.false)

pub some_argument-loop-raw-preserved : goal.some_argument-loop-raw-preserved
some_argument-loop-raw-preserved t c = grind (arith, common_steps)

pub some_argument-returns : goal.some_argument-returns
some_argument-returns t c = grind (arith, common_steps)

pub some_argument-returns-then-some_form : goal.some_argument-returns-then-some_form
some_argument-returns-then-some_form t c = grind (arith, common_steps)

pub some_operand-loop-operand-preserved : goal.some_operand-loop-operand-preserved
some_operand-loop-operand-preserved t c = grind (arith, common_steps)

pub some_operand-returns : goal.some_operand-returns
some_operand-returns t c = grind (arith, common_steps)

pub some_operand-returns-then-some_form : goal.some_operand-returns-then-some_form
some_operand-returns-then-some_form t c = grind (arith, common_steps)
