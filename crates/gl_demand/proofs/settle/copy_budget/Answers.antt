use Rattle.std.proofs.Common.{◌≡◌, ◌+◌, count_by, take, get_or, sym, ap, ◌∙◌, arith}
use Rattle.std.proofs.lemmas.Grind.{common_steps}
use Rattle.std.proofs.lemmas.List.Sums.{count_by_more_yes, count_by_more_no}
use Rattle.gl_calculus.specs.Evaluation.Evaluation.{takes_a_round}
use Rattle.gl_cells.specs.Sheet.{sheet}
use Rattle.gl_value.specs.View.{sheet_tree}
use Rattle.gl_demand.proofs.Counting.{take_all}
use Rattle.gl_demand.proofs.Granting.{takes, budget_is}
use Rattle.gl_demand.proofs.settle.copy_budget.Goals as goal
use Rattle.gl_demand.proofs.settle.copy_budget.Goals.{then-takes_a_round, else-takes_a_round}

pub loop-a-preserved : goal.loop-a-preserved
loop-a-preserved c =
    let P = takes (sheet c.args.cells.now) (sheet_tree c.args.s.now) in
    let xs = c.args.places.now in
    let i = c.loop-a.a-index in
    let a = c.a-item.result in
    let here : P (get_or xs i a) ≡ c.takes_a_round.result = ap P (sym c.a-item.is) ∙ sym (c.takes_a_round.ensures ∙ ap takes_a_round c.held_in.ensures) in
    elim c.if-takes_a_round.branch [
      | then-takes_a_round w ↦ (let e : count_by P (take (i + 1) xs) ≡ count_by P (take i xs) + 1 = count_by_more_yes P xs i a c.loop-a-test.true (here ∙ w.if-takes_a_round.true) in omega (arith, w.count-is, c.loop-a.invariant, e))
      | else-takes_a_round w ↦ (let e : count_by P (take (i + 1) xs) ≡ count_by P (take i xs) = count_by_more_no P xs i a c.loop-a-test.true (here ∙ w.if-takes_a_round.false) in omega (arith, w.count-is, c.loop-a.invariant, e))
    ]

pub returns : goal.returns
returns c = λ w.
    let S = sheet c.args.cells.now in
    let s = sheet_tree c.args.s.now in
    c.loop-a.invariant
    ∙ ap (λ l. count_by (takes S s) l + 8) (take_all c.args.places.now c.loop-a.a-index c.loop-a-test.false ∙ c.requires.all)
    ∙ budget_is S w s

pub overflow_add-count : goal.overflow_add-count
overflow_add-count c = grind (arith, common_steps)
