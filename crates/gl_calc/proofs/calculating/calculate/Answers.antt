use Rattle.std.proofs.Common.{◌≡◌, ◌+◌, sym, ◌∙◌, arith}
use Rattle.gl_calculus.specs.Calculation.Calculation.{round_budget}
use Rattle.gl_ast.specs.View.{version_tree}
use Rattle.gl_cells.specs.Sheet.{sheet}
use Rattle.gl_calc.specs.declared.round.TopRound.{TopRound}
use Rattle.gl_calc.proofs.Rounds.{settles_within, spends_within}
use Rattle.gl_calc.proofs.Ended.{settled_ends, spent_ends}
use Rattle.gl_calc.proofs.calculating.calculate.Goals as goal

pub returns-in-Ok-clause-ends : goal.returns-in-Ok-clause-ends
returns-in-Ok-clause-ends g c =
    let s = c.in-Ok.settled in
    let allowed : c.formulas-budget.result + 8 ≡ round_budget (sheet c.args.cells.now) = omega (arith, c.formulas-budget.ensures.count) in
    let t = c.iterate.new.round in
    settled_ends (version_tree c.args.version) (sheet c.args.cells.now) c.args.earlier.items c.args.touched.now c.args.steps.now c.iterate.new.count c.ended.result t.tables c.ended.ensures.tables s.rounds s.oracle c.ended.ensures.answer c.ended.ensures.beyond
    (settles_within (λ (x : TopRound g.row.F.Denot g.row.L.Denot). x.version) (λ x. x.cells.now) (λ x. x.touched.now) (λ x. x.tables) _ c.args.steps.now (c.formulas-budget.result + 8) allowed c.args.earlier.items c.in_ok-tables.ensures
    c.whole_grid.result c.whole_grid.ensures s.oracle s.rounds t c.iterate.new.count c.in-Ok.ensures)

pub returns-in-Some-clause-ends : goal.returns-in-Some-clause-ends
returns-in-Some-clause-ends g c =
    let allowed : c.formulas-budget.result + 8 ≡ round_budget (sheet c.args.cells.now) = omega (arith, c.formulas-budget.ensures.count) in
    let t = c.iterate.new.round in
    spent_ends (version_tree c.args.version) (sheet c.args.cells.now) c.args.earlier.items c.args.touched.now c.args.steps.now c.iterate.new.count c.ended-in-Some.result t.tables c.ended-in-Some.ensures.tables c.in-Some.kind c.ended-in-Some.ensures.answer
    (spends_within (λ (x : TopRound g.row.F.Denot g.row.L.Denot). x.version) (λ x. x.cells.now) (λ x. x.touched.now) (λ x. x.tables) _ c.args.steps.now (c.formulas-budget.result + 8) allowed c.args.earlier.items c.in_ok-tables.ensures
    c.whole_grid.result c.whole_grid.ensures c.in-Err.fault c.in-Some.kind t c.iterate.new.count (sym c.spent_by.ensures ∙ c.in-Some.is) c.in-Err.ensures)
