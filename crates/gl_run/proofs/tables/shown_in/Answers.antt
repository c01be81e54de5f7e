use Rattle.std.proofs.Common.{◌≡◌, ◌∙◌, ◌+◌, ◌≤◌, map, ap, arith}
use Rattle.std.proofs.lemmas.Grind.{common_steps}
use Rattle.gl_calculus.specs.Grid.Grid.{Addr}
use Rattle.gl_value.specs.Made.{shown_tree}
use Rattle.gl_run.proofs.Viewing.{goes_on, ends, rows_ordered}
use Rattle.gl_run.proofs.tables.shown_in.Goals as goal

pub loop-row-preserved : goal.loop-row-preserved
loop-row-preserved c =
    let r = c.args.range.now in
    let first : c.row-row.result ≡ r.first.row = c.row-row.ensures.value ∙ ap (λ (a : Addr). a.row) c.first.ensures.value in
    let last : c.row-row-end.result ≡ r.last.row = c.row-row-end.ensures.value ∙ ap (λ (a : Addr). a.row) c.last.ensures.value in
    let top : r.first.row ≤ c.loop-row.row = omega arith in
    let bottom : c.loop-row.row ≤ r.last.row = omega arith in
    goes_on c.args.calc.now r c.loop-row.row (map shown_tree c.loop-row.items.items) (map shown_tree c.push_row.new.items.items) top bottom c.loop-row.invariant c.in_ok-push_row.ensures

pub returns-clause-shown : goal.returns-clause-shown
returns-clause-shown c =
    let r = c.args.range.now in
    let first : c.row-row.result ≡ r.first.row = c.row-row.ensures.value ∙ ap (λ (a : Addr). a.row) c.first.ensures.value in
    let last : c.row-row-end.result ≡ r.last.row = c.row-row-end.ensures.value ∙ ap (λ (a : Addr). a.row) c.last.ensures.value in
    let ordered : r.first.row ≤ r.last.row = rows_ordered r c.first.ensures.ordered in
    let e : c.loop-row.row ≡ r.last.row + 1 = omega arith in
    (ends c.args.calc.now r c.loop-row.row (map shown_tree c.loop-row.items.items) e c.loop-row.invariant).1

pub returns-clause-count : goal.returns-clause-count
returns-clause-count c = grind (arith, common_steps)
