use Rattle.std.proofs.Common.{◌∙◌, ◌+◌, ◌++◌, List, drop, ap, subst, arith, refl}
use Rattle.std.proofs.lemmas.List.{drop_all}
use Rattle.gl_calculus.specs.Grid.Grid.{Addr, Range}
use Rattle.gl_calculus.specs.Edits.Sheets.{without, places_in}
use Rattle.gl_calc.specs.View.{sheet_of}
use Rattle.gl_demand.proofs.Counting.{drop_item}
use Rattle.gl_run.proofs.Stepping.{Clearing, one_cleared, all_cleared}
use Rattle.gl_run.proofs.undoing.remove_all.Goals as goal

pub loop-a-init : goal.loop-a-init
loop-a-init c = record { sheet = refl; touched = refl; tables = refl; made_for = refl }

pub loop-a-preserved : goal.loop-a-preserved
loop-a-preserved c =
    let ps = c.args.places.now in
    let a = c.a-item.result in
    let mid = c.loop-a.calc in
    let d = drop_item ps c.loop-a.a-index a c.a-item.is c.loop-a-test.true in
    let inv = subst (λ (zs : List Addr). Clearing ps zs c.args.calc.now mid) d c.loop-a.invariant in
    let h = c.clear.ensures in
    one_cleared ps (drop (c.loop-a.a-index + 1) ps) a c.args.calc.now mid c.clear.new.self inv (h.cleared ∙ ap (λ (r : Range). without (sheet_of mid) r) c.new.ensures)
    (h.touched ∙ ap (λ (r : Range). mid.touched ++ places_in (sheet_of mid) r) c.new.ensures) h.tables h.version

pub returns-clause-sheet : goal.returns-clause-sheet
returns-clause-sheet c =
    let ps = c.args.places.now in
    let none = drop_all c.loop-a.a-index ps (omega (arith, c.loop-a-test.false)) in
    (subst (λ (zs : List Addr). Clearing ps zs c.args.calc.now c.loop-a.calc) none c.loop-a.invariant).sheet

pub returns-clause-marks : goal.returns-clause-marks
returns-clause-marks c =
    let ps = c.args.places.now in
    let none = drop_all c.loop-a.a-index ps (omega (arith, c.loop-a-test.false)) in
    all_cleared ps c.args.calc.now c.loop-a.calc (subst (λ (zs : List Addr). Clearing ps zs c.args.calc.now c.loop-a.calc) none c.loop-a.invariant)
