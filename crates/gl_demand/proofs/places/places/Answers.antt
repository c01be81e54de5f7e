use Rattle.std.proofs.Common.{◌≡◌, ◌≤◌, ◌*◌, length, arith, ap, sym, subst, Some, None}
use Rattle.gl_calculus.specs.Grid.Grid.{addresses}
use Rattle.gl_calculus.specs.Grid.Limits.{grid_rows, grid_cols}
use Rattle.gl_calculus.specs.Values.Value.{region}
use Rattle.gl_cells.specs.Sheet.{sheet}
use Rattle.gl_value.specs.Forms.{sheet_tree_is}
use Rattle.gl_value.specs.View.{sheet_tree}
use Rattle.gl_demand.specs.Blocks.{has_content_in}
use Rattle.gl_demand.specs.Filling.{IsFirst, is_filled}
use Rattle.gl_demand.proofs.Filled.{fewer_left, one_filled, all_filled, few_filled}
use Rattle.gl_demand.proofs.places.places.Goals as goal

pub loop-a-smaller : goal.loop-a-smaller
loop-a-smaller c =
    let S = sheet c.args.cells.now in
    let s = sheet_tree c.args.s.now in
    let is = ap region (sheet_tree_is c.args.s.now) in
    let first : IsFirst (is_filled S s (region s) c.loop-a.after) (Some c.in-Some.a) = subst (λ r. IsFirst (is_filled S s r c.loop-a.after) (Some c.in-Some.a)) (sym is) c.in-Some.ensures in
    omega (arith, fewer_left S s c.loop-a.after c.in-Some.a first)

pub loop-a-preserved : goal.loop-a-preserved
loop-a-preserved c =
    let S = sheet c.args.cells.now in
    let s = sheet_tree c.args.s.now in
    let is = ap region (sheet_tree_is c.args.s.now) in
    let first : IsFirst (is_filled S s (region s) c.loop-a.after) (Some c.in-Some.a) = subst (λ r. IsFirst (is_filled S s r c.loop-a.after) (Some c.in-Some.a)) (sym is) c.in-Some.ensures in
    rw c.in_ok-push.ensures.items (one_filled S s c.loop-a.after c.in-Some.a c.loop-a.found.items first c.loop-a.invariant)

pub returns-clause-all : goal.returns-clause-all
returns-clause-all c =
    let S = sheet c.args.cells.now in
    let s = sheet_tree c.args.s.now in
    let is = ap region (sheet_tree_is c.args.s.now) in
    let none : IsFirst (is_filled S s (region s) c.loop-a.after) None = subst (λ r. IsFirst (is_filled S s r c.loop-a.after) None) (sym is) c.in_default.ensures in
    all_filled S s c.loop-a.after c.loop-a.found.items none c.loop-a.invariant

pub returns-clause-few : goal.returns-clause-few
returns-clause-few c =
    let s = sheet_tree c.args.s.now in
    let is : length (addresses (region s)) ≡ length (addresses c.args.s.now.region) = ap (λ x. length (addresses (region x))) (sheet_tree_is c.args.s.now) in
    let most : length (addresses (region s)) ≤ grid_rows * grid_cols = omega (arith, is, c.cells-cells.ensures.value, c.cells-cells.ensures.few) in
    few_filled (has_content_in (sheet c.args.cells.now) s) (addresses (region s)) c.loop-a.found.items (grid_rows * grid_cols) most (returns-clause-all c)
