use Rattle.std.proofs.Common.{◌≡◌, ◌+◌, ◌<◌, subst, sym, arith, rules, IfOk}
use Rattle.gl_value.specs.Forms.{trees}
use Rattle.gl_calculus.specs.Values.ErrKind.{ErrKind}
use Rattle.gl_calculus.specs.Values.Lift.{item}
use Rattle.gl_value.specs.View.{value_tree}
use Rattle.gl_arrays.proofs.Tables.{some_rows_are}
use Rattle.gl_arrays.proofs.parts.window.Goals as goal

pub returns-clause-value : goal.returns-clause-value
returns-clause-value c =
    let v = value_tree c.args.v.now in
    let f = λ (i j : _). item v (c.args.rows.start + i) (c.args.cols.start + j) in
    let some_rows : 0 < c.args.rows.count = omega arith in
    let some_cols : 0 < c.args.cols.count = omega arith in
    subst (λ t. IfOk c.table.result (λ r. value_tree r ≡ t)) (sym (some_rows_are ErrKind.Value f c.args.rows.count c.args.cols.count some_rows some_cols))
    (c.table.ensures.value f (λ i j r bi bj post. search rules))

pub returns-then-rows-eq0-clause-sound : goal.returns-then-rows-eq0-clause-sound
returns-then-rows-eq0-clause-sound c = grind (arith, trees)

pub returns-then-rows-eq0-clause-value : goal.returns-then-rows-eq0-clause-value
returns-then-rows-eq0-clause-value c = grind (arith, trees)
