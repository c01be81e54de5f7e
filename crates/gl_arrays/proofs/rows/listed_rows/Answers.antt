use Rattle.std.proofs.Common.{◌≡◌, ◌∙◌, length, ap, subst, arith, rules, IfOk}
use Rattle.gl_calculus.specs.Grid.Grid.{size}
use Rattle.gl_calculus.specs.Values.Lift.{table}
use Rattle.gl_value.specs.View.{value_tree}
use Rattle.gl_arrays.specs.Parts.{picked}
use Rattle.gl_arrays.proofs.Listed.{listed_table}
use Rattle.gl_arrays.proofs.rows.listed_rows.Goals as goal

pub returns-clause-value : goal.returns-clause-value
returns-clause-value c =
    let v = value_tree c.args.v.now in
    let ks = c.args.rows.now in
    subst (λ t. IfOk c.table.result (λ r. value_tree r ≡ t)) (ap (λ n. table (size (length ks) n) (picked v ks)) c.extents-cols.ensures.cols ∙ listed_table v ks (omega arith))
    (c.table.ensures.value (picked v ks) (λ i j r bi bj post. search rules))
