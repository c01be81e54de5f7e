use Rattle.gl_calculus.specs.Values.Functions.{first_fault, truth_fault}
use Rattle.gl_value.specs.View.{error_tree, value_tree}
use Rattle.gl_arrays.specs.Parts.{column_from}
use Rattle.gl_arrays.proofs.OneColumn.{fault_passed, fault_found}
use Rattle.gl_arrays.proofs.filters.no_fault.Goals as goal

pub returns-in-Some : goal.returns-in-Some
returns-in-Some c = fault_found (value_tree c.args.keep.now) c.loop-i.i c.extents-rows.result.0 _ (error_tree c.in-Some.k) c.loop-i-test.true c.extents-rows.ensures.rows c.in-Some.ensures c.loop-i.invariant

pub loop-i-preserved : goal.loop-i-preserved
loop-i-preserved c =
    let v = value_tree c.args.keep.now in
    let n = c.extents-rows.result.0 in
    fault_passed v c.loop-i.i n (first_fault truth_fault (column_from v 0 n)) c.loop-i-test.true c.in-None.ensures c.loop-i.invariant
