use Rattle.std.proofs.Common.{[]}
use Rattle.gl_calculus.specs.Values.Lift.{item}
use Rattle.gl_value.specs.View.{value_tree}
use Rattle.gl_lift.proofs.Rows.{element_more}
use Rattle.gl_arrays.proofs.distinct.row_of.Goals as goal

pub loop-j-preserved : goal.loop-j-preserved
loop-j-preserved c =
    rw c.in_ok-push.ensures.items (element_more [] c.loop-j.items.items c.in_ok-item.field-0 (item (value_tree c.args.v.now) c.args.i) c.loop-j.j c.loop-j.invariant c.in_ok-item.ensures.value)
