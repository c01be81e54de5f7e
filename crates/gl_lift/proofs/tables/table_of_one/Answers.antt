use Rattle.std.proofs.Common.{◌≡◌, IfOk, subst, rules}
use Rattle.gl_calculus.specs.Values.Lift.{item, shape, table}
use Rattle.gl_value.specs.View.{value_tree}
use Rattle.gl_lift.proofs.Sizes.{size_is}
use Rattle.gl_lift.proofs.tables.table_of_one.Goals as goal

pub returns : goal.returns
returns g c = record {
  sound = λ h. c.table.ensures.sound (λ i j r bi bj post. search rules);
  value = λ rule h.
      subst (λ z. IfOk c.table.result (λ r. value_tree r ≡ table z (λ i j. rule (item (value_tree c.args.v.now) i j))))
      (size_is c.extents-rows.result.0 c.extents-rows.result.1 (shape (value_tree c.args.v.now)) c.extents-rows.ensures.rows c.extents-rows.ensures.cols)
      (c.table.ensures.value (λ i j. rule (item (value_tree c.args.v.now) i j)) (λ i j r bi bj post. search rules));
}
