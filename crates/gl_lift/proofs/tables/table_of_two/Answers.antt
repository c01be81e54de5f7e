use Rattle.std.proofs.Common.{◌≡◌, IfOk, subst, max, rules}
use Rattle.gl_calculus.specs.Values.Lift.{hull, shape, table}
use Rattle.gl_value.specs.View.{value_tree}
use Rattle.gl_lift.specs.Elements.{paired}
use Rattle.gl_lift.proofs.Sizes.{size_is}
use Rattle.gl_lift.proofs.tables.table_of_two.Goals as goal

pub returns : goal.returns
returns g c = record {
  sound = λ h. c.table.ensures.sound (λ i j r bi bj post. search rules);
  value = λ rule h.
      let s = shape (value_tree c.args.u.now) in
      let t = shape (value_tree c.args.v.now) in
      let rows : c.hull-rows.result.0 ≡ max s.rows t.rows = cc (c.hull-rows.ensures.rows, c.extents.ensures.rows, c.extents-2.ensures.rows) in
      let cols : c.hull-rows.result.1 ≡ max s.cols t.cols = cc (c.hull-rows.ensures.cols, c.extents.ensures.cols, c.extents-2.ensures.cols) in
      subst (λ z. IfOk c.table.result (λ r. value_tree r ≡ table z (paired rule (value_tree c.args.u.now) (value_tree c.args.v.now))))
      (size_is c.hull-rows.result.0 c.hull-rows.result.1 (hull s t) rows cols)
      (c.table.ensures.value (paired rule (value_tree c.args.u.now) (value_tree c.args.v.now)) (λ i j r bi bj post. search rules));
}
