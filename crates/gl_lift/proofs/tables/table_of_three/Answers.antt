use Rattle.std.proofs.Common.{◌≡◌, IfOk, subst, max, rules}
use Rattle.gl_calculus.specs.Values.Lift.{hull, shape, table}
use Rattle.gl_value.specs.View.{value_tree}
use Rattle.gl_lift.specs.Elements.{tripled}
use Rattle.gl_lift.proofs.Sizes.{size_is}
use Rattle.gl_lift.proofs.tables.table_of_three.Goals as goal

pub returns : goal.returns
returns g c = record {
  sound = λ h. c.table.ensures.sound (λ i j r bi bj post. search rules);
  value = λ rule h.
      let s = shape (value_tree c.args.u.now) in
      let t = shape (value_tree c.args.v.now) in
      let p = shape (value_tree c.args.w.now) in
      let rows : c.hull-rows.result.0 ≡ max s.rows (max t.rows p.rows) = cc (c.hull-rows.ensures.rows, c.hull.ensures.rows, c.extents.ensures.rows, c.extents-2.ensures.rows, c.extents-3.ensures.rows) in
      let cols : c.hull-rows.result.1 ≡ max s.cols (max t.cols p.cols) = cc (c.hull-rows.ensures.cols, c.hull.ensures.cols, c.extents.ensures.cols, c.extents-2.ensures.cols, c.extents-3.ensures.cols) in
      subst (λ z. IfOk c.table.result (λ r. value_tree r ≡ table z (tripled rule (value_tree c.args.u.now) (value_tree c.args.v.now) (value_tree c.args.w.now))))
      (size_is c.hull-rows.result.0 c.hull-rows.result.1 (hull s (hull t p)) rows cols)
      (c.table.ensures.value (tripled rule (value_tree c.args.u.now) (value_tree c.args.v.now) (value_tree c.args.w.now)) (λ i j r bi bj post. search rules));
}
