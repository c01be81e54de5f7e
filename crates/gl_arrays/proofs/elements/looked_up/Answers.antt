use Rattle.std.proofs.Common.{◌≡◌, ◌∙◌, sym}
use Rattle.std.proofs.lemmas.Result.{IfOk-weaker}
use Rattle.gl_calculus.specs.Values.Value.{elements}
use Rattle.gl_calculus.specs.Values.Lift.{item}
use Rattle.gl_calculus.specs.Values.Functions.{looked_up}
use Rattle.gl_value.specs.Forms.{scalar_tree-Err}
use Rattle.gl_value.specs.View.{scalar_tree, value_tree}
use Rattle.gl_arrays.proofs.OneColumn.{lookup_passed, lookup_found, lookup_ended, lookup_start}
use Rattle.gl_arrays.proofs.elements.looked_up.Goals as goal

pub loop-i-init : goal.loop-i-init
loop-i-init c = lookup_start (scalar_tree c.args.x.now) (value_tree c.args.keys.now) (value_tree c.args.values.now) c.extents-rows.result.0 c.extents-rows.ensures.rows c.requires.columns c.requires.keys c.requires.values

pub loop-i-preserved : goal.loop-i-preserved
loop-i-preserved c =
    let x = scalar_tree c.args.x.now in
    let u = value_tree c.args.keys.now in
    let v = value_tree c.args.values.now in
    lookup_passed x u v c.loop-i.i c.extents-rows.result.0 (looked_up x (elements u) (elements v)) c.loop-i-test.true (sym c.agrees_at.ensures ∙ c.if-agrees_at.false) c.loop-i.invariant

pub returns-then-agrees_at-clause-value : goal.returns-then-agrees_at-clause-value
returns-then-agrees_at-clause-value c =
    let x = scalar_tree c.args.x.now in
    let u = value_tree c.args.keys.now in
    let v = value_tree c.args.values.now in
    let g = looked_up x (elements u) (elements v) in
    let here = lookup_found x u v c.loop-i.i c.extents-rows.result.0 g c.loop-i-test.true (sym c.agrees_at.ensures ∙ c.if-agrees_at.true) c.loop-i.invariant in
    IfOk-weaker c.item.result (λ y. scalar_tree y ≡ item v c.loop-i.i 0) (λ y. scalar_tree y ≡ g) (λ y e. e ∙ here) c.item.ensures.value

pub returns-clause-value : goal.returns-clause-value
returns-clause-value c =
    let x = scalar_tree c.args.x.now in
    let u = value_tree c.args.keys.now in
    let v = value_tree c.args.values.now in
    rw scalar_tree-Err (lookup_ended x u v c.loop-i.i c.extents-rows.result.0 (looked_up x (elements u) (elements v)) c.loop-i-test.false c.loop-i.invariant)
