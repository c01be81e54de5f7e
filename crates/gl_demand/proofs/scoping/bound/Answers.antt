use Rattle.std.proofs.Common.{◌<◌, ◌≤◌, Ok, length, true, false, ap, sym, ◌∙◌, arith}
use Rattle.std.specs.Rc.{rc_str_bytes}
use Rattle.gl_calculus.specs.Evaluation.Evaluation as E
use Rattle.gl_calculus.specs.Values.Value as V
use Rattle.gl_value.specs.Forms.{value_tree-One, scalar_tree-Blank}
use Rattle.gl_value.specs.declared.Scalar.{Blank}
use Rattle.gl_demand.specs.Scope.{bindings_of}
use Rattle.gl_demand.proofs.Bindings.{first_is, none_is, found_sound}
use Rattle.gl_demand.proofs.scoping.bound.Goals as goal

pub loop-x-init : goal.loop-x-init
loop-x-init c = ap (λ l. E.bound (bindings_of l) (rc_str_bytes c.args.name.now)) c.deref-x-items.ensures.value

pub loop-x-preserved : goal.loop-x-preserved
loop-x-preserved c =
    let lt : c.loop-x.x-index < length c.deref-x-items.result.now = omega arith in
    sym (first_is c.deref-x-items.result.now c.loop-x.x-index c.loop-x-item.result (rc_str_bytes c.args.name.now) false lt c.loop-x-item.is (sym c.same_name.ensures ∙ c.if-same_name.false)) ∙ c.loop-x.invariant

pub returns-then-same_name-clause-value : goal.returns-then-same_name-clause-value
returns-then-same_name-clause-value c =
    let lt : c.loop-x.x-index < length c.deref-x-items.result.now = omega arith in
    let found = sym (first_is c.deref-x-items.result.now c.loop-x.x-index c.loop-x-item.result (rc_str_bytes c.args.name.now) true lt c.loop-x-item.is (sym c.same_name.ensures ∙ c.if-same_name.true)) ∙ c.loop-x.invariant in
    c.in_ok-share.ensures.0 ∙ found

pub returns-then-same_name-clause-sound : goal.returns-then-same_name-clause-sound
returns-then-same_name-clause-sound c = found_sound (Ok c.in_ok-share.field-0) c.args.scope.now.bindings.items (rc_str_bytes c.args.name.now) (returns-then-same_name-clause-value c) c.args.scope.now.sound

pub returns-clause-value : goal.returns-clause-value
returns-clause-value c =
    let le : length c.deref-x-items.result.now ≤ c.loop-x.x-index = omega arith in
    value_tree-One Blank ∙ ap V.Value.One scalar_tree-Blank ∙ sym (none_is c.deref-x-items.result.now c.loop-x.x-index (rc_str_bytes c.args.name.now) le) ∙ c.loop-x.invariant
