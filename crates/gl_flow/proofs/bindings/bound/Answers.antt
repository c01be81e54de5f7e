use Rattle.std.proofs.Common.{◌<◌, length, false, sym, ◌∙◌, arith}
use Rattle.std.specs.Rc.{rc_str_bytes}
use Rattle.gl_flow.proofs.Binding.{first_is}
use Rattle.gl_flow.proofs.bindings.bound.Goals as goal

pub loop-x-preserved : goal.loop-x-preserved
loop-x-preserved c =
    let lt : c.loop-x.x-index < length c.args.bindings.now = omega arith in
    sym (first_is c.args.bindings.now c.loop-x.x-index c.loop-x-item.result (rc_str_bytes c.args.name.now) false lt c.loop-x-item.is (sym c.same_name.ensures ∙ c.if-same_name.false)) ∙ c.loop-x.invariant
