use Rattle.std.proofs.Common.{◌∙◌, arith, sym}
use Rattle.gl_flow.proofs.Binding.{push_step, done_step}
use Rattle.gl_flow.proofs.bindings.share_onto.Goals as goal

pub loop-x-preserved : goal.loop-x-preserved
loop-x-preserved c =
    let e = push_step c.loop-x.list.items c.args.more.now c.loop-x.x-index c.loop-x-item.result c.in_ok-share_binding.field-0 (omega arith) c.loop-x-item.is c.in_ok-share_binding.ensures.name c.in_ok-share_binding.ensures.shape in
    rw c.in_ok-push.ensures.items (e ∙ c.loop-x.invariant)

pub returns : goal.returns
returns c = sym (done_step c.loop-x.list.items c.args.more.now c.loop-x.x-index c.loop-x-test.false) ∙ c.loop-x.invariant
