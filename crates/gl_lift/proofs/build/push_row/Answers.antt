use Rattle.std.proofs.Common.{arith, map}
use Rattle.gl_value.specs.View.{scalar_tree}
use Rattle.gl_lift.proofs.Rows.{element_more}
use Rattle.gl_lift.proofs.Soundness.{sound_more}
use Rattle.gl_lift.proofs.build.push_row.Goals as goal

pub loop-j-preserved : goal.loop-j-preserved
loop-j-preserved g c = (
  omega (arith, c.in_ok-push.ensures.len, c.loop-j.invariant.0),
  λ rule h. rw c.in_ok-push.ensures.items (element_more (map scalar_tree c.args.items.now.items) c.loop-j.items.items c.in_ok-element.field-0 (rule c.args.i) c.loop-j.j (c.loop-j.invariant.1 rule h) (h c.args.i c.loop-j.j _ (omega arith) (omega arith) c.in_ok-element.ensures)),
  λ h k. rw c.in_ok-push.ensures.items (sound_more c.loop-j.items.items c.in_ok-element.field-0 (c.loop-j.invariant.2 h k) (h c.args.i c.loop-j.j _ (omega arith) (omega arith) c.in_ok-element.ensures)),
)
