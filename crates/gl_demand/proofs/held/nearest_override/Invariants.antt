use Rattle.std.proofs.Common.{◌≡◌, IsTrue}
use Rattle.gl_calculus.specs.Evaluation.Sound.{is_sound_frame}
use Rattle.gl_value.specs.View.{frame_tree}
use Rattle.gl_demand.specs.Held.{override_in}
use Rattle.gl_demand.proofs.held.nearest_override.Given as goal

abbrev pub invariant-loop-at : goal.invariant-loop-at
invariant-loop-at l = record {
  sound : IsTrue (is_sound_frame (frame_tree l.at));
  same : override_in (frame_tree l.at) l.a ≡ override_in (frame_tree l.fn.env) l.a;
}
