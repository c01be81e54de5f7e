use Rattle.gl_value.specs.View.{frame_tree}
use Rattle.gl_demand.proofs.Frames.{found_sound}
use Rattle.gl_demand.proofs.held.override_in.Goals as goal

pub returns-clause-sound : goal.returns-clause-sound
returns-clause-sound c = found_sound c.nearest_override.result (frame_tree c.args.env.now) c.args.a c.requires c.nearest_override.ensures
