use Rattle.std.proofs.Common.{subst, sym}
use Rattle.gl_calculus.specs.Evaluation.Sound.{is_sound_frame}
use Rattle.std.specs.Bool.{IsTrue}
use Rattle.gl_value.specs.View.{frame_tree}
use Rattle.gl_demand.proofs.Frames.{home_sound}
use Rattle.gl_demand.proofs.reading.sound_home.Goals as goal

pub returns-clause-sound : goal.returns-clause-sound
returns-clause-sound c = subst (λ e. IsTrue (is_sound_frame e)) (sym c.home.ensures) (home_sound (frame_tree c.args.env.now) c.args.a c.requires)
