use Rattle.std.proofs.lemmas.Result.{IfOk-weaker}
use Rattle.gl_calculus.specs.Values.Lift.{item_or}
use Rattle.std.specs.Bool.{IsTrue}
use Rattle.std.specs.Prelude.{◌≡◌}
use Rattle.gl_calculus.specs.Evaluation.Sound.{is_sound_scalar}
use Rattle.gl_value.specs.View.{scalar_tree, array_tree}
use Rattle.gl_demand.proofs.Showing.{item_or_sound, sound_same}
use Rattle.gl_demand.proofs.shows.element_or.Goals as goal

pub returns-clause-sound : goal.returns-clause-sound
returns-clause-sound c = λ h k.
    IfOk-weaker c.element_of.result (λ x. scalar_tree x ≡ item_or (scalar_tree c.args.beyond) (array_tree c.args.a.now) c.args.i c.args.j) (λ x. IsTrue (is_sound_scalar (scalar_tree x)))
    (λ x e. sound_same (scalar_tree x) (item_or (scalar_tree c.args.beyond) (array_tree c.args.a.now) c.args.i c.args.j) e (item_or_sound (array_tree c.args.a.now) c.args.i c.args.j (scalar_tree c.args.beyond) h k))
    c.element_of.ensures.value
