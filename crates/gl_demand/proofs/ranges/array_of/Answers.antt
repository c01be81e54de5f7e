use Rattle.std.proofs.Common.{◌≡◌, ◌*◌, IsTrue, length, ap, sym, subst, ◌∙◌, arith}
use Rattle.gl_calculus.specs.Evaluation.Sound.{is_sound_value}
use Rattle.gl_value.specs.Forms.{value_tree-Array, trees}
use Rattle.gl_value.specs.View.{array_tree}
use Rattle.gl_lift.proofs.Soundness.{array_is_sound}
use Rattle.gl_demand.proofs.ranges.array_of.Goals as goal

pub returns-in-Ok-clause-sound : goal.returns-in-Ok-clause-sound
returns-in-Ok-clause-sound c =
    let count : length c.args.items.items ≡ c.args.size.rows * c.args.size.cols = omega (arith, c.requires.count, c.args.items.ok.0) in
    subst (λ v. IsTrue (is_sound_value v)) (sym (value_tree-Array c.in-Ok.a ∙ ap array_tree c.in-Ok.ensures.ok ∙ c.new.ensures)) (array_is_sound c.args.size c.args.items.items c.requires.size count c.requires.sound)

pub returns-in-Ok-clause-value : goal.returns-in-Ok-clause-value
returns-in-Ok-clause-value c = grind (arith, trees)
