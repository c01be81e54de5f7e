use Rattle.std.proofs.Common.{ℕ, ◌<◌, get_or, IsTrue}
use Rattle.gl_calculus.specs.Evaluation.Sound.{is_sound_value}
use Rattle.gl_value.specs.View.{value_tree}
use Rattle.gl_value.specs.declared.Value.{Value}
use Rattle.tests_values.proofs.tests.values.are_sound.Given as goal

abbrev pub invariant-loop-v : goal.invariant-loop-v
invariant-loop-v l = (k : ℕ) (d : Value) → k < l.v-index → IsTrue (is_sound_value (value_tree (get_or l.values k d)))
