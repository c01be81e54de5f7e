use Rattle.std.proofs.Common.{◌≡◌, ◌+◌, ◌++◌, ℕ, map, vec_len, IsTrue}
use Rattle.std.specs.List.{range_with_len}
use Rattle.gl_calculus.specs.Values.Value as V
use Rattle.gl_value.specs.View.{scalar_tree, item_trees}
use Rattle.gl_calculus.specs.Evaluation.Sound.{are_sound}
use Rattle.gl_lift.specs.Rules.{ComputesAt, AnswersSoundAt}
use Rattle.gl_lift.proofs.build.push_row.Given as goal

abbrev pub invariant-loop-j : goal.invariant-loop-j
invariant-loop-j g l =
    (vec_len l.items ≡ vec_len l.initial.items + l.j)
    × ((rule : ℕ → ℕ → V.Scalar) → ComputesAt g.F.Fn l.element rule → map scalar_tree l.items.items ≡ map scalar_tree l.initial.items.items ++ map (rule l.i) (range_with_len 0 l.j))
    × (AnswersSoundAt g.F.Fn l.element → IsTrue (are_sound (item_trees l.initial.items.items)) → IsTrue (are_sound (item_trees l.items.items)))
