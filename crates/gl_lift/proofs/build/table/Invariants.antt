use Rattle.std.proofs.Common.{◌≡◌, ◌*◌, ℕ, map, vec_len, IsTrue}
use Rattle.std.specs.List.{range_with_len, flat_map}
use Rattle.gl_calculus.specs.Values.Value as V
use Rattle.gl_value.specs.View.{scalar_tree, item_trees}
use Rattle.gl_calculus.specs.Evaluation.Sound.{are_sound}
use Rattle.gl_lift.specs.Rules.{ComputesAt, AnswersSoundAt}
use Rattle.gl_lift.proofs.build.table.Given as goal

abbrev pub invariant-loop-i : goal.invariant-loop-i
invariant-loop-i g l =
    (vec_len l.items ≡ l.i * l.cols)
    × ((rule : ℕ → ℕ → V.Scalar) → ComputesAt g.F.Fn l.element rule → map scalar_tree l.items.items ≡ flat_map (λ i. map (rule i) (range_with_len 0 l.cols)) (range_with_len 0 l.i))
    × (AnswersSoundAt g.F.Fn l.element → IsTrue (are_sound (item_trees l.items.items)))
