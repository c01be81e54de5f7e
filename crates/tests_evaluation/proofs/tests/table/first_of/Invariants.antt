use Rattle.std.proofs.Common.{◌≡◌, drop}
use Rattle.std.specs.List.{find}
use Rattle.gl_calculus.specs.Evaluation.Key.{same_key}
use Rattle.gl_demand.specs.View.{key_tree}
use Rattle.tests_evaluation.proofs.tests.table.first_of.Given as goal

-- none of those so far is told of the key
abbrev pub invariant-loop-x : goal.invariant-loop-x
invariant-loop-x l =
    find (λ x. same_key (key_tree x.key) (key_tree l.k)) (drop l.x-index l.told)
    ≡ find (λ x. same_key (key_tree x.key) (key_tree l.k)) l.told
