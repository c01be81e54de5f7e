-- Keys with their outcomes as claims.
use Rattle.std.specs.Prelude.{List, map}
use Rattle.gl_calculus.specs.Evaluation.Key as K
use Rattle.gl_calculus.specs.Explanation.Walk.{Claim}
use Rattle.gl_demand.specs.View.{key_tree, outcome_tree}
use Rattle.gl_demand.specs.declared.key.Key.{Key}
use Rattle.gl_demand.specs.declared.outcome.Outcome.{Outcome}

abbrev pub claim_tree : Key × Outcome → Claim K.Key K.Outcome
claim_tree p = (key_tree p.0, outcome_tree p.1)

abbrev pub claim_trees : List (Key × Outcome) → List (Claim K.Key K.Outcome)
claim_trees ps = map claim_tree ps
