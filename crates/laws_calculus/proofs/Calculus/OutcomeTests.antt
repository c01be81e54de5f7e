-- The test of equality of outcomes answers true exactly at equal outcomes.
use Rattle.std.specs.Prelude.{◌≡◌, true, refl}
use Rattle.std.proofs.Common.{ap}
use Rattle.gl_calculus.specs.Computation.Lists.{IsEquality}
use Rattle.gl_calculus.specs.Evaluation.Key.{Budget, Depth, CopyRounds, Outcome, Settled, Abort}
use Rattle.gl_calculus.specs.Evaluation.SameOutcome.{same_budget, same_outcome}
use Rattle.gl_calculus.proofs.Tests.{value_equality, oracle_equality}

budget_exact : (a b : Budget) → same_budget a b ≡ true → a ≡ b
budget_exact Depth Depth h = refl
budget_exact CopyRounds CopyRounds h = refl
budget_exact Depth CopyRounds h = absurd (cc h)
budget_exact CopyRounds Depth h = absurd (cc h)

budget_same : (a : Budget) → same_budget a a ≡ true
budget_same Depth = refl
budget_same CopyRounds = refl

outcome_exact : (x y : Outcome) → same_outcome x y ≡ true → x ≡ y
outcome_exact (Outcome.Value v) (Outcome.Value u) h = ap Outcome.Value (value_equality.0 v u h)
outcome_exact (Settled o) (Settled p) h = ap Settled (oracle_equality.0 o p h)
outcome_exact (Abort a) (Abort b) h = ap Abort (budget_exact a b h)
outcome_exact x y h = absurd (cc h)

outcome_same : (x : Outcome) → same_outcome x x ≡ true
outcome_same (Outcome.Value v) = value_equality.1 v
outcome_same (Settled o) = oracle_equality.1 o
outcome_same (Abort b) = budget_same b

pub outcome_equality : IsEquality same_outcome
outcome_equality = (outcome_exact, outcome_same)
