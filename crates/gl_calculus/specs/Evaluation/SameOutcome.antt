-- Equality of outcomes by structure, as a test.
use Rattle.std.specs.Prelude.{Bool, true, false}
use Rattle.gl_calculus.specs.Evaluation.Key.{Budget, Depth, CopyRounds, Outcome, Settled, Abort}
use Rattle.gl_calculus.specs.Values.Same.{same_value, same_oracle}

abbrev pub same_budget : Budget → Budget → Bool
same_budget Depth Depth = true
same_budget CopyRounds CopyRounds = true
same_budget a b = false

abbrev pub same_outcome : Outcome → Outcome → Bool
same_outcome (Outcome.Value v) (Outcome.Value u) = same_value v u
same_outcome (Settled o) (Settled p) = same_oracle o p
same_outcome (Abort a) (Abort b) = same_budget a b
same_outcome x y = false
