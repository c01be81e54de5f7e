-- How far the walk from a key has come, by its notes as they were made and its stack from the bottom
-- up.
use Rattle.std.specs.Prelude.{◌≡◌, ℕ, ◌+◌, ◌*◌, ◌-◌, ◌≤◌, List, [], ◌∷◌, length, true, false}
use Rattle.gl_calculus.specs.Computation.Demanded.{Demanded}
use Rattle.gl_calculus.specs.Grid.Limits.{max_demanded}
use Rattle.gl_calculus.specs.Evaluation.Key.{Key, Outcome, same_key}
use Rattle.gl_calculus.specs.Evaluation.SameOutcome.{same_outcome}
use Rattle.gl_calculus.specs.Evaluation.World.{World}
use Rattle.gl_calculus.specs.Evaluation.Evaluation.{program}
use Rattle.laws_calculus.proofs.Calculus.OutcomeTests.{outcome_equality}
use Rattle.laws_calculus.proofs.Calculus.Proper.{asks_proper}
use Rattle.gl_calculus.proofs.Tests.{key_equality}
use Rattle.gl_calculus.specs.Explanation.Walk.{Claim, Explained, Exhausted, IsWalk}
use Rattle.gl_calculus.specs.Steps.Allowance.{Allows}
use Rattle.gl_calculus.specs.Steps.Walk.{IsExplainedKey}
use Rattle.gl_calculus.specs.Explanation.Certificate.{is_proper}
use Rattle.laws_calculus.proofs.Explanation.Explaining.{asks_test}
use Rattle.laws_calculus.proofs.Explanation.Going as Go
use Rattle.gl_explain.specs.declared.turning.Turned.{Turned}
use Rattle.gl_explain.specs.declared.turning.Turned.TheVariants.{On, Ended, Full}

module _ (W : World) (root : Key) where
  -- the walk from the root with n steps at its start has come so far, with m steps
  pub record IsWalking (n m : ℕ) (done : List (Claim Key Outcome)) (up : List Key) : Type 0 where
    pub fine : is_proper W.sheet root ≡ true
    pub so_far : Go.IsWalking same_key same_outcome (is_proper W.sheet) max_demanded (program W) key_equality outcome_equality (λ k. asks_test W.sheet (asks_proper W.sheet W.oracle W.version k)) root fine n m done up
    pub later : n ≤ m

  -- it has ended with these notes and loops
  pub record HasEnded (n m : ℕ) (done : List (Claim Key Outcome)) (up : List Key) : Type 0 where
    pub walked : IsWalk same_key max_demanded (program W) (root ∷ []) (Explained done up)
    pub allows : Allows W (IsExplainedKey W done up) n m

  -- or at the limit
  pub record IsFull (n m : ℕ) : Type 0 where
    pub walked : IsWalk same_key max_demanded (program W) (root ∷ []) Exhausted
    pub allows : Allows W (Demanded (program W) (root ∷ [])) n m

  -- where it stands after a turn
  abbrev pub IsTurned : ℕ → ℕ → List (Claim Key Outcome) → List Key → Turned → Type 0
  IsTurned n m done up On = IsWalking n m done up
  IsTurned n m done up Ended = HasEnded n m done up
  IsTurned n m done up Full = IsFull n m

-- what falls in each turn after which the walk goes on
abbrev pub left : List (Claim Key Outcome) → List Key → ℕ
left done up = 2 * (max_demanded - (length done + length up)) + length up
