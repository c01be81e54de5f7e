-- What becomes of a stack in one turn.
use Rattle.std.specs.Prelude.{◌≡◌, ◌+◌, ◌++◌, List, [], ◌∷◌, length, true, false}
use Rattle.gl_calculus.specs.Computation.Lists.{has_member}
use Rattle.gl_calculus.specs.Grid.Limits.{max_demanded}
use Rattle.gl_calculus.specs.Evaluation.Key.{Key, Outcome, same_key}
use Rattle.gl_calculus.specs.Explanation.Walk.{Claim}
use Rattle.gl_machine.specs.Ahead.Reading.{Nothing}
use Rattle.gl_demand.specs.Marks.{PlainMark}
use Rattle.gl_explain.specs.declared.turning.Turned.{Turned}
use Rattle.gl_explain.specs.declared.turning.Turned.TheVariants.{On, Ended, Full}

-- the last of a list
abbrev pub IsTop : {X : Type 0} → List X → X → Type 0
IsTop {X} xs x = (below : List X) × (xs ≡ below ++ x ∷ [])

-- the top is taken off, and its outcome noted
pub record IsTakenOff (o : Outcome) (done : List (Claim Key Outcome)) (up : List Key) (t : Turned) (more : List (Claim Key Outcome)) (us : List Key) : Type 0 where
  pub goes_on : t ≡ On
  pub top : Key
  pub off : up ≡ us ++ top ∷ []
  pub noted : more ≡ done ++ (top, o) ∷ []

-- A key is put on, with a mark that tells nothing, and the one below it gets this mark; or it is there, or is one too many.
pub data IsPutOn (j : Key) (m : PlainMark) (done : List (Claim Key Outcome)) (up : List Key) (ms : List PlainMark) : Turned → List Key → List PlainMark → Type 0 where
  there : has_member same_key j up ≡ true → IsPutOn j m done up ms Ended up ms
  full : has_member same_key j up ≡ false → length done + length up ≡ max_demanded → IsPutOn j m done up ms Full up ms
  on : has_member same_key j up ≡ false → (length done + length up ≡ max_demanded → ⊥) → IsPutOn j m done up ms On (up ++ j ∷ []) ((ms ++ m ∷ []) ++ (Nothing, 0) ∷ [])
