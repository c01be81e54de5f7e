-- Rounds: each oracle gives sizes, and their granted permits are the next oracle.
use Rattle.std.specs.Prelude.{◌≢◌, ℕ, suc, Bool, [], Result, Ok}
use Rattle.gl_calculus.specs.Grid.Grid.{Addr, Range}
use Rattle.gl_calculus.specs.Values.Value.{Oracle}
use Rattle.gl_calculus.specs.Evaluation.Oracle.{Sizes, grant}

-- what the call of one round does: the object and the count before it, the oracle, the answer, and the object and the count after it
abbrev pub Calls : Type 0 → Type 0 → Type 0 → Type 1
Calls S C F = S → C → Oracle → Result Sizes F → S → C → Type 0

module _ {S C F : Type 0} (gives : Oracle → Sizes → Type 0) (calls : Calls S C F) (bound : Range) (held : Addr → Bool) (budget : ℕ) (s : S) (c : C) where
  -- The rounds before this one have gone on: its oracle, and the object and the count that their calls left.
  pub data Reaches : ℕ → Oracle → S → C → Type 0 where
    first : Reaches 0 [] s c
    later : {i : ℕ} {w : Oracle} {zs : Sizes} {t t' : S} {d d' : C} → Reaches i w t d → gives w zs → calls t d w (Ok zs) t' d' → grant bound held zs ≢ w → suc i ≢ budget → Reaches (suc i) (grant bound held zs) t' d'

  -- the last call, in round i under w, gave this answer and left this object and this count
  pub record LastCall (i : ℕ) (w : Oracle) (answer : Result Sizes F) (t : S) (d : C) : Type 0 where
    pub object : S
    pub count : C
    pub reached : Reaches i w object count
    pub called : calls object count w answer t d
