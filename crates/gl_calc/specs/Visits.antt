-- What a visit of a formula cell adds to the sizes of a round, by the cell's status in the quiet core.
use Rattle.std.specs.Prelude.{◌≡◌, ℕ, List, [], ◌∷◌, ◌++◌, slice_get, option_map, Option, Some, None, Result, Ok, Err}
use Rattle.std.specs.List.{AllByRecursion}
use Rattle.gl_machine.specs.Machine.{Status, Resolved}
use Rattle.gl_calculus.specs.Grid.Grid.{Addr}
use Rattle.gl_calculus.specs.Values.Value as V
use Rattle.gl_calculus.specs.Evaluation.Oracle.{Sizes}
use Rattle.gl_calculus.specs.Evaluation.Key.{Key, Cell, Budget, Outcome, Abort}
use Rattle.gl_core.specs.State.{State}
use Rattle.gl_calculus.specs.Calculation.Calculation.{Arrays, FirstAbort, TopFails, is_abort}
use Rattle.gl_calculus.specs.Evaluation.World.{World}
use Rattle.gl_calc.specs.declared.ending.RoundFault.{RoundFault}
use Rattle.gl_calc.specs.declared.ending.RoundFault.TheVariants as fault

-- the status of the key at a place
abbrev pub status_at : State → ℕ → Option (Status Key Outcome)
status_at st i = option_map (λ x. x.status) (slice_get st i)

-- the keys of these formula cells stand first among the known ones
abbrev pub StandFirst : List Addr → State → Type 0
StandFirst [] st = Unit {0}
StandFirst (a ∷ rest) [] = ⊥
StandFirst (a ∷ rest) (x ∷ xs) = (x.key ≡ Cell V.Top a) × StandFirst rest xs

-- the size of an array
abbrev pub sizes_by : Addr → Option (Status Key Outcome) → Sizes
sizes_by a (Some (Resolved (Outcome.Value (V.Array z xs)))) = (a, z) ∷ []
sizes_by a s = []

-- the budget that was spent
abbrev pub budget_by : Option (Status Key Outcome) → Option Budget
budget_by (Some (Resolved (Abort b))) = Some b
budget_by s = None

abbrev pub Visits : Addr → Option (Status Key Outcome) → Sizes → Result (Unit {0}) RoundFault → Sizes → Type 0
Visits a s old (Ok u) new = (budget_by s ≡ None) × (new ≡ old ++ sizes_by a s)
Visits a s old (Err fault.Work) new = ⊥
Visits a s old (Err (fault.Depth c)) new = (c ≡ a) × (budget_by s ≡ Some Budget.Depth)
Visits a s old (Err (fault.CopyRounds c)) new = (c ≡ a) × (budget_by s ≡ Some Budget.CopyRounds)
Visits a s old (Err fault.NoMemory) new = Unit {0}

-- the sizes of the arrays among these formula cells, or the first that ended as spent
abbrev pub Collects : World → List Addr → Result Sizes RoundFault → Type 0
Collects W places (Ok zs) = Arrays W places zs × AllByRecursion (TopFails W is_abort) places
Collects W places (Err fault.Work) = ⊥
Collects W places (Err (fault.Depth a)) = FirstAbort W places a Budget.Depth
Collects W places (Err (fault.CopyRounds a)) = FirstAbort W places a Budget.CopyRounds
Collects W places (Err fault.NoMemory) = Unit {0}
