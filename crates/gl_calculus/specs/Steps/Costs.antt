-- The steps of a round that begins with what is kept.
use Rattle.std.specs.Prelude.{ℕ, ◌+◌, ◌-◌, ◌^◌, ◌≤◌, ◌<◌, List, length}
use Rattle.gl_calculus.specs.Computation.Lists.{Member, AreDistinct}
use Rattle.gl_calculus.specs.Computation.Query.{Has}
use Rattle.gl_calculus.specs.Grid.Limits.{kept_rounds}
use Rattle.gl_calculus.specs.Grid.Grid.{Addr}
use Rattle.gl_calculus.specs.Evaluation.Key.{Key, Outcome}
use Rattle.gl_calculus.specs.Evaluation.World.{World}
use Rattle.gl_calculus.specs.Evaluation.Evaluation.{program}
use Rattle.gl_calculus.specs.Calculation.Calculation.{DemandedIn}
use Rattle.gl_calculus.specs.Calculation.Memory.{Table, IsKeptKey}
use Rattle.gl_calculus.specs.Steps.Allowance.{Allows, HasReads}

-- the round demands the key, and it isn't kept
abbrev pub IsAnew : World → Table × List Addr → Key → Type 0
IsAnew W b k = DemandedIn W k × (IsKeptKey b.0 b.1 W.oracle k → ⊥)

-- at least one step for each of any such keys that have outcomes, below the last count
abbrev pub CountsEach : World → Table × List Addr → ℕ → ℕ → Type 0
CountsEach W b n m =
    (ks : List Key) → AreDistinct ks →
    ((k : Key) → Member k ks → IsAnew W b k × ((o : Outcome) × Has (program W) k o)) →
    m < 2 ^ 64 - 1 → n + length ks ≤ m

-- The steps of round i, begun with a table and with what was touched since, go from n to m: as keys
-- allow that are demanded, not kept, and have reads; and where tables are kept, each one counts.
abbrev pub Finishes : World → Table × List Addr → (round : ℕ) → ℕ → ℕ → Type 0
Finishes W b i n m =
    Allows W (λ k. IsAnew W b k × HasReads W k) n m × (i < kept_rounds → CountsEach W b n m)

-- the steps of a round that spends its work
abbrev pub Breaks : World → Table × List Addr → ℕ → ℕ → Type 0
Breaks W b n m = Allows W (IsAnew W b) n m
