-- What a graph says of the rows of a ledger.
use Rattle.std.specs.Prelude.{◌≡◌, ◌<◌, ◌≤◌, ◌-◌, ℕ, List, length, take}
use Rattle.gl_calculus.specs.Computation.Lists.{Member}
use Rattle.gl_calculus.specs.Grid.Grid.{Range}
use Rattle.gl_support.specs.Rests.{rest_of, IsSound}
use Rattle.gl_support.specs.declared.rests.Rests.{Rests}
use Rattle.gl_support.specs.declared.row.Row.{Row}
use Rattle.gl_demand.specs.declared.outcome.Outcome.{Outcome}
use Rattle.gl_core.specs.declared.graph.Graph.{Graph}

-- the rests have of each row what it read and looked at
abbrev pub HaveRows : Rests → List (Row Outcome Range) → Type 0
HaveRows s rs = (r : Row Outcome Range) → Member r rs → (r.by < length s.reads.items) × (rest_of s r.by ≡ (r.reads.items, r.looked.items))

-- the graph has as many rows
abbrev pub HasAll : List (Row Outcome Range) → Graph → Type 0
HasAll rs g = g.rows ≡ length rs

-- the graph has the first of these rows
pub record IsGraphOf (rs : List (Row Outcome Range)) (g : Graph) : Type 0 where
  pub sound : IsSound g.rests
  pub few : g.rows ≤ length rs
  pub rows : HaveRows g.rests (take g.rows rs)

-- the same of fewer rows
abbrev pub fewer : ℕ → Graph → Graph
fewer n g = record { rests = g.rests; rows = g.rows - n }
