-- What is known of formula cells, one after another.
use Rattle.std.specs.Prelude.{◌≡◌, ◌⊎◌, ℕ, ◌*◌, ◌%◌, ◌<◌, ◌≤◌, IsFalse, List, length}
use Rattle.std.specs.List.{list_any}
use Rattle.gl_calculus.specs.Formulas.Formula.{Cells, formula_addresses}
use Rattle.gl_calculus.specs.Forecast as Fo
use Rattle.gl_graph.specs.Graph.{Leads, IsPlain}
use Rattle.gl_graph.specs.Search.{origin}
use Rattle.gl_graph.specs.Searches.{IsSearchOf}
use Rattle.gl_graph.specs.declared.search.Search.{Search}
use Rattle.gl_flow.specs.Pieces.{rows_read}
use Rattle.gl_flow.specs.Network.{Plan, top_of, node_steps}
use Rattle.gl_flow.specs.Planning.{IsPlanOf}
use Rattle.gl_flow.specs.Plans.{plan}
use Rattle.gl_flow.specs.declared.network.Network.{Network}

-- all steps of a node, and what it weighs
abbrev pub steps_of : Plan → ℕ → List ℕ
steps_of p m = node_steps p m origin

abbrev pub weight_of : ℕ → ℕ
weight_of m = m % 2

-- the search is one of this network
abbrev pub SearchesIn : Network → Search → Type 0
SearchesIn net s = IsSearchOf (node_steps (plan net)) weight_of (2 * length net.places.items) s

-- no node of the formula cell is in a circle, and its height is this one, where it leads to none
abbrev pub IsLow : Plan → ℕ → ℕ → Type 0
IsLow p k h = (Leads (steps_of p) (2 * k) (2 * k) → ⊥) × IsPlain (steps_of p) weight_of (top_of p k) h

-- some node of it is
abbrev pub IsCircled : Plan → ℕ → Type 0
IsCircled p k = Leads (steps_of p) (2 * k) (2 * k) ⊎ Leads (steps_of p) (top_of p k) (top_of p k)

-- no node of the first formula cells is in a circle, and this is the greatest of their heights
pub record IsSearched (p : Plan) (count height : ℕ) : Type 0 where
  pub low : (j : ℕ) → j < count → (h : ℕ) × IsLow p j h × (h ≤ height)
  pub reached : (height ≡ 0) ⊎ ((j : ℕ) × (j < count) × IsLow p j height)

-- the forecast of each sheet with this plan in which no formula makes sheets
abbrev pub IsForecastOf : Plan → Fo.Forecast → Type 0
IsForecastOf p x =
    (S : Cells) → IsPlanOf S (rows_read p.pieces) p → IsFalse (list_any (Fo.uses_sheets S) (formula_addresses S)) → Fo.IsForecast S x
