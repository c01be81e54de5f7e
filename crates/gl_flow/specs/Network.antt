-- What depends on what, as steps between numbers: the value of formula cell k has the number 2k, and
-- its entry 2k + 1.
use Rattle.std.specs.Prelude.{◌≡◌, ℕ, zero, suc, ◌+◌, ◌-◌, ◌*◌, ◌/◌, ◌%◌, ◌==◌, Bool, List, [], ◌∷◌, ◌++◌, map, flat_map, filter, drop, get_or, Option, Some, None, option_map, if◌then◌else◌}
use Rattle.std.specs.List.{range_with_len}
use Rattle.gl_calculus.specs.Grid.Grid.{Addr, addr, same_addr, Range, addresses}
use Rattle.gl_calculus.specs.Forecast as Fo
use Rattle.gl_calculus.specs.Forecast.{Node}
use Rattle.gl_graph.specs.declared.graph.Place.{Place}
use Rattle.gl_flow.specs.Grid.{source}
use Rattle.gl_flow.specs.Rivals.{meets_box}

-- what the steps are read off: the formula cells, with what stands in them and their areas, and what
-- each address reads of
pub record Plan : Type 0 where
  pub places : List Addr
  pub pieces : List (List Fo.Piece)
  pub boxes : List (Option Range)
  pub columns : List (List ℕ)

-- the number of an address
abbrev pub number_in : List Addr → Addr → Option ℕ
number_in [] a = None
number_in (p ∷ ps) a = if same_addr p a then Some 0 else option_map suc (number_in ps a)

-- the node on which what reads a formula cell depends first: its entry, where it may have one
abbrev pub top_node : ℕ → Option Range → ℕ
top_node k None = 2 * k
top_node k (Some b) = 2 * k + 1

module _ (plan : Plan) where
  abbrev pub box_of : ℕ → Option Range
  box_of k = get_or plan.boxes k None

  abbrev pub top_of : ℕ → ℕ
  top_of k = top_node k (box_of k)

  -- from an address, by what it reads of
  abbrev pub source_steps : ℕ → List ℕ
  source_steps zero = []
  source_steps (suc k) = top_of k ∷ []

  abbrev pub address_steps : Addr → List ℕ
  address_steps a = source_steps (source plan.columns a)

  -- from `a#`
  abbrev pub number_steps : Option ℕ → List ℕ
  number_steps None = []
  number_steps (Some k) = top_of k ∷ []

  abbrev pub spill_steps : Addr → ℕ → List ℕ
  spill_steps a zero = number_steps (number_in plan.places a)
  spill_steps a (suc i) = []

  -- from a piece, from this place in it on
  abbrev pub piece_steps : Fo.Piece → ℕ → List ℕ
  piece_steps (Fo.Piece.Reads r) i = flat_map address_steps (drop i (addresses r))
  piece_steps (Fo.Piece.Spills a) i = spill_steps a i
  piece_steps (Fo.Piece.Calls f) i = []

  abbrev pub first_steps : List Fo.Piece → ℕ → List ℕ
  first_steps [] i = []
  first_steps (p ∷ ps) i = piece_steps p i ++ flat_map (λ q. piece_steps q 0) ps

  -- from a value, from this place of this piece on
  abbrev pub value_steps : ℕ → ℕ → ℕ → List ℕ
  value_steps k part i = first_steps (drop part (get_or plan.pieces k [])) i

  -- to the earlier formula cells whose areas meet this one, from this one on
  abbrev pub is_rival : Range → ℕ → Bool
  is_rival r j = meets_box plan.boxes r j

  abbrev pub rival_steps : ℕ → Option Range → ℕ → List ℕ
  rival_steps k None i = []
  rival_steps k (Some r) i = map (λ j. 2 * j + 1) (filter (is_rival r) (range_with_len i (k - i)))

  -- from an entry: to its value first
  abbrev pub entry_steps : ℕ → ℕ → ℕ → List ℕ
  entry_steps k zero i = 2 * k ∷ rival_steps k (box_of k) 0
  entry_steps k (suc part) i = rival_steps k (box_of k) i

  -- both from a place
  abbrev pub steps_of_value : ℕ → Place → List ℕ
  steps_of_value k p = value_steps k p.part p.offset

  abbrev pub steps_of_entry : ℕ → Place → List ℕ
  steps_of_entry k p = entry_steps k p.part p.offset

  -- from any node
  abbrev pub node_steps : ℕ → Place → List ℕ
  node_steps m p = if (m % 2) == 0 then value_steps (m / 2) p.part p.offset else entry_steps (m / 2) p.part p.offset

  -- the node of a number
  abbrev pub node_of : ℕ → Node
  node_of m = if (m % 2) == 0 then Node.Value (get_or plan.places (m / 2) (addr 0 0)) else Node.Entry (get_or plan.places (m / 2) (addr 0 0))

-- the steps from a place are this one, and then those from this place behind it
abbrev pub Takes : {P : Type 0} → (P → List ℕ) → P → ℕ × P → Type 0
Takes left p s = left p ≡ s.0 ∷ left s.1
