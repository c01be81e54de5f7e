-- The plan of a network, and what it keeps so that each step of it is found.
use Rattle.std.specs.Prelude.{◌≡◌, ℕ, ◌≤◌, true, List, map, length, Option, Some, slice_get}
use Rattle.std.specs.declared.vec.Vec.{Vec}
use Rattle.std.specs.declared.alloc.Global.{Global}
use Rattle.gl_calculus.specs.Computation.Lists.{Member}
use Rattle.gl_calculus.specs.Grid.Limits.{max_formulas}
use Rattle.gl_calculus.specs.Grid.Grid.{Addr, Range}
use Rattle.gl_calculus.specs.Formulas.Formula.{Cells, IsSheet, content, formula_addresses}
use Rattle.gl_calculus.specs.Forecast as Fo
use Rattle.gl_calculus.specs.Forecast.{box, content_pieces}
use Rattle.gl_flow.specs.Places.{are_in_order}
use Rattle.gl_flow.specs.Pieces.{piece_lists, without_calls, rows_read, IsRead, AreRead}
use Rattle.gl_flow.specs.Grid.{number_lists, source, IsShaped, IsInRows, AreSources}
use Rattle.gl_flow.specs.Rivals.{AreBottoms}
use Rattle.gl_flow.specs.Network.{Plan}
use Rattle.gl_flow.specs.declared.reading.Piece.{Piece}

abbrev pub plan_of : List Addr → List (Vec Piece Global) → List (Option Range) → List (Vec ℕ Global) → Plan
plan_of places pieces boxes columns = record { places = places; pieces = piece_lists pieces; boxes = boxes; columns = number_lists columns }

-- each formula cell has its pieces and its area, each address that is read lies in the columns, and
-- what it reads of is a formula cell; and the rows that are kept for blocks are those of the areas
pub record IsNetwork (plan : Plan) (rows : List ℕ) : Type 0 where
  pub few : length plan.places ≤ max_formulas
  pub in_order : are_in_order plan.places ≡ true
  pub same_boxes : length plan.boxes ≡ length plan.places
  pub same_pieces : length plan.pieces ≡ length plan.places
  pub read : (k : ℕ) (ps : List Fo.Piece) (r : Range) → slice_get plan.pieces k ≡ Some ps → Member (Fo.Piece.Reads r) ps → IsRead r × (r.last.row ≤ rows_read plan.pieces)
  pub shaped : IsShaped (rows_read plan.pieces) plan.columns
  pub sources : (a : Addr) → IsInRows (rows_read plan.pieces) a → source plan.columns a ≤ length plan.places
  pub bottoms : AreBottoms plan.boxes rows

-- what a plan of a sheet says
pub record IsPlanOf (S : Cells) (rows : ℕ) (plan : Plan) : Type 0 where
  pub ordered : IsSheet S
  pub places : plan.places ≡ formula_addresses S
  pub in_order : are_in_order plan.places ≡ true
  pub boxes : plan.boxes ≡ map (box S) plan.places
  pub pieces : plan.pieces ≡ map (λ a. without_calls (content_pieces S (content S a))) plan.places
  pub read : AreRead plan.pieces
  pub lowest : rows ≡ rows_read plan.pieces
  pub sources : AreSources S plan.places plan.boxes rows plan.columns
