-- What stands in formulas, as the code keeps it.
use Rattle.std.specs.Prelude.{ℕ, ◌≤◌, max, List, [], ◌∷◌, map, Option, Some, None}
use Rattle.std.specs.List.{AllByRecursion}
use Rattle.std.specs.declared.vec.Vec.{Vec}
use Rattle.std.specs.declared.alloc.Global.{Global}
use Rattle.gl_calculus.specs.Grid.Grid.{Range}
use Rattle.gl_calculus.specs.Formulas.Formula.{Formula}
use Rattle.gl_calculus.specs.Grid.Limits.{grid_rows, grid_cols}
use Rattle.gl_calculus.specs.Forecast as Fo
use Rattle.gl_flow.specs.declared.reading.Piece.{Piece}
use Rattle.gl_flow.specs.declared.reading.Piece.TheVariants.{Reads, Spills}

-- all but the calls, on which nothing depends
abbrev pub without_calls : List Fo.Piece → List Fo.Piece
without_calls [] = []
without_calls (Fo.Piece.Reads r ∷ ps) = Fo.Piece.Reads r ∷ without_calls ps
without_calls (Fo.Piece.Spills a ∷ ps) = Fo.Piece.Spills a ∷ without_calls ps
without_calls (Fo.Piece.Calls f ∷ ps) = without_calls ps

abbrev pub piece_tree : Piece → Fo.Piece
piece_tree (Reads r) = Fo.Piece.Reads r
piece_tree (Spills a) = Fo.Piece.Spills a

abbrev pub piece_trees : List Piece → List Fo.Piece
piece_trees ps = map piece_tree ps

abbrev pub piece_lists : List (Vec Piece Global) → List (List Fo.Piece)
piece_lists all = map (λ (v : Vec Piece Global). piece_trees v.items) all

-- what stands in the formula, where there is one
abbrev pub pieces_in : Option Formula → List Fo.Piece
pieces_in (Some f) = without_calls (Fo.pieces f)
pieces_in None = []

-- the last row that is read, or 0: of a piece, of a formula, of all formulas
abbrev pub piece_last : Fo.Piece → ℕ
piece_last (Fo.Piece.Reads r) = r.last.row
piece_last (Fo.Piece.Spills a) = 0
piece_last (Fo.Piece.Calls f) = 0

abbrev pub last_read : List Fo.Piece → ℕ
last_read [] = 0
last_read (p ∷ ps) = max (piece_last p) (last_read ps)

abbrev pub rows_read : List (List Fo.Piece) → ℕ
rows_read [] = 0
rows_read (ps ∷ pss) = max (last_read ps) (rows_read pss)

-- the range lies on the grid
pub record IsRead (r : Range) : Type 0 where
  pub top : 1 ≤ r.first.row
  pub rows : r.first.row ≤ r.last.row
  pub bottom : r.last.row ≤ grid_rows
  pub left : 1 ≤ r.first.col
  pub cols : r.first.col ≤ r.last.col
  pub right : r.last.col ≤ grid_cols

abbrev pub IsReadPiece : Fo.Piece → Type 0
IsReadPiece (Fo.Piece.Reads r) = IsRead r
IsReadPiece (Fo.Piece.Spills a) = Unit {0}
IsReadPiece (Fo.Piece.Calls f) = Unit {0}

abbrev pub AreReadPieces : List Fo.Piece → Type 0
AreReadPieces ps = AllByRecursion IsReadPiece ps

abbrev pub AreRead : List (List Fo.Piece) → Type 0
AreRead pss = AllByRecursion AreReadPieces pss
