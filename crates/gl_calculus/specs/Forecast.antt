-- The forecast of a sheet: whether its calculation surely settles, told from its formulas alone.
use Rattle.std.specs.Prelude.{◌≡◌, ◌⊎◌, ◌≤◌, ℕ, zero, suc, ◌+◌, max, min, nat_lt, nat_le, pos, Bool}
use Rattle.std.specs.Prelude.{true, false, ◌&&◌, IsTrue, IsFalse, List, [], ◌∷◌, ◌++◌, map}
use Rattle.std.specs.Prelude.{flat_map, filter, Option, Some, None, option_map, bytes_eq}
use Rattle.std.specs.Prelude.{if◌then◌else◌}
use Rattle.std.specs.List.{list_any}
use Rattle.std.specs.Option.{option_to_list}
use Rattle.gl_calculus.specs.Computation.Lists.{Member}
use Rattle.gl_calculus.specs.Grid.Limits.{max_cells}
use Rattle.gl_calculus.specs.Grid.Grid.{Addr, is_before, Range, single, Size, size, extents, area}
use Rattle.gl_calculus.specs.Grid.Grid.{addresses, covers, meets}
use Rattle.gl_calculus.specs.Formulas.Formula.{Formula, Formulas, Operands, Fun, Content, Form}
use Rattle.gl_calculus.specs.Formulas.Formula.{Cells, content, formula_addresses, Sum, Count, Min}
use Rattle.gl_calculus.specs.Formulas.Formula.{Max, And, Or, Rows, Columns, Index, Lookup, Na, This}
use Rattle.gl_calculus.specs.Formulas.Formula.{Sequence, Transpose, Unique, Take, Drop, Filter}
use Rattle.gl_calculus.specs.Formulas.Formula.{HStack, VStack, Sheet, Update, View, G}
use Rattle.gl_calculus.specs.Formulas.Formula as F
use Rattle.gl_calculus.specs.Values.Lift.{hull}

-- ---- shapes

-- the extents that a value has at most; none of what surely is a scalar
abbrev pub Shape : Type 0
Shape = Option Size

-- the extents of a shape, where a scalar counts as one row and one column
abbrev pub size_of : Shape → Size
size_of None = size 1 1
size_of (Some s) = s

-- the extents, none of them above the cells that an array may have, since no array has more
abbrev pub limited : Size → Size
limited s = size (min s.rows max_cells) (min s.cols max_cells)

-- extents that no array exceeds
abbrev pub any_size : Size
any_size = size max_cells max_cells

-- the greater extents of two shapes; none where both have none
abbrev pub greater_shape : Shape → Shape → Shape
greater_shape None None = None
greater_shape s t = Some (hull (size_of s) (size_of t))

-- the greatest extents of some shapes; none where all have none
abbrev pub greatest_shape : List Shape → Shape
greatest_shape [] = None
greatest_shape (s ∷ ss) = greater_shape s (greatest_shape ss)

-- rows and columns exchanged
abbrev pub flipped : Size → Size
flipped s = size s.cols s.rows

-- the extents of VSTACK: the sum of the rows, the greatest columns
abbrev pub vstack_size : List Shape → Size
vstack_size [] = size 0 0
vstack_size (s ∷ ss) =
    size ((size_of s).rows + (vstack_size ss).rows) (max (size_of s).cols (vstack_size ss).cols)

-- the extents of HSTACK: the greatest rows, the sum of the columns
abbrev pub hstack_size : List Shape → Size
hstack_size ss = flipped (vstack_size (map (option_map flipped) ss))

-- the extent that a formula is where it is an integer as written, from 1 to the cells of an array
abbrev pub written_extent : Formula → Option ℕ
written_extent (F.Formula.Int (pos n)) = if nat_lt 0 n && nat_le n max_cells then Some n else None
written_extent f = None

-- these two extents; any where one is missing
abbrev pub written_size : Option ℕ → Option ℕ → Size
written_size (Some m) (Some n) = size m n
written_size m n = any_size

-- the extents of SEQUENCE by its arguments: those written, or any
abbrev pub sequence_size : Formulas → Size
sequence_size (F.Formulas.formula_and m (F.Formulas.formula_and n F.Formulas.no_formula)) =
    written_size (written_extent m) (written_extent n)
sequence_size fs = any_size

-- the shape of a call, by its arguments as they are written and by their shapes
abbrev pub call_shape : Fun → Formulas → List Shape → Shape
-- a scalar, whatever the arguments are
call_shape Sum fs ss = None
call_shape Count fs ss = None
call_shape Min fs ss = None
call_shape Max fs ss = None
call_shape And fs ss = None
call_shape Or fs ss = None
call_shape Rows fs ss = None
call_shape Columns fs ss = None
call_shape Index fs ss = None
call_shape Lookup fs ss = None
call_shape Na fs ss = None
call_shape This fs ss = None
-- by a rule of its own
call_shape Sequence fs ss = Some (sequence_size fs)
call_shape Transpose fs (s ∷ ss) = option_map flipped s
call_shape Unique fs (s ∷ ss) = s
call_shape Take fs (s ∷ ss) = Some (size_of s)
call_shape Drop fs (s ∷ ss) = Some (size_of s)
call_shape Filter fs (s ∷ ss) = Some (size_of s)
call_shape HStack fs ss = Some (limited (hstack_size ss))
call_shape VStack fs ss = Some (limited (vstack_size ss))
-- at most the greatest of the arguments
call_shape f fs ss = greatest_shape ss

-- the variables that are bound, each with its shape, the innermost first
abbrev pub Shapes : Type 0
Shapes = List (List ℕ × Shape)

-- the shape of a variable
abbrev pub bound_shape : Shapes → List ℕ → Shape
bound_shape [] name = None
bound_shape (b ∷ bs) name = if bytes_eq b.0 name then b.1 else bound_shape bs name

module _ (spilled : Addr → Shape) where
  abbrev mutual
    -- the shape of a formula, by that of `a#` for each address and by those of its variables
    pub shape : Shapes → Formula → Shape
    shape bs (F.Formula.Int n) = None
    shape bs (F.Formula.Text t) = None
    shape bs (F.Formula.Bool b) = None
    shape bs (F.Formula.At a) = None
    shape bs (F.Formula.Spill a) = spilled a
    shape bs (F.Formula.Area r) = Some (limited (extents r))
    shape bs (F.Formula.Var name) = bound_shape bs name
    shape bs (F.Formula.Neg f) = shape bs f
    shape bs (F.Formula.Chain level f rest) = greatest_shape (shape bs f ∷ operand_shapes bs rest)
    shape bs (F.Formula.Compare op f g) = greater_shape (shape bs f) (shape bs g)
    shape bs (F.Formula.Call f xs) = call_shape f xs (shapes bs xs)
    shape bs (F.Formula.Let name f body) = shape ((name, shape bs f) ∷ bs) body

    -- the shapes of arguments
    pub shapes : Shapes → Formulas → List Shape
    shapes bs F.Formulas.no_formula = []
    shapes bs (F.Formulas.formula_and f fs) = shape bs f ∷ shapes bs fs

    -- the shapes of the operands behind the first
    pub operand_shapes : Shapes → Operands → List Shape
    operand_shapes bs F.Operands.no_operand = []
    operand_shapes bs (F.Operands.operand_and op f rest) = shape bs f ∷ operand_shapes bs rest

-- the shape of a content: that of its formula, none of anything else
abbrev pub content_shape : (Addr → Shape) → Option Content → Shape
content_shape spilled (Some (Form f)) = shape spilled [] f
content_shape spilled c = None

-- the shape of `a#`, followed through so many levels of `#`; any beyond
abbrev pub spilled_shape : Cells → ℕ → Addr → Shape
spilled_shape S zero a = Some any_size
spilled_shape S (suc n) a = content_shape (spilled_shape S n) (content S a)

-- the levels of `#` that are followed from a formula cell on
abbrev pub max_levels : ℕ
max_levels = 16

-- the shape of a formula cell
abbrev pub cell_shape : Cells → Addr → Shape
cell_shape S a = spilled_shape S (suc max_levels) a

-- the box of a formula cell: the area that it may spill over, also past the grid
abbrev pub box : Cells → Addr → Option Range
box S a = option_map (area a) (cell_shape S a)

-- ---- dependences

-- what stands in a formula: an address or a range that is read, `a#`, or a call
pub data Piece : Type 0 where
  Reads : Range → Piece
  Spills : Addr → Piece
  Calls : Fun → Piece

abbrev mutual
  -- all that stands in a formula, whether its evaluation reaches it or not
  pub pieces : Formula → List Piece
  pieces (F.Formula.Int n) = []
  pieces (F.Formula.Text t) = []
  pieces (F.Formula.Bool b) = []
  pieces (F.Formula.At a) = Reads (single a) ∷ []
  pieces (F.Formula.Spill a) = Spills a ∷ []
  pieces (F.Formula.Area r) = Reads r ∷ []
  pieces (F.Formula.Var name) = []
  pieces (F.Formula.Neg f) = pieces f
  pieces (F.Formula.Chain level f rest) = pieces f ++ operand_pieces rest
  pieces (F.Formula.Compare op f g) = pieces f ++ pieces g
  pieces (F.Formula.Call f xs) = Calls f ∷ all_pieces xs
  pieces (F.Formula.Let name f body) = pieces f ++ pieces body

  -- what stands in arguments
  pub all_pieces : Formulas → List Piece
  all_pieces F.Formulas.no_formula = []
  all_pieces (F.Formulas.formula_and f fs) = pieces f ++ all_pieces fs

  -- what stands in the operands behind the first
  pub operand_pieces : Operands → List Piece
  operand_pieces F.Operands.no_operand = []
  operand_pieces (F.Operands.operand_and op f rest) = pieces f ++ operand_pieces rest

-- the value of a formula cell, or its entry in the oracle, which has its size and its permit
pub data Node : Type 0 where
  Value Entry : Addr → Node

-- how many entries a node is
abbrev pub entries_in : Node → ℕ
entries_in (Value a) = 0
entries_in (Entry a) = 1

module _ (S : Cells) where
  -- the nodes of a formula cell; one that surely has a scalar has no entry
  abbrev pub cell_nodes : Addr → List Node
  cell_nodes a = Value a ∷ map (λ r. Entry a) (option_to_list (box S a))

  -- the nodes of all formula cells
  abbrev pub nodes : List Node
  nodes = flat_map cell_nodes (formula_addresses S)

  -- the cell has a box that the test accepts
  abbrev pub has_box : (Range → Bool) → Addr → Bool
  has_box test a = list_any test (option_to_list (box S a))

  -- the formula cells whose box covers the address
  abbrev pub covering : Addr → List Addr
  covering a = filter (has_box (λ b. covers b a)) (formula_addresses S)

  -- what `a#` depends on, by the content of the address: nothing without a formula
  abbrev pub spill_nodes : Addr → Option Content → List Node
  spill_nodes a (Some (Form f)) = cell_nodes a
  spill_nodes a c = []

  -- what the value of an address with this content depends on: the formula there, or, without
  -- content, what may spill over it
  abbrev pub address_nodes : Addr → Option Content → List Node
  address_nodes a None = flat_map cell_nodes (covering a)
  address_nodes a c = spill_nodes a c

  -- what a piece of a formula depends on
  abbrev pub piece_nodes : Piece → List Node
  piece_nodes (Reads r) = flat_map (λ a. address_nodes a (content S a)) (addresses r)
  piece_nodes (Spills a) = spill_nodes a (content S a)
  piece_nodes (Calls f) = []

  -- what stands in a content: something only in a formula
  abbrev pub content_pieces : Option Content → List Piece
  content_pieces (Some (Form f)) = pieces f
  content_pieces c = []

  -- the formula cells before this one, in row-major order, whose boxes meet this box
  abbrev pub rivals : Addr → Range → List Addr
  rivals a r = filter (λ b. is_before b a && has_box (meets r) b) (formula_addresses S)

  -- what a node depends on: a value on what stands in its formula, an entry on the value of its
  -- cell and on the entries of the rivals
  abbrev pub dependences : Node → List Node
  dependences (Value a) = flat_map piece_nodes (content_pieces (content S a))
  dependences (Entry a) =
      Value a ∷ flat_map (λ r. map Entry (rivals a r)) (option_to_list (box S a))

  -- the first node depends on the second by one step or more
  pub data Leads : Node → Node → Type 0 where
    once : {m n : Node} → Member n (dependences m) → Leads m n
    further : {l m n : Node} → Member m (dependences l) → Leads m n → Leads l n

  -- from the node on there is a path of dependences with so many entries on it, its own among them
  pub data Path : Node → ℕ → Type 0 where
    ends : {n : Node} → Path n (entries_in n)
    goes : {m n : Node} {h : ℕ} → Member n (dependences m) → Path n h → Path m (entries_in m + h)

  -- the greatest number of entries on one path, 0 where there is none
  pub record IsHeight (h : ℕ) : Type 0 where
    pub reached : (h ≡ 0) ⊎ ((n : Node) × Member n nodes × Path n h)
    pub most : (n : Node) (k : ℕ) → Member n nodes → Path n k → k ≤ h

  -- some node of the cell depends on itself
  abbrev pub IsInCircle : Addr → Type 0
  IsInCircle a = (n : Node) × Member n (cell_nodes a) × Leads n n

-- ---- the forecast

-- a piece that is a call of SHEET, UPDATE, VIEW or G
abbrev pub piece_makes : Piece → Bool
piece_makes (Calls Sheet) = true
piece_makes (Calls Update) = true
piece_makes (Calls View) = true
piece_makes (Calls G) = true
piece_makes p = false

-- the address has a formula that calls one of these four
abbrev pub uses_sheets : Cells → Addr → Bool
uses_sheets S a = list_any piece_makes (content_pieces S (content S a))

-- yes, with a height; or a cell that is in a circle; or a cell that makes sheets, where nothing is
-- told
pub data Forecast : Type 0 where
  Yes : (height : ℕ) → Forecast
  Circle Unknown : Addr → Forecast

-- the address is the first of these with the property: those before it don't have it
pub data First (P : Addr → Type 0) : List Addr → Addr → Type 0 where
  here : {a : Addr} {rest : List Addr} → P a → First P (a ∷ rest) a
  behind : {a b : Addr} {rest : List Addr} → (P b → ⊥) → First P rest a → First P (b ∷ rest) a

module _ (S : Cells) where
  -- the forecast of a sheet: unknown where some formula makes sheets; else a circle where some
  -- node depends on itself; else yes
  pub data IsForecast : Forecast → Type 0 where
    unknown : {a : Addr} → First (λ a. IsTrue (uses_sheets S a)) (formula_addresses S) a →
        IsForecast (Unknown a)
    circle : {a : Addr} → IsFalse (list_any (uses_sheets S) (formula_addresses S)) →
        First (IsInCircle S) (formula_addresses S) a → IsForecast (Circle a)
    yes : {h : ℕ} → IsFalse (list_any (uses_sheets S) (formula_addresses S)) →
        ((n : Node) → Member n (nodes S) → Leads S n n → ⊥) → IsHeight S h → IsForecast (Yes h)
