-- The grid: addresses, ranges and sizes, as numbers that count from 1.
use Rattle.std.specs.Prelude.{ℕ, ◌+◌, ◌-◌, ◌==◌, nat_lt, nat_le, Bool, ◌&&◌, ◌||◌, IsTrue, ⊤, List}
use Rattle.std.specs.Prelude.{[], ◌∷◌, map, flat_map}
use Rattle.std.specs.List.{range_with_len}
use Rattle.gl_calculus.specs.Grid.Limits.{grid_cols, grid_rows}

pub record Addr : Type 0 where
  pub col : ℕ
  pub row : ℕ

abbrev pub addr : ℕ → ℕ → Addr
addr c r = record { col = c; row = r }

abbrev pub same_addr : Addr → Addr → Bool
same_addr a b = (a.row == b.row) && (a.col == b.col)

-- row-major order: by row, then by column
abbrev pub is_before : Addr → Addr → Bool
is_before a b = nat_lt a.row b.row || ((a.row == b.row) && nat_lt a.col b.col)

-- the addresses increase strictly in that order
abbrev pub AreInOrder : List Addr → Type 0
AreInOrder [] = ⊤
AreInOrder (a ∷ []) = ⊤
AreInOrder (a ∷ b ∷ rest) = IsTrue (is_before a b) × AreInOrder (b ∷ rest)

-- a rectangle, by its first and its last corner
pub record Range : Type 0 where
  pub first : Addr
  pub last : Addr

abbrev pub range : Addr → Addr → Range
range a b = record { first = a; last = b }

-- the range of one address
abbrev pub single : Addr → Range
single a = range a a

pub record Size : Type 0 where
  pub rows : ℕ
  pub cols : ℕ

abbrev pub size : ℕ → ℕ → Size
size m n = record { rows = m; cols = n }

abbrev pub same_size : Size → Size → Bool
same_size s t = (s.rows == t.rows) && (s.cols == t.cols)

-- the extents of a range
abbrev pub extents : Range → Size
extents r = size (r.last.row + 1 - r.first.row) (r.last.col + 1 - r.first.col)

-- the range with this first corner and these extents, on a grid without end
abbrev pub area : Addr → Size → Range
area a s = range a (addr (a.col + s.cols - 1) (a.row + s.rows - 1))

-- the address so many rows below and columns right
abbrev pub shifted : Addr → ℕ → ℕ → Addr
shifted a i j = addr (a.col + j) (a.row + i)

-- the addresses of a range, in row-major order
abbrev pub addresses : Range → List Addr
addresses r =
    flat_map (λ i. map (λ j. addr j i) (range_with_len r.first.col (extents r).cols))
    (range_with_len r.first.row (extents r).rows)

-- some address is in both
abbrev pub meets : Range → Range → Bool
meets r s =
    (nat_le r.first.row s.last.row && nat_le s.first.row r.last.row)
    && (nat_le r.first.col s.last.col && nat_le s.first.col r.last.col)

abbrev pub covers : Range → Addr → Bool
covers r a = meets r (single a)

-- every address of the first is one of the second
abbrev pub lies_in : Range → Range → Bool
lies_in r s = covers s r.first && covers s r.last

-- the whole grid: an area exists exactly where it lies in here
abbrev pub grid : Range
grid = range (addr 1 1) (addr grid_cols grid_rows)

abbrev pub same_range : Range → Range → Bool
same_range r s = same_addr r.first s.first && same_addr r.last s.last
