-- The addresses of a range from one of them on.
use Rattle.std.specs.Prelude.{ℕ, ◌+◌, ◌-◌, Option, Some, None, List, [], ◌++◌, map, flat_map}
use Rattle.std.specs.List.{range_with_len}
use Rattle.gl_calculus.specs.Grid.Grid.{Addr, Range, addr, extents}

-- so many addresses of a row, from a column on
abbrev pub in_row : ℕ → ℕ → ℕ → List Addr
in_row row col n = map (λ j. addr j row) (range_with_len col n)

-- what is left of the row of the next one, then the rows below it
abbrev pub addresses_from : Range → Option Addr → List Addr
addresses_from r None = []
addresses_from r (Some a) =
    in_row a.row a.col (r.last.col + 1 - a.col) ++ flat_map (λ i. in_row i r.first.col (extents r).cols) (range_with_len (a.row + 1) (r.last.row - a.row))
