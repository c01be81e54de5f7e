-- The row-major order and ranges, as facts on rows and columns.
use Rattle.std.specs.Prelude.{◌≡◌, ◌<◌, ◌≤◌, ◌⊎◌, Bool, true, Option, None, Some, ◌&&◌}
use Rattle.gl_calculus.specs.Grid.Grid.{Addr, Range, covers, is_before}

-- the address is in the range with these corners
abbrev pub Covers : Addr → Addr → Addr → Type 0
Covers first last q = (first.row ≤ q.row) × (q.row ≤ last.row) × (first.col ≤ q.col) × (q.col ≤ last.col)

-- a comes before b
abbrev pub Before : Addr → Addr → Type 0
Before a b = (a.row < b.row) ⊎ ((a.row ≡ b.row) × (a.col < b.col))

-- b is a, or comes after it
abbrev pub AtOrAfter : Addr → Addr → Type 0
AtOrAfter a b = (a.row < b.row) ⊎ ((a.row ≡ b.row) × (a.col ≤ b.col))

-- q comes after the address, if there is one
abbrev pub After : Option Addr → Addr → Type 0
After None q = Unit {0}
After (Some a) q = Before a q

-- q is an address of the range with these corners, after the one that is given
abbrev pub InPlay : Addr → Addr → Option Addr → Addr → Type 0
InPlay first last after q = Covers first last q × After after q

-- the same as a test
abbrev pub comes_after : Option Addr → Addr → Bool
comes_after None q = true
comes_after (Some a) q = is_before a q

abbrev pub is_in_play : Range → Option Addr → Addr → Bool
is_in_play r after q = covers r q && comes_after after q
