-- What differences tell, and where ranges meet, as laws.
use Rattle.std.specs.Prelude.{◌≡◌, IsTrue, []}
use Rattle.std.specs.List.{list_any}
use Rattle.gl_calculus.specs.Grid.Grid.{Addr, Range, addresses, covers, meets}
use Rattle.gl_calculus.specs.Values.Value.{Oracle}
use Rattle.gl_calculus.specs.Evaluation.Oracle.{IsInOrder}
use Rattle.gl_calculus.specs.Calculation.Memory.{differs_at}
use Rattle.gl_calculus.specs.Calculation.Differences.{AreApart, differences}

-- The ranges cover exactly the addresses of which the oracles tell another status or cover.
abbrev pub DifferencesTell : Type 0
DifferencesTell =
    (w v : Oracle) (p : Addr) → IsInOrder w → IsInOrder v → AreApart w → AreApart v →
    list_any (λ r. covers r p) (differences w v) ≡ differs_at [] w v p

-- A range meets another exactly where one of its addresses is the other's, if the corners of both
-- are in order: so that each holds its first one.
abbrev pub MeetsAtAddresses : Type 0
MeetsAtAddresses =
    (r c : Range) → IsTrue (covers r r.first) → IsTrue (covers c c.first) →
    meets r c ≡ list_any (covers c) (addresses r)
