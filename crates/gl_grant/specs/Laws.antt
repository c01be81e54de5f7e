-- The law of consistent permits.
use Rattle.std.specs.Prelude.{◌≡◌, Bool}
use Rattle.gl_calculus.specs.Grid.Grid.{Addr, Range}
use Rattle.gl_calculus.specs.Values.Value.{Oracle}
use Rattle.gl_calculus.specs.Evaluation.Oracle.{IsInOrder, sizes_of, ArePermits}

-- Roots and sizes have at most one consistent oracle.
abbrev pub SizesFixPermits : Type 0
SizesFixPermits =
    (bound : Range) (held : Addr → Bool) (v w : Oracle) → IsInOrder v → IsInOrder w → sizes_of v ≡ sizes_of w →
    ArePermits bound held v → ArePermits bound held w → v ≡ w
