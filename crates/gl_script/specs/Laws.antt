-- What holds of the headers of imports.
use Rattle.std.specs.Prelude.{◌≡◌, ℕ, Option}
use Rattle.gl_calculus.specs.Grid.Grid.{Addr}
use Rattle.gl_language.specs.Texts.Text.{Bytes}
use Rattle.gl_protocol.specs.Scripts.Commands.{Read, Request, ReadsLine}
use Rattle.gl_script.specs.Command.{IsHeader}

-- A line is the header of one import at most, and such a line asks nothing else and is not refused.
abbrev pub OneHeader : Type 0
OneHeader = (l : Bytes) (a b : Option Addr) (m n : ℕ) → IsHeader l a m → IsHeader l b n → (a ≡ b) × (m ≡ n)

abbrev pub HeaderAsksNothing : Type 0
HeaderAsksNothing = (l : Bytes) (a : Option Addr) (n : ℕ) (x : Read Request) → IsHeader l a n → ReadsLine l x → ⊥
