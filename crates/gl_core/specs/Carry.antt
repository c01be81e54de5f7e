-- What known keys leave to the next round.
use Rattle.std.specs.Prelude.{ℕ, ◌<◌, List, length}
use Rattle.gl_calculus.specs.Computation.Lists.{Member}
use Rattle.gl_core.specs.Marks.{TellNothing}
use Rattle.gl_core.specs.Numbers.{Each, numbers_of}
use Rattle.gl_core.specs.Table.{IsTable, marks_of}
use Rattle.gl_core.specs.Rested.{IsRested, AreBegunBut}
use Rattle.gl_core.specs.declared.carry.Carry.{Carry}
use Rattle.gl_core.specs.declared.carry.Carry.TheVariants.{Seeds, Numbers}
use Rattle.gl_core.specs.declared.ledger.Ledger.{Ledger}
use Rattle.gl_core.specs.declared.entries.Entries.{Entries}

-- keys are as the rows say; numbers are guesses
abbrev pub IsCarry : Ledger → Carry → Type 0
IsCarry l (Seeds e) = IsRested l e
IsCarry l (Numbers ns) = Unit {0}

-- they are but for keys whose rows went or moved
pub record IsRestedBut (l : Ledger) (ns : List ℕ) (e : Entries) : Type 0 where
  pub table : IsTable e
  pub below : Each (λ n. n < length l.book) e.known.items
  pub begun : AreBegunBut l ns e
  pub marks : TellNothing (marks_of e)
  pub all : (n : ℕ) → Member n (numbers_of l.rows.items) → Member n e.known.items

abbrev pub CanFollow : Ledger → List ℕ → Carry → Type 0
CanFollow l ns (Seeds e) = IsRestedBut l ns e
CanFollow l ns (Numbers xs) = Unit {0}
