-- What is seen of a round, what its table tells of formula cells, and what an address shows.
use Rattle.std.specs.Prelude.{◌≡◌, Bool, true, map, Some}
use Rattle.gl_machine.specs.Quiet.{IsQuiet}
use Rattle.gl_calculus.specs.Grid.Grid.{Addr}
use Rattle.gl_calculus.specs.Values.Value.{Top}
use Rattle.gl_calculus.specs.Values.Value as V
use Rattle.gl_calculus.specs.Formulas.Formula.{Formula, Form, Cells, content, formula_addresses}
use Rattle.gl_calculus.specs.Evaluation.Oracle.{Cover, cover}
use Rattle.gl_calculus.specs.Evaluation.Key.{Cell, Outcome, same_key}
use Rattle.gl_calculus.specs.Evaluation.World.{World}
use Rattle.gl_calculus.specs.Evaluation.Evaluation.{program}
use Rattle.gl_calculus.specs.Calculation.Calculation.{Shown, Cycle, Value}
use Rattle.gl_calculus.specs.Calculation.Memory.{Table}
use Rattle.gl_calculus.specs.Evaluation.Sound.{is_sound_scalar}
use Rattle.gl_core.specs.Results.{outcome_in}
use Rattle.gl_core.specs.State.{State}

-- the state says all of what the formulas of the sheet demand under the oracle
abbrev pub IsRound : World → State → Type 0
IsRound W st = IsQuiet same_key (program W) (map (Cell Top) (formula_addresses W.sheet)) st

-- what the table tells of this formula cell is a value, if it tells anything
abbrev pub TellsValue : Table → Addr → Type 0
TellsValue t a = (o : Outcome) → Some o ≡ outcome_in t.notes (Cell Top a) → (v : V.Value) × (o ≡ Outcome.Value v)

-- the table tells a value of this formula cell
abbrev pub HasValue : Table → Addr → Type 0
HasValue t a = (v : V.Value) × (Some (Outcome.Value v) ≡ outcome_in t.notes (Cell Top a))

-- the table tells nothing but values of the formula cells of the sheet, and one of each root that covers an address
pub record TellsValues (S : Cells) (t : Table) : Type 0 where
  pub formulas : (a : Addr) (f : Formula) → content S a ≡ Some (Form f) → TellsValue t a
  pub roots : (a : Addr) (c : Cover) → cover t.oracle a ≡ Some c → HasValue t c.root

-- a cycle is sound, and a scalar where it is
abbrev pub is_sound_shown : Shown → Bool
is_sound_shown Cycle = true
is_sound_shown (Value x) = is_sound_scalar x
