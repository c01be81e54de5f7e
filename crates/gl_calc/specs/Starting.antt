-- A core at the start of a round, and at its end.
use Rattle.std.specs.Prelude.{◌≡◌, map}
use Rattle.gl_calculus.specs.Values.Value.{Top}
use Rattle.gl_calculus.specs.Formulas.Formula.{formula_addresses}
use Rattle.gl_calculus.specs.Evaluation.Key.{Cell}
use Rattle.gl_calculus.specs.Calculation.Calculation.{SpendsWork}
use Rattle.gl_calculus.specs.Evaluation.World.{World}
use Rattle.gl_core.specs.Held.{Held}
use Rattle.gl_core.specs.State.{state_of, seeds_of, IsFor}
use Rattle.gl_calc.specs.Shown.{IsRound}

-- the formulas of the sheet are its seeds
pub record IsStarted (W : World) (core : Held) : Type 0 where
  pub seeds : seeds_of core ≡ map (Cell Top) (formula_addresses W.sheet)
  pub for_it : IsFor W core

-- the state says all of the round, whose work is finished
pub record IsEvaluated (W : World) (core : Held) : Type 0 where
  pub round : IsRound W (state_of core)
  pub finished : SpendsWork W → ⊥
  pub started : IsStarted W core
