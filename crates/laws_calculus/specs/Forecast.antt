-- The laws of the forecast.
use Rattle.std.specs.Prelude.{◌≡◌, ℕ, suc, ◌≤◌, length}
use Rattle.gl_calculus.specs.Grid.Limits.{max_formulas}
use Rattle.gl_calculus.specs.Grid.Grid.{Addr}
use Rattle.gl_calculus.specs.Values.Value.{Oracle}
use Rattle.gl_calculus.specs.Formulas.Formula.{Version, Cells, IsSheet, formula_addresses}
use Rattle.gl_calculus.specs.Calculation.Calculation.{IsAnswer, Settled, IsShown, Cycle}
use Rattle.gl_calculus.specs.Formulas.Fit.{AreFit}
use Rattle.gl_calculus.specs.Forecast.{Yes, Forecast, IsForecast}
use Rattle.gl_calculus.specs.Evaluation.World.{world}

-- A sheet has a forecast.
abbrev pub SomeForecast : Type 0
SomeForecast = (S : Cells) → (x : Forecast) × IsForecast S x

-- It has no other one: two forecasts of a sheet are the same.
abbrev pub OneForecast : Type 0
OneForecast = (S : Cells) (x y : Forecast) → IsForecast S x → IsForecast S y → x ≡ y

-- Where the forecast is yes, the calculation settles after at most one round more than the height,
-- in both versions, and no address shows a cycle.
abbrev pub YesSettles : Type 0
YesSettles =
    (version : Version) (S : Cells) (h : ℕ) → IsSheet S → AreFit S →
    length (formula_addresses S) ≤ max_formulas → IsForecast S (Yes h) →
    (w : Oracle) × (i : ℕ) × IsAnswer version S (Settled w i) × (i ≤ suc h) ×
    ((a : Addr) → IsShown (world version S w) a Cycle → ⊥)
