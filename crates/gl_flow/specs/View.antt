-- The forecasts that those of the code stand for, and what a yes promises.
use Rattle.std.specs.Prelude.{◌≡◌, ℕ, suc, ◌≤◌}
use Rattle.gl_calculus.specs.Grid.Grid.{Addr}
use Rattle.gl_calculus.specs.Values.Value.{Oracle}
use Rattle.gl_calculus.specs.Formulas.Formula.{Version, Cells}
use Rattle.gl_calculus.specs.Calculation.Calculation.{IsAnswer, Settled, IsShown, Cycle}
use Rattle.gl_calculus.specs.Forecast as Fo
use Rattle.gl_calculus.specs.Evaluation.World.{world}
use Rattle.gl_flow.specs.declared.forecast.Forecast.{Forecast}
use Rattle.gl_flow.specs.declared.forecast.Forecast.TheVariants.{Yes, Circle, Unknown}

abbrev pub forecast_tree : Forecast → Fo.Forecast
forecast_tree (Yes h) = Fo.Forecast.Yes h
forecast_tree (Circle a) = Fo.Forecast.Circle a
forecast_tree (Unknown a) = Fo.Forecast.Unknown a

-- in both versions the calculation settles after at most one round more than the height, and no
-- address shows a cycle
abbrev pub SettlesWithin : Cells → ℕ → Type 0
SettlesWithin S h =
    (version : Version) → (w : Oracle) × (i : ℕ) × IsAnswer version S (Settled w i) × (i ≤ suc h) ×
    ((a : Addr) → IsShown (world version S w) a Cycle → ⊥)

-- what a forecast promises, where it is yes
abbrev pub Promises : Cells → Fo.Forecast → Type 0
Promises S x = (h : ℕ) → x ≡ Fo.Forecast.Yes h → SettlesWithin S h
