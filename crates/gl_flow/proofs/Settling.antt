-- What a forecast of yes promises.
use Rattle.std.proofs.Common.{◌≡◌, ℕ, ◌≤◌, [], ◌∷◌, length, subst}
use Rattle.std.specs.Prelude.{Result, Ok, Err, IfOk}
use Rattle.std.specs.List.{AllByRecursion}
use Rattle.gl_calculus.specs.Grid.Limits.{max_formulas}
use Rattle.gl_calculus.specs.Formulas.Formula.{IsSheet, formula_addresses}
use Rattle.gl_language.specs.Reading.Content.{IsProperContent}
use Rattle.laws_calculus.proofs.Sound.WellFormed.{proper_is_fit}
use Rattle.gl_plane.specs.declared.NoMemory.{NoMemory}
use Rattle.gl_cells.specs.Sheet.{Table, sheet, AreProper}
use Rattle.gl_calculus.specs.Forecast.{Forecast, Yes, IsForecast}
use Rattle.laws_calculus.proofs.Forecast.Answering.{yes_settles}
use Rattle.gl_flow.specs.declared.forecast.Forecast.{Forecast as Found}
use Rattle.gl_flow.specs.View.{forecast_tree, SettlesWithin}

proper_sheet : (es : Table) → AreProper es → AllByRecursion (λ c. IsProperContent c.1) (sheet es)
proper_sheet [] h = tt
proper_sheet (e ∷ es) h = (h.0, proper_sheet es h.1)

pub yes_promises : (es : Table) (x : Forecast) (h : ℕ) → IsSheet (sheet es) → length (formula_addresses (sheet es)) ≤ max_formulas → IsForecast (sheet es) x → AreProper es → x ≡ Yes h → SettlesWithin (sheet es) h
yes_promises es x h o few f p e = λ version. yes_settles version (sheet es) h o (proper_is_fit (sheet es) (proper_sheet es p)) few (subst (λ t. IsForecast (sheet es) t) e f)

pub each_promises : (es : Table) (r : Result Found NoMemory) → IsSheet (sheet es) → length (formula_addresses (sheet es)) ≤ max_formulas → IfOk r (λ x. IsForecast (sheet es) (forecast_tree x)) → AreProper es →
    IfOk r (λ x. (h : ℕ) → forecast_tree x ≡ Yes h → SettlesWithin (sheet es) h)
each_promises es (Ok x) o few f p = λ h e. yes_promises es (forecast_tree x) h o few f p e
each_promises es (Err e) o few f p = tt
