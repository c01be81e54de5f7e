-- A larger sheet, by computation.
use Rattle.std.proofs.Common.{◌≡◌, ℕ, zero, suc, ◌+◌, [], ◌∷◌, Some, refl}
use Rattle.gl_calculus.specs.Values.Functions.{apply}
use Rattle.gl_calculus.specs.Evaluation.World.{world}
use Rattle.gl_calculus.specs.Evaluation.Evaluation.{program, evaluation, cell_value}
use Rattle.gl_calculus.specs.Grid.Grid.{addr}
use Rattle.gl_calculus.specs.Formulas.Formula.{Version, Cells, Form}
use Rattle.gl_calculus.specs.Formulas.Formula as F
use Rattle.gl_examples.proofs.Worked.Sheets.{hash, area, times, call, number, one, permitted, shows}

abbrev rows_from : ℕ → ℕ → Cells
rows_from i zero = []
rows_from i (suc n) = (addr 1 i, number i) ∷ (addr 2 i, number 3) ∷ rows_from (i + 1) n

-- A is 1 to n, B is 3; D1 =A1:An*B1:Bn, F1 =SUM(D1#)
abbrev products : ℕ → Cells
products n = (addr 1 1, number 1) ∷ (addr 2 1, number 3) ∷ (addr 4 1, Form (times (area 1 1 1 n) (area 2 1 2 n))) ∷ (addr 6 1, Form (call F.Fun.Sum (hash 4 1 ∷ []))) ∷ rows_from 2 (pred_of n)
  where
    pred_of : ℕ → ℕ
    pred_of zero = zero
    pred_of (suc m) = m

products_150 : shows (world Version.One (products 150) (permitted 4 1 150 1 ∷ [])) 3 6 1 ≡ Some (one 33975)
unfolding program evaluation cell_value apply
products_150 = refl
