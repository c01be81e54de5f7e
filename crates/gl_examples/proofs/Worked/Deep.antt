-- Nested copies, by computation.
use Rattle.std.proofs.Common.{◌≡◌, ℕ, [], ◌∷◌, Some, refl}
use Rattle.gl_calculus.specs.Values.Functions.{apply}
use Rattle.gl_calculus.specs.Evaluation.World.{world}
use Rattle.gl_calculus.specs.Evaluation.Evaluation.{program, evaluation, cell_value}
use Rattle.gl_calculus.specs.Grid.Grid.{addr}
use Rattle.gl_calculus.specs.Formulas.Formula.{Version, Cells, Form}
use Rattle.gl_calculus.specs.Formulas.Formula as F
use Rattle.gl_examples.proofs.Worked.Sheets.{int, cell, area, plus, minus, equals, call, number, one, shows}

-- A1 0, B1 =IF(A1=0,0,A1+VIEW(UPDATE(SHEET(A1:B1),A1,A1-1),B1)), D1 =VIEW(UPDATE(SHEET(A1:B1),A1,k),B1)
abbrev pub descent : ℕ → Cells
descent k =
    (addr 1 1, number 0)
    ∷ (addr 2 1, Form (call F.Fun.If (equals (cell 1 1) (int 0) ∷ int 0 ∷ plus (cell 1 1) (call F.Fun.View (call F.Fun.Update (call F.Fun.Sheet (area 1 1 2 1 ∷ []) ∷ cell 1 1 ∷ minus (cell 1 1) (int 1) ∷ []) ∷ cell 2 1 ∷ [])) ∷ [])))
    ∷ (addr 4 1, Form (call F.Fun.View (call F.Fun.Update (call F.Fun.Sheet (area 1 1 2 1 ∷ []) ∷ cell 1 1 ∷ int k ∷ []) ∷ cell 2 1 ∷ []))) ∷ []

descent_3 : shows (world Version.One (descent 3) []) 20 4 1 ≡ Some (one 6)
unfolding program evaluation cell_value apply
descent_3 = refl

descent_8 : shows (world Version.One (descent 8) []) 40 4 1 ≡ Some (one 36)
unfolding program evaluation cell_value apply
descent_8 = refl
