-- Worked sheets, by computation.
use Rattle.std.proofs.Common.{true, ◌≡◌, [], ◌∷◌, map, Some, refl}
use Rattle.gl_calculus.specs.Values.Functions.{apply}
use Rattle.gl_calculus.specs.Evaluation.World.{world}
use Rattle.gl_calculus.specs.Evaluation.Evaluation.{program, evaluation, cell_value}
use Rattle.gl_calculus.specs.Grid.Grid.{addr, range}
use Rattle.gl_calculus.specs.Values.ErrKind.{ErrKind}
use Rattle.gl_calculus.specs.Values.Value.{Blank, Oracle}
use Rattle.gl_calculus.specs.Formulas.Formula.{Version, Formula, Cells, Form}
use Rattle.gl_calculus.specs.Formulas.Formula as F
use Rattle.gl_calculus.specs.Evaluation.Oracle.{Root}
use Rattle.gl_calculus.specs.Calculation.Calculation.{why, Blocked}
use Rattle.gl_examples.proofs.Worked.Sheets.{int, cell, hash, area, plus, times, call, number, alone, one, err, permitted, refused, shows, view, next}

-- A1 2, B1 40, C1 =A1+B1
abbrev plain_sum : Cells
plain_sum = (addr 1 1, number 2) ∷ (addr 2 1, number 40) ∷ (addr 3 1, Form (plus (cell 1 1) (cell 2 1))) ∷ []

plain_sum_shows : shows (world Version.One plain_sum []) 1 3 1 ≡ Some (one 42)
unfolding program evaluation cell_value apply
plain_sum_shows = refl

overflow_shows : shows (world Version.One (alone (plus (int 9223372036854775807) (int 1))) []) 1 1 1 ≡ Some (err ErrKind.Num)
unfolding program evaluation cell_value apply
overflow_shows = refl

-- A1 =SEQUENCE(3,1), B1 =A1#*2
abbrev pub spilled_product : Cells
spilled_product = (addr 1 1, Form (call F.Fun.Sequence (int 3 ∷ int 1 ∷ []))) ∷ (addr 2 1, Form (times (hash 1 1) (int 2))) ∷ []

abbrev pub spilled_product_first : Oracle
spilled_product_first = permitted 1 1 3 1 ∷ []

abbrev pub spilled_product_second : Oracle
spilled_product_second = permitted 1 1 3 1 ∷ permitted 2 1 3 1 ∷ []

spilled_product_round0 : next Version.One spilled_product 3 [] ≡ spilled_product_first
unfolding program evaluation cell_value apply
spilled_product_round0 = refl

spilled_product_round1 : next Version.One spilled_product 3 spilled_product_first ≡ spilled_product_second
unfolding program evaluation cell_value apply
spilled_product_round1 = refl

spilled_product_round2 : next Version.One spilled_product 3 spilled_product_second ≡ spilled_product_second
unfolding program evaluation cell_value apply
spilled_product_round2 = refl

spilled_product_view : view (world Version.One spilled_product spilled_product_second) 3 (range (addr 1 1) (addr 2 3)) ≡ map (λ n. Some (one n)) (1 ∷ 2 ∷ 2 ∷ 4 ∷ 3 ∷ 6 ∷ [])
unfolding program evaluation cell_value apply
spilled_product_view = refl

-- A2 =SEQUENCE(1,3), B1 =SEQUENCE(3,1)
abbrev crossing : Cells
crossing = (addr 2 1, Form (call F.Fun.Sequence (int 3 ∷ int 1 ∷ []))) ∷ (addr 1 2, Form (call F.Fun.Sequence (int 1 ∷ int 3 ∷ []))) ∷ []

abbrev crossing_oracle : Oracle
crossing_oracle = permitted 2 1 3 1 ∷ refused 1 2 1 3 ∷ []

crossing_round0 : next Version.One crossing 2 [] ≡ crossing_oracle
unfolding program evaluation cell_value apply
crossing_round0 = refl

crossing_why : why crossing crossing_oracle (addr 1 2) ≡ Blocked (Root (addr 2 1))
unfolding program evaluation cell_value apply
crossing_why = refl

-- A1 =IF(TRUE,1,B1), B1 =A1
abbrev chosen_branch : Cells
chosen_branch = (addr 1 1, Form (call F.Fun.If (F.Formula.Bool true ∷ int 1 ∷ cell 2 1 ∷ []))) ∷ (addr 2 1, Form (cell 1 1)) ∷ []

chosen_branch_view : view (world Version.One chosen_branch []) 3 (range (addr 1 1) (addr 2 1)) ≡ Some (one 1) ∷ Some (one 1) ∷ []
unfolding program evaluation cell_value apply
chosen_branch_view = refl

-- A1 3, B1 4, C1 =A1*A1+B1*B1, E1 =G(A1:C1,A1,6)
abbrev pub area_copy : Cells
area_copy = (addr 1 1, number 3) ∷ (addr 2 1, number 4) ∷ (addr 3 1, Form (plus (times (cell 1 1) (cell 1 1)) (times (cell 2 1) (cell 2 1))))
    ∷ (addr 5 1, Form (call F.Fun.G (area 1 1 3 1 ∷ cell 1 1 ∷ int 6 ∷ []))) ∷ []

area_copy_round0 : next Version.One area_copy 4 [] ≡ permitted 5 1 1 3 ∷ []
unfolding program evaluation cell_value apply
area_copy_round0 = refl

area_copy_view : view (world Version.One area_copy (permitted 5 1 1 3 ∷ [])) 4 (range (addr 3 1) (addr 7 1)) ≡ Some (one 25) ∷ Some Blank ∷ Some (one 6) ∷ Some (one 4) ∷ Some (one 52) ∷ []
unfolding program evaluation cell_value apply
area_copy_view = refl
