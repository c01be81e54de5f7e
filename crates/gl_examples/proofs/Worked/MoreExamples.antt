-- More worked sheets, by computation.
use Rattle.std.proofs.Common.{true, false, ◌≡◌, ℕ, [], ◌∷◌, map, negsuc, Option, Some, refl}
use Rattle.std.specs.Prelude.{codes}
use Rattle.std.specs.Str.{chars}
use Rattle.std.specs.Fmt.{digits}
use lib.Utf8.{encode}
use Rattle.gl_calculus.specs.Values.Functions.{apply}
use Rattle.gl_calculus.specs.Evaluation.World.{world}
use Rattle.gl_calculus.specs.Evaluation.Evaluation.{program, evaluation, cell_value}
use Rattle.gl_calculus.specs.Grid.Grid.{addr, range}
use Rattle.gl_calculus.specs.Values.Value as V
use Rattle.gl_calculus.specs.Values.ErrKind.{ErrKind}
use Rattle.gl_calculus.specs.Values.Value.{Scalar, Blank, Text, Oracle, Top}
use Rattle.gl_calculus.specs.Formulas.Formula.{Version, Formula, Cells, Form}
use Rattle.gl_calculus.specs.Formulas.Formula as F
use Rattle.gl_calculus.specs.Evaluation.Oracle.{Edge}
use Rattle.gl_calculus.specs.Calculation.Calculation.{why, Blocked}
use Rattle.gl_calculus.specs.Evaluation.Key.{Abort, Budget}
use Rattle.gl_examples.proofs.Worked.Sheets.{int, cell, hash, area, plus, minus, times, over, equals, call, number, alone, one, err, permitted, refused, outcome, shows, view, next}

abbrev pub sequence : ℕ → ℕ → Formula
sequence m n = call F.Fun.Sequence (int m ∷ int n ∷ [])

-- A1 =IF(C1=0,SEQUENCE(1,3),5): its array covers C1, which it reads
abbrev pub alternation : Cells
alternation = (addr 1 1, Form (call F.Fun.If (equals (cell 3 1) (int 0) ∷ sequence 1 3 ∷ int 5 ∷ []))) ∷ []

alternation_even : next Version.One alternation 4 [] ≡ permitted 1 1 1 3 ∷ []
unfolding program evaluation cell_value apply
alternation_even = refl

alternation_odd : next Version.One alternation 9 (permitted 1 1 1 3 ∷ []) ≡ []
unfolding program evaluation cell_value apply
alternation_odd = refl

-- A9998 =SEQUENCE(3,1), which leaves the grid
abbrev edge_spill : Cells
edge_spill = (addr 1 9998, Form (sequence 3 1)) ∷ []

edge_spill_round0 : next Version.One edge_spill 2 [] ≡ refused 1 9998 3 1 ∷ []
unfolding program evaluation cell_value apply
edge_spill_round0 = refl

edge_spill_shows : shows (world Version.One edge_spill (refused 1 9998 3 1 ∷ [])) 2 1 9998 ≡ Some (err ErrKind.Spill)
unfolding program evaluation cell_value apply
edge_spill_shows = refl

edge_spill_why : why edge_spill (refused 1 9998 3 1 ∷ []) (addr 1 9998) ≡ Blocked Edge
unfolding program evaluation cell_value apply
edge_spill_why = refl

-- A9998 =SEQUENCE(2,1), B1 =A9999+5
abbrev edge_reader : Cells
edge_reader = (addr 2 1, Form (plus (cell 1 9999) (int 5))) ∷ (addr 1 9998, Form (sequence 2 1)) ∷ []

edge_reader_before : shows (world Version.One edge_reader []) 2 2 1 ≡ Some (one 5)
unfolding program evaluation cell_value apply
edge_reader_before = refl

edge_reader_round0 : next Version.One edge_reader 2 [] ≡ permitted 1 9998 2 1 ∷ []
unfolding program evaluation cell_value apply
edge_reader_round0 = refl

edge_reader_after : shows (world Version.One edge_reader (permitted 1 9998 2 1 ∷ [])) 3 2 1 ≡ Some (one 7)
unfolding program evaluation cell_value apply
edge_reader_after = refl

-- A1 2, B1 =SEQUENCE(A1,1), D1 =G(A1:B3,A1,k)
abbrev spill_in_copy : ℕ → Cells
spill_in_copy k = (addr 1 1, number 2) ∷ (addr 2 1, Form (call F.Fun.Sequence (cell 1 1 ∷ int 1 ∷ []))) ∷ (addr 4 1, Form (call F.Fun.G (area 1 1 2 3 ∷ cell 1 1 ∷ int k ∷ []))) ∷ []

abbrev spill_in_copy_oracle : Oracle
spill_in_copy_oracle = permitted 2 1 2 1 ∷ permitted 4 1 3 2 ∷ []

spill_in_copy_round0 : next Version.One (spill_in_copy 3) 5 [] ≡ spill_in_copy_oracle
unfolding program evaluation cell_value apply
spill_in_copy_round0 = refl

spill_in_copy_round1 : next Version.One (spill_in_copy 3) 5 spill_in_copy_oracle ≡ spill_in_copy_oracle
unfolding program evaluation cell_value apply
spill_in_copy_round1 = refl

spill_in_copy_view : view (world Version.One (spill_in_copy 3) spill_in_copy_oracle) 5 (range (addr 4 1) (addr 5 3))
    ≡ Some (one 3) ∷ Some (one 1) ∷ Some Blank ∷ Some (one 2) ∷ Some Blank ∷ Some (one 3) ∷ []
unfolding program evaluation cell_value apply
spill_in_copy_view = refl

spill_in_copy_view4 : view (world Version.One (spill_in_copy 4) spill_in_copy_oracle) 5 (range (addr 4 1) (addr 5 3))
    ≡ Some (one 4) ∷ Some (err ErrKind.Spill) ∷ Some Blank ∷ Some Blank ∷ Some Blank ∷ Some Blank ∷ []
unfolding program evaluation cell_value apply
spill_in_copy_view4 = refl

-- D1 0, A2 =SEQUENCE(1,3), B1 =IF(D1=0,1,IF(ISERROR(ROWS(A2#)),1,SEQUENCE(3,1))), F1 =G(A1:D3,D1,1)
abbrev oscillation : Cells
oscillation = (addr 2 1, Form (call F.Fun.If (equals (cell 4 1) (int 0) ∷ int 1 ∷ call F.Fun.If (call F.Fun.IsError (call F.Fun.Rows (hash 1 2 ∷ []) ∷ []) ∷ int 1 ∷ sequence 3 1 ∷ []) ∷ [])))
    ∷ (addr 4 1, number 0) ∷ (addr 6 1, Form (call F.Fun.G (area 1 1 4 3 ∷ cell 4 1 ∷ int 1 ∷ []))) ∷ (addr 1 2, Form (sequence 1 3)) ∷ []

oscillation_spent : outcome (world Version.One oscillation []) 5 6 1 ≡ Some (Abort Budget.CopyRounds)
unfolding program evaluation cell_value apply
oscillation_spent = refl

-- A1 1, B1 =A1*10, C1 =VIEW(SHEET(B1),B1), D1 =VIEW(UPDATE(SHEET(A1:C1),A1,7),C1)
abbrev nested_copies : Cells
nested_copies = (addr 1 1, number 1) ∷ (addr 2 1, Form (times (cell 1 1) (int 10)))
    ∷ (addr 3 1, Form (call F.Fun.View (call F.Fun.Sheet (cell 2 1 ∷ []) ∷ cell 2 1 ∷ [])))
    ∷ (addr 4 1, Form (call F.Fun.View (call F.Fun.Update (call F.Fun.Sheet (area 1 1 3 1 ∷ []) ∷ cell 1 1 ∷ int 7 ∷ []) ∷ cell 3 1 ∷ []))) ∷ []

nested_copies_view : view (world Version.One nested_copies []) 9 (range (addr 1 1) (addr 4 1)) ≡ map (λ n. Some (one n)) (1 ∷ 10 ∷ 10 ∷ 70 ∷ [])
unfolding program evaluation cell_value apply
nested_copies_view = refl

-- A1 =SEQUENCE(2,1)+SEQUENCE(1,3)
abbrev lifted_sum : Cells
lifted_sum = alone (plus (sequence 2 1) (sequence 1 3))

lifted_sum_round0 : next Version.One lifted_sum 1 [] ≡ permitted 1 1 2 3 ∷ []
unfolding program evaluation cell_value apply
lifted_sum_round0 = refl

lifted_sum_view : view (world Version.One lifted_sum (permitted 1 1 2 3 ∷ [])) 1 (range (addr 1 1) (addr 3 2)) ≡ map (λ n. Some (one n)) (2 ∷ 3 ∷ 4 ∷ 3 ∷ 4 ∷ 5 ∷ [])
unfolding program evaluation cell_value apply
lifted_sum_view = refl

lifted_sum_longer : view (world Version.One (alone (plus (sequence 2 1) (sequence 3 1))) (permitted 1 1 3 1 ∷ [])) 1 (range (addr 1 1) (addr 1 3)) ≡ Some (one 2) ∷ Some (one 4) ∷ Some (err ErrKind.Na) ∷ []
unfolding program evaluation cell_value apply
lifted_sum_longer = refl

abbrev pub says : Formula → Option Scalar
says f = shows (world Version.One (alone f) []) 3 1 1

abbrev join : Formula → Formula → F.Operands → Formula
join f g rest = F.Formula.Chain F.Level.Cat f (F.operand_and F.Op.Join g rest)

scalar_join : says (join (F.Formula.Text (codes "a")) (int 1) (F.operand_and F.Op.Join (F.Formula.Bool true) F.no_operand)) ≡ Some (Text (codes "a1TRUE"))
unfolding digits program evaluation cell_value apply
scalar_join = refl

scalar_equal : says (equals (int 1) (F.Formula.Text (codes "1"))) ≡ Some (Scalar.Bool false)
unfolding program evaluation cell_value apply
scalar_equal = refl

scalar_over : says (over (F.Formula.Neg (int 7)) (int 2)) ≡ Some (Scalar.Int (negsuc 2))
unfolding program evaluation cell_value apply
scalar_over = refl

scalar_mod : says (call F.Fun.Mod (F.Formula.Neg (int 7) ∷ int 3 ∷ [])) ≡ Some (one 2)
unfolding program evaluation cell_value apply
scalar_mod = refl

scalar_this : says (call F.Fun.This []) ≡ Some (err ErrKind.Ref)
unfolding program evaluation cell_value apply
scalar_this = refl

scalar_div : says (over (int 1) (int 0)) ≡ Some (err ErrKind.Div0)
unfolding program evaluation cell_value apply
scalar_div = refl

scalar_sheet : says (call F.Fun.Sheet (cell 2 1 ∷ [])) ≡ Some (Scalar.Sheet (V.sheet_value (range (addr 2 1) (addr 2 1)) V.no_override Top 1 1))
unfolding program evaluation cell_value apply
scalar_sheet = refl

-- =1/(SEQUENCE(3,1)-3)+SEQUENCE(2,1): beyond the second operand the element is #N/A, whatever the first has there
beyond_second : view (world Version.One (alone (plus (over (int 1) (minus (sequence 3 1) (int 3))) (sequence 2 1))) (permitted 1 1 3 1 ∷ [])) 1 (range (addr 1 3) (addr 1 3)) ≡ Some (err ErrKind.Na) ∷ []
unfolding program evaluation cell_value apply
beyond_second = refl

-- =IFERROR(SEQUENCE(2,1),SEQUENCE(3,1)) and =IFERROR(SEQUENCE(3,1),SEQUENCE(2,1)) in version Two
beyond_first : view (world Version.Two (alone (call F.Fun.IfError (sequence 2 1 ∷ sequence 3 1 ∷ []))) (permitted 1 1 3 1 ∷ [])) 1 (range (addr 1 3) (addr 1 3)) ≡ Some (err ErrKind.Na) ∷ []
unfolding program evaluation cell_value apply
beyond_first = refl

beyond_other : view (world Version.Two (alone (call F.Fun.IfError (sequence 3 1 ∷ sequence 2 1 ∷ []))) (permitted 1 1 3 1 ∷ [])) 1 (range (addr 1 3) (addr 1 3)) ≡ Some (err ErrKind.Na) ∷ []
unfolding program evaluation cell_value apply
beyond_other = refl

-- =IFERROR(10/(SEQUENCE(1,3)-2),0) in both versions
abbrev error_array : Cells
error_array = alone (call F.Fun.IfError (over (int 10) (minus (sequence 1 3) (int 2)) ∷ int 0 ∷ []))

error_array_one : view (world Version.One error_array (permitted 1 1 1 3 ∷ [])) 1 (range (addr 1 1) (addr 3 1)) ≡ Some (Scalar.Int (negsuc 9)) ∷ Some (err ErrKind.Div0) ∷ Some (one 10) ∷ []
unfolding program evaluation cell_value apply
error_array_one = refl

error_array_two : view (world Version.Two error_array (permitted 1 1 1 3 ∷ [])) 1 (range (addr 1 1) (addr 3 1)) ≡ Some (Scalar.Int (negsuc 9)) ∷ Some (one 0) ∷ Some (one 10) ∷ []
unfolding program evaluation cell_value apply
error_array_two = refl

-- =IF(SEQUENCE(1,2)=1,1,2)
abbrev condition_array : Cells
condition_array = alone (call F.Fun.If (equals (sequence 1 2) (int 1) ∷ int 1 ∷ int 2 ∷ []))

condition_array_one : shows (world Version.One condition_array []) 1 1 1 ≡ Some (err ErrKind.Value)
unfolding program evaluation cell_value apply
condition_array_one = refl

condition_array_two : view (world Version.Two condition_array (permitted 1 1 1 2 ∷ [])) 1 (range (addr 1 1) (addr 2 1)) ≡ Some (one 1) ∷ Some (one 2) ∷ []
unfolding program evaluation cell_value apply
condition_array_two = refl

-- ---- single functions

left_text : says (call F.Fun.Left (F.Formula.Text (codes "gridlet") ∷ int 4 ∷ [])) ≡ Some (Text (codes "grid"))
unfolding chars encode program evaluation cell_value apply
left_text = refl

right_text : says (call F.Fun.Right (F.Formula.Text (codes "gridlet") ∷ int 3 ∷ [])) ≡ Some (Text (codes "let"))
unfolding chars encode program evaluation cell_value apply
right_text = refl

let_hides : says (F.Formula.Let (codes "x") (int 3) (F.Formula.Let (codes "x") (plus (F.Formula.Var (codes "x")) (int 1)) (times (F.Formula.Var (codes "x")) (F.Formula.Var (codes "x"))))) ≡ Some (one 16)
unfolding program evaluation cell_value apply
let_hides = refl

sum_of_mixed : says (call F.Fun.Sum (int 1 ∷ F.Formula.Text (codes "a") ∷ F.Formula.Bool true ∷ int 2 ∷ [])) ≡ Some (one 3)
unfolding program evaluation cell_value apply
sum_of_mixed = refl

count_of_mixed : says (call F.Fun.Count (int 1 ∷ call F.Fun.Na [] ∷ int 2 ∷ [])) ≡ Some (one 2)
unfolding program evaluation cell_value apply
count_of_mixed = refl

too_large : says (sequence 101 100) ≡ Some (err ErrKind.Size)
unfolding program evaluation cell_value apply
too_large = refl

no_spill : says (hash 1 1) ≡ Some (err ErrKind.Ref)
unfolding program evaluation cell_value apply
no_spill = refl

index_beyond : says (call F.Fun.Index (sequence 2 2 ∷ int 3 ∷ int 1 ∷ [])) ≡ Some (err ErrKind.Ref)
unfolding program evaluation cell_value apply
index_beyond = refl
