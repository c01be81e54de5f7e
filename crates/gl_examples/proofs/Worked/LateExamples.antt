-- The rest of the worked sheets that compute.
use Rattle.std.proofs.Common.{◌≡◌, ℕ, zero, suc, List, [], ◌∷◌, map, Option, Some, refl}
use Rattle.std.specs.Prelude.{codes}
use Rattle.gl_calculus.specs.Values.Functions.{apply}
use Rattle.gl_calculus.specs.Evaluation.World.{world}
use Rattle.gl_calculus.specs.Evaluation.Evaluation.{program, evaluation, cell_value}
use Rattle.gl_calculus.specs.Grid.Grid.{addr, range}
use Rattle.gl_calculus.specs.Values.ErrKind.{ErrKind}
use Rattle.gl_calculus.specs.Values.Value.{Scalar, Blank, Text}
use Rattle.gl_calculus.specs.Formulas.Formula.{Version, Formula, Cells, Form, Const}
use Rattle.gl_calculus.specs.Formulas.Formula as F
use Rattle.gl_calculus.specs.Evaluation.Oracle.{Content}
use Rattle.gl_calculus.specs.Calculation.Calculation.{why, Blocked, NoEntry}
use Rattle.gl_examples.proofs.Worked.Sheets.{int, cell, hash, area, plus, times, equals, call, number, alone, one, err, permitted, refused, shows, view, next}

abbrev sequence : ℕ → ℕ → Formula
sequence m n = call F.Fun.Sequence (int m ∷ int n ∷ [])

-- A1 =SEQUENCE(3,1), B1 =A1#*2, A2 5
abbrev blocked_spill : Cells
blocked_spill = (addr 1 1, Form (sequence 3 1)) ∷ (addr 2 1, Form (times (hash 1 1) (int 2))) ∷ (addr 1 2, number 5) ∷ []

blocked_spill_round0 : next Version.One blocked_spill 3 [] ≡ refused 1 1 3 1 ∷ []
unfolding program evaluation cell_value apply
blocked_spill_round0 = refl

blocked_spill_round1 : next Version.One blocked_spill 3 (refused 1 1 3 1 ∷ []) ≡ refused 1 1 3 1 ∷ []
unfolding program evaluation cell_value apply
blocked_spill_round1 = refl

blocked_spill_view : view (world Version.One blocked_spill (refused 1 1 3 1 ∷ [])) 3 (range (addr 1 1) (addr 2 3))
    ≡ Some (err ErrKind.Spill) ∷ Some (err ErrKind.Spill) ∷ Some (one 5) ∷ Some Blank ∷ Some Blank ∷ Some Blank ∷ []
unfolding program evaluation cell_value apply
blocked_spill_view = refl

blocked_spill_why : why blocked_spill (refused 1 1 3 1 ∷ []) (addr 1 1) ≡ Blocked (Content (addr 1 2))
unfolding program evaluation cell_value apply
blocked_spill_why = refl

blocked_spill_why_b1 : why blocked_spill (refused 1 1 3 1 ∷ []) (addr 2 1) ≡ NoEntry
unfolding program evaluation cell_value apply
blocked_spill_why_b1 = refl

-- A1 =IF(A1>=k,..) halves: B1 =IF(A1>=k,1,VIEW(UPDATE(SHEET(A1:B1),A1,2*A1),B1)+VIEW(UPDATE(SHEET(A1:B1),A1,2*A1+1),B1))
abbrev doubling : ℕ → Cells
doubling k = (addr 1 1, number 1)
    ∷ (addr 2 1, Form (call F.Fun.If (F.Formula.Compare F.Op.Ge (cell 1 1) (int k) ∷ int 1 ∷ plus (half (times (int 2) (cell 1 1))) (half (plus (times (int 2) (cell 1 1)) (int 1))) ∷ []))) ∷ []
  where
    half : Formula → Formula
    half f = call F.Fun.View (call F.Fun.Update (call F.Fun.Sheet (area 1 1 2 1 ∷ []) ∷ cell 1 1 ∷ f ∷ []) ∷ cell 2 1 ∷ [])

doubling_4 : shows (world Version.One (doubling 4) []) 12 2 1 ≡ Some (one 4)
unfolding program evaluation cell_value apply
doubling_4 = refl

-- D1 1, A2 =SEQUENCE(1,3), B1 =IF(D1=0,1,IF(ISERROR(ROWS(A2#)),1,SEQUENCE(3,1)))
abbrev oscillation : Cells
oscillation = (addr 2 1, Form (call F.Fun.If (equals (cell 4 1) (int 0) ∷ int 1 ∷ call F.Fun.If (call F.Fun.IsError (call F.Fun.Rows (hash 1 2 ∷ []) ∷ []) ∷ int 1 ∷ sequence 3 1 ∷ []) ∷ [])))
    ∷ (addr 4 1, number 1) ∷ (addr 1 2, Form (sequence 1 3)) ∷ []

oscillation_first : next Version.One oscillation 3 [] ≡ permitted 1 2 1 3 ∷ []
unfolding program evaluation cell_value apply
oscillation_first = refl

oscillation_second : next Version.One oscillation 3 (permitted 1 2 1 3 ∷ []) ≡ permitted 2 1 3 1 ∷ refused 1 2 1 3 ∷ []
unfolding program evaluation cell_value apply
oscillation_second = refl

oscillation_third : next Version.One oscillation 3 (permitted 2 1 3 1 ∷ refused 1 2 1 3 ∷ []) ≡ permitted 1 2 1 3 ∷ []
unfolding program evaluation cell_value apply
oscillation_third = refl

-- A1:B3 1 x, 2 y, 1 z; D1 =FILTER(A1:B3,A1:A3=1), G1 =UNIQUE(A1:A3), I1 =LOOKUP(2,A1:A3,B1:B3)
abbrev letter : List ℕ → F.Content
letter t = Const (Scalar.Text t)

abbrev table_functions : Cells
table_functions = (addr 1 1, number 1) ∷ (addr 2 1, letter (codes "x"))
    ∷ (addr 4 1, Form (call F.Fun.Filter (area 1 1 2 3 ∷ equals (area 1 1 1 3) (int 1) ∷ [])))
    ∷ (addr 7 1, Form (call F.Fun.Unique (area 1 1 1 3 ∷ [])))
    ∷ (addr 9 1, Form (call F.Fun.Lookup (int 2 ∷ area 1 1 1 3 ∷ area 2 1 2 3 ∷ [])))
    ∷ (addr 1 2, number 2) ∷ (addr 2 2, letter (codes "y")) ∷ (addr 1 3, number 1) ∷ (addr 2 3, letter (codes "z")) ∷ []

table_functions_oracle : next Version.One table_functions 1 [] ≡ permitted 4 1 2 2 ∷ permitted 7 1 2 1 ∷ []
unfolding program evaluation cell_value apply
table_functions_oracle = refl

table_functions_view : view (world Version.One table_functions (permitted 4 1 2 2 ∷ permitted 7 1 2 1 ∷ [])) 2 (range (addr 4 1) (addr 9 2))
    ≡ Some (one 1) ∷ Some (Text (codes "x")) ∷ Some Blank ∷ Some (one 1) ∷ Some Blank ∷ Some (Text (codes "y"))
    ∷ Some (one 1) ∷ Some (Text (codes "z")) ∷ Some Blank ∷ Some (one 2) ∷ Some Blank ∷ Some Blank ∷ []
unfolding program evaluation cell_value apply
table_functions_view = refl

-- A3 =G(A1:G1,A1,SEQUENCE(100,100),..) at k addresses
abbrev pairs : ℕ → ℕ → List Formula
pairs c zero = []
pairs c (suc n) = cell c 1 ∷ sequence 100 100 ∷ pairs (suc c) n

abbrev heavy_copy : ℕ → Cells
heavy_copy k = (addr 1 3, Form (call F.Fun.G (area 1 1 k 1 ∷ pairs 1 k))) ∷ []

heavy_copy_heavy : shows (world Version.One (heavy_copy 7) []) 3 1 3 ≡ Some (err ErrKind.Size)
unfolding program evaluation cell_value apply
heavy_copy_heavy = refl

heavy_copy_fits : view (world Version.One (heavy_copy 6) (permitted 1 3 1 6 ∷ [])) 3 (range (addr 1 3) (addr 2 3)) ≡ Some (err ErrKind.Spill) ∷ Some (err ErrKind.Spill) ∷ []
unfolding program evaluation cell_value apply
heavy_copy_fits = refl

-- ---- functions on arrays

abbrev rows_of : Formula → ℕ → ℕ → List (Option Scalar)
rows_of f m n = view (world Version.One (alone f) (permitted 1 1 m n ∷ [])) 1 (range (addr 1 1) (addr n m))

transposed : rows_of (call F.Fun.Transpose (sequence 2 3 ∷ [])) 3 2 ≡ map (λ n. Some (one n)) (1 ∷ 4 ∷ 2 ∷ 5 ∷ 3 ∷ 6 ∷ [])
unfolding program evaluation cell_value apply
transposed = refl

taken : rows_of (call F.Fun.Take (sequence 3 3 ∷ int 2 ∷ F.Formula.Neg (int 1) ∷ [])) 2 1 ≡ map (λ n. Some (one n)) (3 ∷ 6 ∷ [])
unfolding program evaluation cell_value apply
taken = refl

dropped : rows_of (call F.Fun.Drop (sequence 3 3 ∷ int 1 ∷ F.Formula.Neg (int 2) ∷ [])) 2 1 ≡ map (λ n. Some (one n)) (4 ∷ 7 ∷ [])
unfolding program evaluation cell_value apply
dropped = refl

side_by_side : rows_of (call F.Fun.HStack (sequence 2 1 ∷ int 9 ∷ [])) 2 2 ≡ Some (one 1) ∷ Some (one 9) ∷ Some (one 2) ∷ Some (err ErrKind.Na) ∷ []
unfolding program evaluation cell_value apply
side_by_side = refl

one_under_other : rows_of (call F.Fun.VStack (sequence 1 2 ∷ int 9 ∷ [])) 2 2 ≡ Some (one 1) ∷ Some (one 2) ∷ Some (one 9) ∷ Some (err ErrKind.Na) ∷ []
unfolding program evaluation cell_value apply
one_under_other = refl
