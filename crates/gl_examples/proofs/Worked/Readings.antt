-- Places that are easily misread, by computation.
use Rattle.std.proofs.Common.{◌≡◌, zero, suc, [], ◌∷◌, Some, refl}
use Rattle.std.specs.Prelude.{codes}
use Rattle.gl_calculus.specs.Computation.Query.{Loops}
use Rattle.gl_calculus.specs.Grid.Grid.{addr, size}
use Rattle.gl_calculus.specs.Values.ErrKind.{ErrKind}
use Rattle.gl_calculus.specs.Values.Value.{Blank, One, Array, scalars, Top}
use Rattle.gl_calculus.specs.Formulas.Formula.{Version, Formula, Cells, Form}
use Rattle.gl_calculus.specs.Formulas.Formula as F
use Rattle.gl_calculus.specs.Evaluation.Oracle.{Edge}
use Rattle.gl_calculus.specs.Values.Functions.{apply}
use Rattle.gl_calculus.specs.Evaluation.Key.{Cell, Outcome}
use Rattle.gl_calculus.specs.Evaluation.World.{world}
use Rattle.gl_calculus.specs.Evaluation.Evaluation.{program, evaluation, cell_value}
use Rattle.gl_calculus.specs.Calculation.Calculation.{why, Blocked}
use Rattle.gl_examples.proofs.Worked.Sheets.{int, cell, hash, area, over, call, alone, one, err, permitted, refused, outcome, shows, next}
use Rattle.gl_examples.proofs.Worked.MoreExamples.{sequence, says}

abbrev sheet_of : Formula → Formula
sheet_of r = call F.Fun.Sheet (r ∷ [])

abbrev view_of : Formula → Formula → Formula
view_of s r = call F.Fun.View (s ∷ r ∷ [])

-- A1 =SEQUENCE(3,1) beside a formula at C1
abbrev beside : Formula → Cells
beside f = (addr 1 1, Form (sequence 3 1)) ∷ (addr 3 1, Form f) ∷ []

-- a spill of the top doesn't reach into the region of a copy, which has an oracle of its own
no_outer_spill : shows (world Version.One (beside (view_of (sheet_of (area 1 2 2 2)) (cell 1 2))) (permitted 1 1 3 1 ∷ [])) 5 3 1 ≡ Some Blank
unfolding program evaluation cell_value apply
no_outer_spill = refl

-- outside the region the copy reads what its parent frame shows
outer_spill : shows (world Version.One (beside (view_of (sheet_of (area 2 1 2 2)) (cell 1 2))) (permitted 1 1 3 1 ∷ [])) 5 3 1 ≡ Some (one 2)
unfolding program evaluation cell_value apply
outer_spill = refl

-- G of an address gives a scalar, and of a range an array
g_address : outcome (world Version.One (alone (call F.Fun.G (cell 2 1 ∷ cell 2 1 ∷ int 4 ∷ []))) []) 3 1 1 ≡ Some (Outcome.Value (One (one 4)))
unfolding program evaluation cell_value apply
g_address = refl

g_range : outcome (world Version.One (alone (call F.Fun.G (area 2 1 2 1 ∷ cell 2 1 ∷ int 4 ∷ []))) []) 3 1 1 ≡ Some (Outcome.Value (Array (size 1 1) (scalars (one 4 ∷ []))))
unfolding program evaluation cell_value apply
g_range = refl

-- an array is no sheet value, even of one element
view_of_array : says (view_of (sequence 1 1) (cell 2 1)) ≡ Some (err ErrKind.Value)
unfolding program evaluation cell_value apply
view_of_array = refl

-- outside the region comes first
update_outside : says (call F.Fun.Update (sheet_of (cell 2 1) ∷ cell 3 1 ∷ int 1 ∷ [])) ≡ Some (err ErrKind.Ref)
unfolding program evaluation cell_value apply
update_outside = refl

-- the value of an update is evaluated even where there is no sheet value: =UPDATE(1/0,B1,A1) at A1 loops
abbrev update_of_error : Cells
update_of_error = alone (call F.Fun.Update (over (int 1) (int 0) ∷ cell 2 1 ∷ cell 1 1 ∷ []))

update_loops : Loops (program (world Version.One update_of_error [])) (Cell Top (addr 1 1))
unfolding program evaluation cell_value apply
update_loops zero = refl
update_loops (suc n) = rw (update_loops n) refl

-- a refused root is #SPILL!, and nothing is demanded for it: A1 =A1# under an oracle that refuses A1
refused_hash : shows (world Version.One (alone (hash 1 1)) (refused 1 1 2 1 ∷ [])) 1 1 1 ≡ Some (err ErrKind.Spill)
unfolding program evaluation cell_value apply
refused_hash = refl

-- an array of more rows than the grid is an array, and leaves the grid
tall : next Version.One (alone (sequence 10000 1)) 1 [] ≡ refused 1 1 10000 1 ∷ []
unfolding program evaluation cell_value apply
tall = refl

tall_why : why (alone (sequence 10000 1)) (refused 1 1 10000 1 ∷ []) (addr 1 1) ≡ Blocked Edge
tall_why = refl

-- the tests on the numbers come before that on the size
no_rows : says (sequence 0 20000) ≡ Some (err ErrKind.Value)
unfolding program evaluation cell_value apply
no_rows = refl

-- TAKE of a scalar gives an array, TRANSPOSE a scalar
take_scalar : outcome (world Version.One (alone (call F.Fun.Take (int 5 ∷ int 1 ∷ int 1 ∷ []))) []) 1 1 1 ≡ Some (Outcome.Value (Array (size 1 1) (scalars (one 5 ∷ []))))
unfolding program evaluation cell_value apply
take_scalar = refl

transpose_scalar : outcome (world Version.One (alone (call F.Fun.Transpose (int 5 ∷ []))) []) 1 1 1 ≡ Some (Outcome.Value (One (one 5)))
unfolding program evaluation cell_value apply
transpose_scalar = refl

-- kinds are tested before the zero
text_over_zero : says (over (F.Formula.Text (codes "a")) (int 0)) ≡ Some (err ErrKind.Value)
unfolding program evaluation cell_value apply
text_over_zero = refl
