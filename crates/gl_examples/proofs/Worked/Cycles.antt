-- Cells that loop, by induction on the levels of demand.
use Rattle.std.proofs.Common.{◌≡◌, ℕ, zero, suc, pos, [], ◌∷◌, Option, Some, None, refl}
use Rattle.gl_calculus.specs.Values.Functions.{apply}
use Rattle.gl_calculus.specs.Evaluation.World.{world}
use Rattle.gl_calculus.specs.Evaluation.Evaluation.{program, evaluation, cell_value}
use Rattle.gl_calculus.specs.Grid.Grid.{addr, range}
use Rattle.gl_calculus.specs.Values.ErrKind.{ErrKind}
use Rattle.gl_calculus.specs.Values.Value.{Top, In, SheetValue, sheet_value, override_and, no_override, Value, Scalar}
use Rattle.gl_calculus.specs.Formulas.Formula.{Version, Cells, Form}
use Rattle.gl_calculus.specs.Formulas.Formula as F
use Rattle.gl_calculus.specs.Computation.Query.{val, Loops}
use Rattle.gl_calculus.specs.Evaluation.Key.{Key, Cell, Settle, Outcome}
use Rattle.gl_calculus.specs.Calculation.Calculation.{IsShown, cycle, Cycle}
use Rattle.gl_examples.proofs.Worked.Sheets.{int, cell, call, area, plus, number, alone, permitted, shows, err}
use Rattle.gl_examples.proofs.Worked.MoreExamples.{alternation, sequence}

-- A1 =B1, B1 =A1, C1 =IFERROR(A1,7)
abbrev small_cycle : Cells
small_cycle = (addr 1 1, Form (cell 2 1)) ∷ (addr 2 1, Form (cell 1 1)) ∷ (addr 3 1, Form (call F.Fun.IfError (cell 1 1 ∷ int 7 ∷ []))) ∷ []

abbrev key : ℕ → Key
key c = Cell Top (addr c 1)

abbrev at_level : ℕ → Key → Option Outcome
at_level = val (program (world Version.One small_cycle []))

ring : (n : ℕ) → (at_level n (key 1) ≡ None) × (at_level n (key 2) ≡ None)
unfolding program evaluation cell_value apply
ring zero = (refl, refl)
ring (suc n) = (rw (ring n).1 refl, rw (ring n).0 refl)

small_cycle_first : Loops (program (world Version.One small_cycle [])) (key 1)
small_cycle_first n = (ring n).0

small_cycle_third : Loops (program (world Version.One small_cycle [])) (key 3)
unfolding program evaluation cell_value apply
small_cycle_third zero = refl
small_cycle_third (suc n) = rw (ring n).0 refl

small_cycle_shows : IsShown (world Version.One small_cycle []) (addr 3 1) Cycle
small_cycle_shows = cycle _ refl small_cycle_third

-- A1 =IF(C1=0,SEQUENCE(1,3),5) reads itself through C1, where its own array covers that
alternation_odd : Loops (program (world Version.One alternation (permitted 1 1 1 3 ∷ []))) (key 1)
unfolding program evaluation cell_value apply
alternation_odd zero = refl
alternation_odd (suc n) = rw (alternation_odd n) refl

-- A1 1, B1 =C1+A1, C1 =G(A1:B1,A1,5): the copy of B1 reads C1 in the top sheet
abbrev cycle_through_copy : Cells
cycle_through_copy = (addr 1 1, number 1) ∷ (addr 2 1, Form (plus (cell 3 1) (cell 1 1))) ∷ (addr 3 1, Form (call F.Fun.G (area 1 1 2 1 ∷ cell 1 1 ∷ int 5 ∷ []))) ∷ []

abbrev copy : SheetValue
copy = sheet_value (range (addr 1 1) (addr 2 1)) (override_and (addr 1 1) (Value.One (Scalar.Int (pos 5))) no_override) Top 1 2

abbrev level13 : ℕ → Key → Option Outcome
level13 = val (program (world Version.One cycle_through_copy []))

copy_ring : (n : ℕ) → (level13 n (key 3) ≡ None) × (level13 n (Settle copy) ≡ None) × (level13 n (Cell (In copy []) (addr 2 1)) ≡ None)
unfolding program evaluation cell_value apply
copy_ring zero = (refl, refl, refl)
copy_ring (suc n) = (rw (copy_ring n).1 refl, rw (copy_ring n).2 refl, rw (copy_ring n).0 refl)

cycle_through_copy_c1 : Loops (program (world Version.One cycle_through_copy [])) (key 3)
cycle_through_copy_c1 n = (copy_ring n).0

cycle_through_copy_b1 : Loops (program (world Version.One cycle_through_copy [])) (key 2)
unfolding program evaluation cell_value apply
cycle_through_copy_b1 zero = refl
cycle_through_copy_b1 (suc n) = rw (cycle_through_copy_c1 n) refl

-- A1 =IF(SEQUENCE(1,2)>0,1,A1) loops in version Two, which evaluates both branches
abbrev cycle_in_choice : Cells
cycle_in_choice = alone (call F.Fun.If (F.Formula.Compare F.Op.Gt (sequence 1 2) (int 0) ∷ int 1 ∷ cell 1 1 ∷ []))

cycle_in_choice_two : Loops (program (world Version.Two cycle_in_choice [])) (key 1)
unfolding program evaluation cell_value apply
cycle_in_choice_two zero = refl
cycle_in_choice_two (suc n) = rw (cycle_in_choice_two n) refl

cycle_in_choice_one : shows (world Version.One cycle_in_choice []) 1 1 1 ≡ Some (err ErrKind.Value)
unfolding program evaluation cell_value apply
cycle_in_choice_one = refl
