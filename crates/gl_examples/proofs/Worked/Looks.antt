-- What evaluations demand and look at.
use Rattle.std.proofs.Common.{◌≡◌, ℕ, List, [], ◌∷◌, map, None, refl}
use Rattle.gl_calculus.specs.Values.Functions.{apply}
use Rattle.gl_calculus.specs.Evaluation.World.{world}
use Rattle.gl_calculus.specs.Evaluation.Evaluation.{program, evaluation, cell_value}
use Rattle.gl_calculus.specs.Grid.Grid.{addr, Range, range, single, size}
use Rattle.gl_calculus.specs.Values.ErrKind.{ErrKind}
use Rattle.gl_calculus.specs.Values.Value.{Oracle, Value, scalars, SheetValue, sheet_value, override_and, no_override, Top, In}
use Rattle.gl_calculus.specs.Formulas.Formula.{Version, Cells, Form}
use Rattle.gl_calculus.specs.Formulas.Formula as F
use Rattle.gl_calculus.specs.Computation.Query.{Returns, Looks, Asks, found, Need, asked, looked}
use Rattle.gl_calculus.specs.Computation.Reads.{IsNote}
use Rattle.gl_calculus.specs.Evaluation.Key.{Key, Cell, Settle, same_key, Outcome, Settled}
use Rattle.gl_examples.proofs.Worked.Sheets.{int, cell, call, plus, area, permitted, one, err}
use Rattle.gl_examples.proofs.Worked.Examples.{spilled_product, spilled_product_first, area_copy}

abbrev top_cell : ℕ → ℕ → Key
top_cell c r = Cell Top (addr c r)

-- what a key of a sheet gives, reads and looks at
abbrev Evaluates : Cells → Oracle → Key → Outcome → List Key → List Range → Type 0
Evaluates S w = IsNote same_key (program (world Version.One S w))

abbrev array : ℕ → ℕ → List ℕ → Outcome
array m n xs = Outcome.Value (Value.Array (size m n) (scalars (map one xs)))

-- B1 =A1#*2 reads A1, and looks at itself and at A1
spilled_product_b1 : Evaluates spilled_product spilled_product_first (top_cell 2 1) (array 3 1 (2 ∷ 4 ∷ 6 ∷ [])) (top_cell 1 1 ∷ []) (single (addr 2 1) ∷ single (addr 1 1) ∷ [])
unfolding program evaluation cell_value apply
spilled_product_b1 = (_, Looks (Looks (Asks (1, refl) Returns)), refl)

-- under the empty oracle it reads nothing
spilled_product_b1_empty : Evaluates spilled_product [] (top_cell 2 1) (Outcome.Value (Value.One (err ErrKind.Ref))) [] (single (addr 2 1) ∷ single (addr 1 1) ∷ [])
unfolding program evaluation cell_value apply
spilled_product_b1_empty = (_, Looks (Looks Returns), refl)

-- A1 =SEQUENCE(3,1), C1 =SUM(A1:B3)+A2: the root is listed once in each reference, and demanded each time
abbrev sums : Cells
sums = (addr 1 1, Form (call F.Fun.Sequence (int 3 ∷ int 1 ∷ []))) ∷ (addr 3 1, Form (plus (call F.Fun.Sum (area 1 1 2 3 ∷ [])) (cell 1 2))) ∷ []

sums_c1 : Evaluates sums (permitted 1 1 3 1 ∷ []) (top_cell 3 1) (Outcome.Value (Value.One (one 8))) (top_cell 1 1 ∷ [])
    (single (addr 3 1) ∷ range (addr 1 1) (addr 2 3) ∷ single (addr 1 1) ∷ single (addr 1 2) ∷ single (addr 1 1) ∷ [])
unfolding program evaluation cell_value apply
sums_c1 = (_, Looks (Looks (Asks (1, refl) (Looks (Asks (1, refl) (Asks (1, refl) (Looks (Looks (Asks (1, refl) Returns)))))))), refl)

-- a step of B1 that knows nothing needs A1
spilled_product_step : found (λ k. None) (program (world Version.One spilled_product spilled_product_first) (top_cell 2 1)) ≡ Need (top_cell 1 1)
unfolding program evaluation cell_value apply
spilled_product_step = refl

spilled_product_asked : asked (λ k. None) (program (world Version.One spilled_product spilled_product_first) (top_cell 2 1)) ≡ top_cell 1 1 ∷ []
unfolding program evaluation cell_value apply
spilled_product_asked = refl

spilled_product_looked : looked (λ k. None) (program (world Version.One spilled_product spilled_product_first) (top_cell 2 1)) ≡ single (addr 2 1) ∷ single (addr 1 1) ∷ []
unfolding program evaluation cell_value apply
spilled_product_looked = refl

-- E1 =G(A1:C1,A1,6) asks for the settling before it looks at the range that it reads, and then for C1 in the copy
abbrev copy : SheetValue
copy = sheet_value (range (addr 1 1) (addr 3 1)) (override_and (addr 1 1) (Value.One (one 6)) no_override) Top 1 2

abbrev copy_c1 : Key
copy_c1 = Cell (In copy []) (addr 3 1)

area_copy_e1 : Evaluates area_copy [] (top_cell 5 1) (array 1 3 (6 ∷ 4 ∷ 52 ∷ [])) (Settle copy ∷ copy_c1 ∷ []) (single (addr 5 1) ∷ range (addr 1 1) (addr 3 1) ∷ [])
unfolding program evaluation cell_value apply
area_copy_e1 = (_, Looks (Asks (2, refl) (Looks (Asks (1, refl) Returns))), refl)

-- a settling looks at its region once
area_copy_settle : Evaluates area_copy [] (Settle copy) (Settled []) (copy_c1 ∷ []) (range (addr 1 1) (addr 3 1) ∷ [])
unfolding program evaluation cell_value apply
area_copy_settle = (_, Looks (Asks (1, refl) Returns), refl)

-- C1 =A1*A1+B1*B1 in the copy
area_copy_copy_c1 : Evaluates area_copy [] copy_c1 (Outcome.Value (Value.One (one 52))) [] (single (addr 3 1) ∷ single (addr 1 1) ∷ single (addr 1 1) ∷ single (addr 2 1) ∷ single (addr 2 1) ∷ [])
unfolding program evaluation cell_value apply
area_copy_copy_c1 = (_, Looks (Looks (Looks (Looks (Looks Returns)))), refl)
