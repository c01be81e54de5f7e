-- Worked explanations, by computation.
use Rattle.std.proofs.Common.{◌≡◌, ℕ, List, [], ◌∷◌, Some, refl}
use Rattle.gl_calculus.specs.Values.Functions.{apply}
use Rattle.gl_calculus.specs.Evaluation.World.{world}
use Rattle.gl_calculus.specs.Evaluation.Evaluation.{program, evaluation, cell_value}
use Rattle.gl_calculus.specs.Grid.Limits.{max_demanded}
use Rattle.gl_calculus.specs.Grid.Grid.{addr, size}
use Rattle.gl_calculus.specs.Values.Value as V
use Rattle.gl_calculus.specs.Values.Value.{Blank, Oracle, Top, Array, scalars}
use Rattle.gl_calculus.specs.Formulas.Formula.{Version, Cells, Form}
use Rattle.gl_calculus.specs.Formulas.Formula as F
use Rattle.gl_calculus.specs.Evaluation.Key.{Key, Cell, Outcome, same_key}
use Rattle.gl_calculus.specs.Calculation.Calculation.{Shown, Cycle, Value}
use Rattle.gl_examples.proofs.Worked.Sheets.{int, cell, plus, call, one, permitted}
use Rattle.gl_calculus.specs.Explanation.Walk.{Claim, Explained, walk}
use Rattle.gl_calculus.specs.Explanation.Certificate.{Certificate, verdict, Accepted, Note, Loop, Wrong, start, key_at, says, Answer, Explains, cert}

-- A1 =SEQUENCE(2,1), B1 =A2+1
abbrev pub spilled_sum : Cells
spilled_sum = (addr 1 1, Form (call F.Fun.Sequence (int 2 ∷ int 1 ∷ []))) ∷ (addr 2 1, Form (plus (cell 1 2) (int 1))) ∷ []

abbrev pub spilled_sum_oracle : Oracle
spilled_sum_oracle = permitted 1 1 2 1 ∷ []

abbrev top : ℕ → ℕ → Key
top c r = Cell Top (addr c r)

abbrev value : ℕ → Outcome
value n = Outcome.Value (V.Value.One (one n))

abbrev pair : Outcome
pair = Outcome.Value (Array (size 2 1) (scalars (one 1 ∷ one 2 ∷ [])))

abbrev certificate : List (Claim Key Outcome) → List Key → Shown → Certificate
certificate ns ls x = record { notes = ns; loops = ls; shown = x }

abbrev b1_notes : List (Claim Key Outcome)
b1_notes = (top 1 1, pair) ∷ (top 2 1, value 3) ∷ []

b1_walk : walk same_key max_demanded (program (world Version.One spilled_sum spilled_sum_oracle)) 5 [] (start (key_at spilled_sum spilled_sum_oracle (addr 2 1))) ≡ Some (Explained b1_notes [])
unfolding program evaluation cell_value apply
b1_walk = refl

b1_says : says spilled_sum spilled_sum_oracle (addr 2 1) b1_notes [] ≡ Some (Value (one 3))
b1_says = refl

b1_explained : Explains (world Version.One spilled_sum spilled_sum_oracle) (addr 2 1) (Answer.Cert (certificate b1_notes [] (Value (one 3))))
b1_explained = cert (5, b1_walk) b1_says

b1_accepted : verdict (world Version.One spilled_sum spilled_sum_oracle) (addr 2 1) (certificate b1_notes [] (Value (one 3))) ≡ Accepted
unfolding program evaluation cell_value apply
b1_accepted = refl

b1_other_value : verdict (world Version.One spilled_sum spilled_sum_oracle) (addr 2 1) (certificate ((top 1 1, pair) ∷ (top 2 1, value 4) ∷ []) [] (Value (one 4))) ≡ Note 1
unfolding program evaluation cell_value apply
b1_other_value = refl

b1_exchanged : verdict (world Version.One spilled_sum spilled_sum_oracle) (addr 2 1) (certificate ((top 2 1, value 3) ∷ (top 1 1, pair) ∷ []) [] (Value (one 3))) ≡ Note 0
unfolding program evaluation cell_value apply
b1_exchanged = refl

b1_other_shown : verdict (world Version.One spilled_sum spilled_sum_oracle) (addr 2 1) (certificate b1_notes [] (Value (one 4))) ≡ Wrong
unfolding program evaluation cell_value apply
b1_other_shown = refl

-- the same note twice
b1_twice : verdict (world Version.One spilled_sum spilled_sum_oracle) (addr 2 1) (certificate ((top 1 1, pair) ∷ (top 1 1, pair) ∷ []) [] (Value (one 3))) ≡ Note 1
unfolding program evaluation cell_value apply
b1_twice = refl

-- an address that the array covers, by the array's note alone
a2_accepted : verdict (world Version.One spilled_sum spilled_sum_oracle) (addr 1 2) (certificate ((top 1 1, pair) ∷ []) [] (Value (one 2))) ≡ Accepted
unfolding program evaluation cell_value apply
a2_accepted = refl

-- an address with no key
z9_accepted : verdict (world Version.One spilled_sum spilled_sum_oracle) (addr 26 9) (certificate [] [] (Value Blank)) ≡ Accepted
z9_accepted = refl

-- A1 =B1, B1 =A1, C1 =IFERROR(A1,7)
abbrev pub ring : Cells
ring = (addr 1 1, Form (cell 2 1)) ∷ (addr 2 1, Form (cell 1 1)) ∷ (addr 3 1, Form (call F.Fun.IfError (cell 1 1 ∷ int 7 ∷ []))) ∷ []

abbrev c1_loops : List Key
c1_loops = top 3 1 ∷ top 1 1 ∷ top 2 1 ∷ []

c1_walk : walk same_key max_demanded (program (world Version.One ring [])) 3 [] (start (key_at ring [] (addr 3 1))) ≡ Some (Explained [] c1_loops)
unfolding program evaluation cell_value apply
c1_walk = refl

c1_accepted : verdict (world Version.One ring []) (addr 3 1) (certificate [] c1_loops Cycle) ≡ Accepted
unfolding program evaluation cell_value apply
c1_accepted = refl

c1_left_out : verdict (world Version.One ring []) (addr 3 1) (certificate [] (top 3 1 ∷ top 1 1 ∷ []) Cycle) ≡ Loop 1
unfolding program evaluation cell_value apply
c1_left_out = refl

-- an address under a root that loops, where an oracle not of its rounds permits it: a blank
under_loop : verdict (world Version.One ring (permitted 1 1 3 1 ∷ [])) (addr 1 2) (certificate [] (top 1 1 ∷ top 2 1 ∷ []) (Value Blank)) ≡ Accepted
unfolding program evaluation cell_value apply
under_loop = refl
