-- Runs of the machine, by computation.
use Rattle.std.proofs.Common.{◌≡◌, ℕ, zero, suc, List, [], ◌∷◌, pos, Option, Some, refl}
use Rattle.gl_calculus.specs.Values.Functions.{apply}
use Rattle.gl_calculus.specs.Evaluation.World.{world}
use Rattle.gl_calculus.specs.Evaluation.Evaluation.{program, evaluation, cell_value}
use Rattle.gl_calculus.specs.Grid.Grid.{addr}
use Rattle.gl_calculus.specs.Values.Value as V
use Rattle.gl_calculus.specs.Values.Value.{Top, Oracle}
use Rattle.gl_calculus.specs.Formulas.Formula.{Version, Cells}
use Rattle.gl_calculus.specs.Grid.Limits.{max_demanded}
use Rattle.gl_calculus.specs.Evaluation.Key.{Key, Cell, same_key, Outcome, Abort, Budget}
use Rattle.gl_machine.specs.Machine.{Entry, Status, Idle, Waiting, Resolved, picks, start, table}
use Rattle.gl_examples.proofs.Worked.Examples.{spilled_product, spilled_product_first}
use Rattle.gl_examples.proofs.Worked.Deep.{descent}

abbrev cell : ℕ → ℕ → Key
cell c r = Cell Top (addr c r)

abbrev machine : Cells → Oracle → List Key → List ℕ → List (Entry Key Outcome)
machine S w seeds = picks same_key max_demanded (program (world Version.One S w)) (start seeds)

abbrev entry : Key → Status Key Outcome → Entry Key Outcome
entry k s = record { key = k; status = s }

-- the other cell first: it waits, is woken, and is resolved
spilled_product_waits : machine spilled_product spilled_product_first (cell 1 1 ∷ cell 2 1 ∷ []) (1 ∷ []) ≡ entry (cell 1 1) Idle ∷ entry (cell 2 1) (Waiting (cell 1 1)) ∷ []
unfolding program evaluation cell_value apply
spilled_product_waits = refl

abbrev spilled_three : List ℕ → Outcome
spilled_three ns = Outcome.Value (V.Value.Array (record { rows = 3; cols = 1 }) (ints ns))
  where
    ints : List ℕ → V.Scalars
    ints [] = V.no_scalar
    ints (n ∷ ms) = V.scalar_and (V.Scalar.Int (pos n)) (ints ms)

spilled_product_runs : machine spilled_product spilled_product_first (cell 1 1 ∷ cell 2 1 ∷ []) (1 ∷ 0 ∷ 0 ∷ []) ≡ entry (cell 1 1) (Resolved (spilled_three (1 ∷ 2 ∷ 3 ∷ []))) ∷ entry (cell 2 1) (Resolved (spilled_three (2 ∷ 4 ∷ 6 ∷ []))) ∷ []
unfolding program evaluation cell_value apply
spilled_product_runs = refl

-- picks of the first idle key
abbrev first_picks : ℕ → List ℕ
first_picks zero = []
first_picks (suc n) = 0 ∷ first_picks n

abbrev deep_outcome : ℕ → ℕ → Option Outcome
deep_outcome k n = table same_key (machine (descent k) [] (cell 4 1 ∷ []) (first_picks n)) (cell 4 1)

descent_8 : deep_outcome 8 80 ≡ Some (Outcome.Value (V.Value.One (V.Scalar.Int (pos 36))))
unfolding program evaluation cell_value apply
descent_8 = refl

descent_95 : deep_outcome 95 1050 ≡ Some (Outcome.Value (V.Value.One (V.Scalar.Int (pos 4560))))
unfolding program evaluation cell_value apply
descent_95 = refl

descent_96 : deep_outcome 96 1060 ≡ Some (Abort Budget.Depth)
unfolding program evaluation cell_value apply
descent_96 = refl
