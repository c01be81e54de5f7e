-- The steps of a calculation, round by round, where rounds begin with tables from before.
use Rattle.std.specs.Prelude.{ℕ, suc, List, [], slice_get}
use Rattle.gl_calculus.specs.Grid.Grid.{Addr}
use Rattle.gl_calculus.specs.Values.Value.{Oracle}
use Rattle.gl_calculus.specs.Formulas.Formula.{Version, Cells}
use Rattle.gl_calculus.specs.Evaluation.World.{World, world}
use Rattle.gl_calculus.specs.Calculation.Calculation as C
use Rattle.gl_calculus.specs.Calculation.Calculation.{GoesOn, Ends}
use Rattle.gl_calculus.specs.Calculation.Memory.{Table, no_table, base, IsTableOf}
use Rattle.gl_calculus.specs.Steps.Costs.{Finishes, Breaks}

-- the steps of the last round, by the answer
abbrev pub Last : World → C.Answer → Table × List Addr → ℕ → ℕ → ℕ → Type 0
Last W (C.Spent C.Work) b i = Breaks W b
Last W r b i = Finishes W b i

module _ (version : Version) (S : Cells) (tables : List Table) (touched : List Addr) where
  -- the calculation comes to round i, under w; before it stands the table of the round before; and
  -- the steps of the rounds so far go from n to m
  pub data Comes (n : ℕ) : ℕ → Oracle → Table → ℕ → Type 0 where
    first : Comes n 0 [] no_table n
    later : {i m k : ℕ} {w next : Oracle} {before : Table} → Comes n i w before m →
        (t : Table) → IsTableOf (world version S w) t →
        Finishes (world version S w) (base (slice_get tables i) touched before) i m k →
        GoesOn version S i w next → Comes n (suc i) next t k

  -- the steps of all rounds to the answer go from n to m
  pub record Costs (r : C.Answer) (n m : ℕ) : Type 0 where
    pub round : ℕ
    pub oracle : Oracle
    pub table : Table
    pub before : ℕ
    pub comes : Comes n round oracle table before
    pub ends : Ends version S round oracle r
    pub last :
        Last (world version S oracle) r (base (slice_get tables round) touched table) round before m
