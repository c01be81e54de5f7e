-- One round over the sheet: what it gives, why it may fail, and what one call of it does.
use Rattle.std.specs.Prelude.{◌≡◌, ℕ, List, Result, Ok, Err}
use Rattle.gl_calculus.specs.Grid.Grid.{Addr}
use Rattle.gl_calculus.specs.Values.Value.{Oracle}
use Rattle.gl_calculus.specs.Evaluation.Oracle.{Sizes}
use Rattle.gl_calculus.specs.Formulas.Formula.{Version, Cells, formula_addresses}
use Rattle.gl_calculus.specs.Evaluation.Key.{Budget}
use Rattle.gl_calculus.specs.Calculation.Calculation.{Arrays, FirstAbort, SpendsWork, IsUnspent}
use Rattle.gl_calculus.specs.Calculation.Memory.{Table, IsTableOf}
use Rattle.gl_calculus.specs.Steps.Costs.{Finishes, Breaks}
use Rattle.gl_calculus.specs.Evaluation.World.{World, world}
use Rattle.gl_calc.specs.Progress.{Progress, rest_of, next_base, made_with, beyond_with}
use Rattle.gl_calc.specs.declared.ending.RoundFault.{RoundFault}
use Rattle.gl_calc.specs.declared.ending.RoundFault.TheVariants as fault

module _ (W : World) where
  abbrev pub Gives : Sizes → Type 0
  Gives zs = IsUnspent W × Arrays W (formula_addresses W.sheet) zs

  -- the work is finished, and this is the first formula that ended as spent
  abbrev pub FailsAt : Budget → Addr → Type 0
  FailsAt b a = (SpendsWork W → ⊥) × FirstAbort W (formula_addresses W.sheet) a b

  abbrev pub Fails : RoundFault → Type 0
  Fails fault.Work = SpendsWork W
  Fails (fault.Depth a) = FailsAt Budget.Depth a
  Fails (fault.CopyRounds a) = FailsAt Budget.CopyRounds a
  Fails fault.NoMemory = Unit {0}

  -- the steps of a round whose work ends with this fault
  abbrev pub Stops : Table × List Addr → RoundFault → ℕ → ℕ → Type 0
  Stops b fault.Work n m = SpendsWork W × Breaks W b n m
  Stops b (fault.Depth a) n m = ⊥
  Stops b (fault.CopyRounds a) n m = ⊥
  Stops b fault.NoMemory n m = Unit {0}

-- A finished round under w keeps its table, and its steps go from n to m.
pub record Keeps (version : Version) (S : Cells) (touched : List Addr) (old : Progress) (w : Oracle) (new : Progress) (n m : ℕ) : Type 0 where
  pub table : Table
  pub is_table : IsTableOf (world version S w) table
  pub earlier : new.earlier ≡ rest_of old.earlier
  pub made : new.made ≡ made_with old.made table
  pub beyond : new.beyond ≡ beyond_with old.made table
  pub steps : (i : ℕ) → Finishes (world version S w) (next_base old touched) i n m

-- what one call does, by its answer
abbrev pub Calls : Version → Cells → List Addr → Progress → Oracle → Result Sizes RoundFault → Progress → ℕ → ℕ → Type 0
Calls version S touched old w (Ok zs) new n m = Keeps version S touched old w new n m
Calls version S touched old w (Err fault.Work) new n m = (new.made ≡ old.made) × Breaks (world version S w) (next_base old touched) n m
Calls version S touched old w (Err (fault.Depth a)) new n m = Keeps version S touched old w new n m
Calls version S touched old w (Err (fault.CopyRounds a)) new n m = Keeps version S touched old w new n m
Calls version S touched old w (Err fault.NoMemory) new n m = Unit {0}
