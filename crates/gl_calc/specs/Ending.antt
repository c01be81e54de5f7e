-- How a calculation ends, and the tables that it leaves.
use Rattle.std.specs.Prelude.{◌≡◌, ℕ, List, Option, Some, None}
use Rattle.gl_calculus.specs.Grid.Grid.{Addr}
use Rattle.gl_calculus.specs.Formulas.Formula.{Version, Cells}
use Rattle.gl_calculus.specs.Calculation.Calculation as C
use Rattle.gl_calculus.specs.Calculation.Calculation.{IsAnswer, IsUnspent}
use Rattle.gl_calculus.specs.Calculation.Memory.{Table, IsTableOf, AreTables}
use Rattle.gl_calculus.specs.Evaluation.World.{world}
use Rattle.gl_rounds.specs.declared.IterFault.{IterFault}
use Rattle.gl_rounds.specs.declared.IterFault.TheVariants as rounds
use Rattle.gl_calc.specs.Answers.{Takes}
use Rattle.gl_calc.specs.Progress.{either, last_of}
use Rattle.gl_calc.specs.declared.answers.Answer.{Answer}
use Rattle.gl_calc.specs.declared.answers.Answer.TheVariants as answer
use Rattle.gl_calc.specs.declared.answers.SpentKind.{SpentKind}
use Rattle.gl_calc.specs.declared.answers.SpentKind.TheVariants as spent
use Rattle.gl_calc.specs.declared.ending.Ended.{Ended}
use Rattle.gl_calc.specs.declared.ending.RoundFault.{RoundFault}
use Rattle.gl_calc.specs.declared.ending.RoundFault.TheVariants as fault

-- the table is that of the last round, under the settled oracle
pub record IsSettledTable (version : Version) (S : Cells) (rounds : ℕ) (t : Table) : Type 0 where
  pub table : IsTableOf (world version S t.oracle) t
  pub unspent : IsUnspent (world version S t.oracle)
  pub answer : IsAnswer version S (C.Settled t.oracle rounds)

-- where the calculation settled, the last table is such a one
abbrev pub HasLast : Version → Cells → Answer → Option Table → Type 0
HasLast version S (answer.Settled rounds) o = (t : Table) × (o ≡ Some t) × IsSettledTable version S rounds t
HasLast version S (answer.Spent k) o = Unit {0}

-- the calculation ends so, and its steps go from n to m
pub record EndsWith (version : Version) (S : Cells) (tables : List Table) (touched : List Addr) (x : Ended) (n m : ℕ) : Type 0 where
  pub takes : Takes version S tables touched x.answer n m
  pub made : AreTables version S x.tables.items
  pub last : HasLast version S x.answer (either x.beyond (last_of x.tables.items))

-- the budget that is spent where a round ends with this fault, and where the rounds do; none where there is no memory
abbrev pub spent_in : RoundFault → Option SpentKind
spent_in fault.Work = Some spent.Work
spent_in (fault.Depth a) = Some (spent.Depth a)
spent_in (fault.CopyRounds a) = Some (spent.CopyRounds a)
spent_in fault.NoMemory = None

abbrev pub spent_by : IterFault RoundFault → Option SpentKind
spent_by (rounds.Rounds a) = Some (spent.Rounds a)
spent_by (rounds.Round e) = spent_in e
spent_by rounds.NoMemory = None
