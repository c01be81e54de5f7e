-- The held answer: what is seen of it, and what it keeps of the sheet; and what a calculator keeps.
use Rattle.std.specs.Prelude.{◌≡◌, ◌≤◌, ℕ, ◌+◌, List, [], length, vec_len, vec_capacity, Vec, ◌⊎◌, Option, Some, None, IsSome, IfSome, option_map}
use Rattle.std.specs.declared.alloc.Global.{Global}
use Rattle.gl_calculus.specs.Grid.Grid.{Addr, grid}
use Rattle.gl_calculus.specs.Values.Value.{Oracle}
use Rattle.gl_calculus.specs.Formulas.Formula.{Version, Cells, IsSheet}
use Rattle.gl_calculus.specs.Evaluation.Oracle.{ArePermits}
use Rattle.gl_calculus.specs.Calculation.Calculation.{has_content, IsUnspent}
use Rattle.gl_calculus.specs.Calculation.Memory.{Table, IsTableOf, AreTables}
use Rattle.gl_calculus.specs.Evaluation.World.{world}
use Rattle.gl_ast.specs.View.{version_tree}
use Rattle.gl_calc.specs.Kept.{AreEarlier}
use Rattle.gl_calc.specs.Progress.{either, last_of}
use Rattle.gl_calc.specs.Shown.{TellsValues}
use Rattle.gl_calc.specs.Answers.{Takes}
use Rattle.gl_calc.specs.declared.answers.Answer.{Answer}
use Rattle.gl_calc.specs.declared.answers.Answer.TheVariants as answer
use Rattle.gl_calc.specs.declared.ending.Answered.{Answered}
use Rattle.gl_calc.specs.Ending.{IsSettledTable}
use Rattle.gl_ast.specs.declared.Version.{Version as AstVersion}

-- the table of the held answer: its own, or the last that is kept
abbrev pub table_of : List Table → Answered → Option Table
table_of tables h = either h.own (last_of tables)

abbrev pub answer_of : List Table → Option Answered → Option (Version × Oracle)
answer_of tables None = None
answer_of tables (Some h) = option_map (λ (t : Table). (version_tree h.version, t.oracle)) (table_of tables h)

-- the table is that of an unspent round under its oracle, whose permits are those of the sheet and whose roots have values
pub record IsHeld (version : Version) (S : Cells) (t : Table) : Type 0 where
  pub table : IsTableOf (world version S t.oracle) t
  pub unspent : IsUnspent (world version S t.oracle)
  pub permits : ArePermits grid (has_content S) t.oracle
  pub tells : TellsValues S t

-- it has such a table; where that is the last that is kept, the tables are of its version
abbrev pub IsKept : Cells → List Table → Option Answered → Type 0
IsKept S tables None = Unit {0}
IsKept S tables (Some h) = (t : Table) × (table_of tables h ≡ Some t) × IsHeld (version_tree h.version) S t

-- nothing was touched since the latest calculation, which gave this answer and left these tables
pub record Stands (version : Version) (S : Cells) (tables : List Table) (x : Answer) : Type 0 where
  pub ordered : IsSheet S
  pub made : AreTables version S tables
  pub before : List Table
  pub touched : List Addr
  pub first : ℕ
  pub last : ℕ
  pub takes : Takes version S before touched x first last

-- the held answer has a table of its own
abbrev pub HasOwn : Option Answered → Type 0
HasOwn None = Unit {0}
HasOwn (Some h) = IsSome h.own

-- it has one, or the latest calculation settled to it
abbrev pub IsOfLatest : Option Answered → Version → Option Answer → Type 0
IsOfLatest None v x = Unit {0}
IsOfLatest (Some h) v x = IsSome h.own ⊎ ((version_tree h.version ≡ v) × IsSome x)

-- the held answer before and after its table was set apart, with the tables that are kept
pub record Parts (old : List Table) (h : Option Answered) (new : List Table) (r : Option Answered) : Type 0 where
  pub answer : (S : Cells) (rest : List Table) → IsKept S old h → answer_of rest r ≡ answer_of old h
  pub kept : (S : Cells) (rest : List Table) → IsKept S old h → IsKept S rest r
  pub has_own : (S : Cells) → IsKept S old h → HasOwn r
  pub same : HasOwn h → new ≡ old

abbrev pub held_by : Answer → AstVersion → Option Table → Option Answered → Option Answered
held_by (answer.Settled rounds) version beyond held = Some (record { version = version; own = beyond })
held_by (answer.Spent k) version beyond held = held

-- the held answer is the one to which the latest calculation settled
abbrev pub HoldsLatest : Version → Cells → List Table → Answer → Option Answered → Type 0
HoldsLatest version S tables (answer.Settled rounds) held = (h : Answered) × (held ≡ Some h) × (version_tree h.version ≡ version) × ((t : Table) × (table_of tables h ≡ Some t) × IsSettledTable version S rounds t)
HoldsLatest version S tables (answer.Spent k) held = Unit {0}

-- what a calculator keeps
pub record IsCalc (S : Cells) (held : Option Answered) (tables : List Table) (version : Version) (touched : Vec Addr Global) (ended : Option Answer) : Type 0 where
  -- room for one more mark of each content
  pub room : vec_len touched + length S ≤ vec_capacity touched
  pub earlier : AreEarlier version S tables touched.items
  pub answer : IsKept S tables held
  pub latest : IsOfLatest held version ended
  pub stands : IfSome ended (λ x. (touched.items ≡ []) × Stands version S tables x × HoldsLatest version S tables x held)
