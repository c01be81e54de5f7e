-- The whole calculation: round by round to an oracle that is its own next one, or to a spent
-- budget; and what is shown then.
use Rattle.std.specs.Prelude.{◌≡◌, ◌≢◌, ◌⊎◌, ℕ, suc, ◌+◌, Bool, true, false, List, [], ◌∷◌}
use Rattle.std.specs.Prelude.{length, map, Option, Some, None, is_some, Ok, IsFalse}
use Rattle.std.specs.List.{AllByRecursion}
use Rattle.gl_calculus.specs.Computation.Lists.{MoreThan}
use Rattle.gl_calculus.specs.Computation.Query.{Has, Loops, Gives}
use Rattle.gl_calculus.specs.Computation.Evaluation.{given}
use Rattle.gl_calculus.specs.Computation.Demanded.{Demanded}
use Rattle.gl_calculus.specs.Grid.Limits.{max_demanded, extra_rounds}
use Rattle.gl_calculus.specs.Grid.Grid.{Addr, Size, grid}
use Rattle.gl_calculus.specs.Values.Value.{Oracle, Scalar, Blank, Scalars, One, Array, Top}
use Rattle.gl_calculus.specs.Formulas.Formula.{Version, Formula, Form, Cells, content}
use Rattle.gl_calculus.specs.Formulas.Formula.{formula_addresses}
use Rattle.gl_calculus.specs.Evaluation.Oracle.{entry_at, Cover, cover, Sizes, grant}
use Rattle.gl_calculus.specs.Evaluation.Oracle.{first_difference, Obstacle, blocker}
use Rattle.gl_calculus.specs.Values.Value.{Entry}
use Rattle.gl_calculus.specs.Evaluation.Facts.{facts}
use Rattle.gl_calculus.specs.Evaluation.Key.{Key, Cell, Budget, Outcome, Abort}
use Rattle.gl_calculus.specs.Evaluation.Reference.{at_address}
use Rattle.gl_calculus.specs.Evaluation.World.{World, world}
use Rattle.gl_calculus.specs.Evaluation.Evaluation.{program}

-- the addresses of the sheet that have content
abbrev pub has_content : Cells → Addr → Bool
has_content S a = is_some (content S a)

pub data SpentKind : Type 0 where
  Rounds : Addr → SpentKind
  CopyRounds Depth : Addr → SpentKind
  Work : SpentKind

abbrev pub spent_at : Budget → Addr → SpentKind
spent_at Budget.Depth a = SpentKind.Depth a
spent_at Budget.CopyRounds a = SpentKind.CopyRounds a

pub data Answer : Type 0 where
  Settled : Oracle → (rounds : ℕ) → Answer
  Spent : SpentKind → Answer

abbrev pub is_array : Outcome → Bool
is_array (Outcome.Value (Array z xs)) = true
is_array o = false

abbrev pub is_abort : Outcome → Bool
is_abort (Abort b) = true
is_abort o = false

-- the rounds that may be made
abbrev pub round_budget : Cells → ℕ
round_budget S = length (formula_addresses S) + extra_rounds

-- what an address shows: a cycle is only shown, and is no value
pub data Shown : Type 0 where
  Cycle : Shown
  Value : Scalar → Shown

module _ (W : World) where
  -- the outcome of a formula cell of the top sheet
  abbrev pub TopHas : Addr → Outcome → Type 0
  TopHas a o = Has (program W) (Cell Top a) o

  abbrev pub TopLoops : Addr → Type 0
  TopLoops a = Loops (program W) (Cell Top a)

  -- the cell loops, or its outcome fails the test
  abbrev pub TopFails : (Outcome → Bool) → Addr → Type 0
  TopFails test a = TopLoops a ⊎ ((o : Outcome) × TopHas a o × IsFalse (test o))

  -- the arrays among the values of these formula cells
  pub data Arrays : List Addr → Sizes → Type 0 where
    none : Arrays [] []
    array : {a : Addr} {z : Size} {rest : List Addr} {zs : Sizes} (xs : Scalars) →
        TopHas a (Outcome.Value (Array z xs)) → Arrays rest zs → Arrays (a ∷ rest) ((a, z) ∷ zs)
    other : {a : Addr} {rest : List Addr} {zs : Sizes} →
        TopFails is_array a → Arrays rest zs → Arrays (a ∷ rest) zs

  -- the oracle of the next round: permits are granted anew to the arrays of this one
  abbrev pub IsNext : Oracle → Type 0
  IsNext next =
      (zs : Sizes) × Arrays (formula_addresses W.sheet) zs ×
      (next ≡ grant grid (has_content W.sheet) zs)

  -- the keys that a round demands
  abbrev pub DemandedIn : Key → Type 0
  DemandedIn = Demanded (program W) (map (Cell Top) (formula_addresses W.sheet))

  abbrev pub SpendsWork : Type 0
  SpendsWork = MoreThan max_demanded DemandedIn

  -- the first of these formula cells that ends as spent
  pub data FirstAbort : List Addr → Addr → Budget → Type 0 where
    here : {a : Addr} {b : Budget} {rest : List Addr} →
        TopHas a (Abort b) → FirstAbort (a ∷ rest) a b
    behind : {a c : Addr} {b : Budget} {rest : List Addr} →
        TopFails is_abort a → FirstAbort rest c b → FirstAbort (a ∷ rest) c b

  -- neither the work of the round nor a budget of a formula cell is spent
  pub record IsUnspent : Type 0 where
    pub work : SpendsWork → ⊥
    pub no_abort : AllByRecursion (TopFails is_abort) (formula_addresses W.sheet)

  -- ---- what an address shows

  pub data IsShown (a : Addr) : Shown → Type 0 where
    cycle : (f : Formula) → content W.sheet a ≡ Some (Form f) → TopLoops a → IsShown a Cycle
    value : {x : Scalar} →
        Gives (program W) (given (facts W.sheet W.oracle) (at_address Top a)) (Ok (One x)) →
        IsShown a (Shown.Value x)
    -- a root that loops spills nothing
    blank : (c : Cover) → content W.sheet a ≡ None → cover W.oracle a ≡ Some c →
        TopLoops c.root → IsShown a (Shown.Value Blank)

-- ---- rounds

module _ (version : Version) (S : Cells) where
  -- round i under w doesn't end the calculation, and leads to the next oracle
  pub record GoesOn (i : ℕ) (w next : Oracle) : Type 0 where
    pub unspent : IsUnspent (world version S w)
    pub is_next : IsNext (world version S w) next
    pub moves : next ≢ w
    pub not_last : suc i ≢ round_budget S

  -- the calculation comes to round i, under the oracle w; that of round 0 is empty
  pub data Reaches : ℕ → Oracle → Type 0 where
    first : Reaches 0 []
    later : {i : ℕ} {w next : Oracle} → Reaches i w → GoesOn i w next → Reaches (suc i) next

  -- the calculation comes to the round, and the round doesn't spend its work
  abbrev pub IsFinished : ℕ → Oracle → Type 0
  IsFinished i w = Reaches i w × (SpendsWork (world version S w) → ⊥)

  -- how round i under w ends the calculation: the first of the cases that holds
  pub data Ends (i : ℕ) (w : Oracle) : Answer → Type 0 where
    work : SpendsWork (world version S w) → Ends i w (Spent Work)
    abort : {a : Addr} {b : Budget} → (SpendsWork (world version S w) → ⊥) →
        FirstAbort (world version S w) (formula_addresses S) a b → Ends i w (Spent (spent_at b a))
    settled : IsUnspent (world version S w) → IsNext (world version S w) w →
        Ends i w (Settled w (suc i))
    rounds : {a : Addr} (next : Oracle) → IsUnspent (world version S w) →
        IsNext (world version S w) next → first_difference w next ≡ Some a →
        suc i ≡ round_budget S → Ends i w (Spent (Rounds a))

  -- the answer of the calculation
  pub record IsAnswer (r : Answer) : Type 0 where
    pub round : ℕ
    pub oracle : Oracle
    pub reached : Reaches round oracle
    pub ends : Ends round oracle r

-- ---- why a root has its permit

pub data Why : Type 0 where
  NoEntry Permitted : Why
  Blocked : Obstacle → Why

-- of no obstacle, by whether there is an entry
abbrev pub why_of : Option Entry → Option Obstacle → Why
why_of None o = NoEntry
why_of (Some x) None = Why.Permitted
why_of (Some x) (Some o) = Blocked o

abbrev pub why : Cells → Oracle → Addr → Why
why S w a = why_of (entry_at w a) (blocker grid (has_content S) w a)
