-- The keys that evaluation demands, their outcomes, and evaluations that end at a spent budget.
use Rattle.std.specs.Prelude.{Bool, false, ◌&&◌, List, [], Option, Some, None, Result, Ok, Err}
use Rattle.gl_calculus.specs.Computation.Evaluation.{Evaluation, Done, bind}
use Rattle.gl_calculus.specs.Grid.Grid.{Addr, same_addr, Range}
use Rattle.gl_calculus.specs.Values.Value.{Oracle, SheetValue, Frame}
use Rattle.gl_calculus.specs.Values.Value as V
use Rattle.gl_calculus.specs.Values.Same.{same_frame, same_sheet}
use Rattle.gl_calculus.specs.Evaluation.Facts.{Fact}

-- a formula cell in a frame, or the settling of a sheet value
pub data Key : Type 0 where
  Cell : Frame → Addr → Key
  Settle : SheetValue → Key

abbrev pub same_key : Key → Key → Bool
same_key (Cell e a) (Cell f b) = same_frame e f && same_addr a b
same_key (Settle s) (Settle t) = same_sheet s t
same_key j k = false

pub data Budget : Type 0 where
  Depth CopyRounds : Budget

pub data Outcome : Type 0 where
  Value : V.Value → Outcome
  Settled : Oracle → Outcome
  Abort : Budget → Outcome

-- an evaluation: it demands keys and looks at ranges, of which it sees the facts; it comes to a
-- result, or to a spent budget, which ends it
abbrev pub Eval : Type 0 → Type 0
Eval R = Evaluation Key Outcome Range (List Fact) (Result R Budget)

abbrev pub give : {R : Type 0} → R → Eval R
give x = Done (Ok x)

abbrev pub stop : {R : Type 0} → Budget → Eval R
stop b = Done (Err b)

-- The next evaluation goes on with a result; a spent budget stays.
abbrev pub on_result : {R T : Type 0} → (R → Eval T) → Result R Budget → Eval T
on_result f (Ok x) = f x
on_result f (Err b) = stop b

infixl 10 ◌>>=◌
abbrev pub ◌>>=◌ : {R T : Type 0} → Eval R → (R → Eval T) → Eval T
p >>= f = bind p (on_result f)

-- the own value of a formula cell, which is never settled
abbrev pub own_value : Outcome → Eval (Option V.Value)
own_value (Outcome.Value v) = give (Some v)
own_value (Settled o) = give None
own_value (Abort b) = stop b

-- the oracle of a sheet value, which is never evaluated
abbrev pub settled_oracle : Outcome → Eval Oracle
settled_oracle (Outcome.Value v) = give []
settled_oracle (Settled o) = give o
settled_oracle (Abort b) = stop b

abbrev pub as_value : Result V.Value Budget → Outcome
as_value (Ok v) = Outcome.Value v
as_value (Err b) = Abort b

abbrev pub as_settled : Result Oracle Budget → Outcome
as_settled (Ok o) = Settled o
as_settled (Err b) = Abort b
