-- One level of evaluation: what a key demands, looks at and comes to.
use Rattle.std.specs.Prelude.{ℕ, zero, suc, ◌+◌, Bool, true, false, List, [], ◌∷◌, ◌++◌, count_by}
use Rattle.std.specs.Prelude.{Option, Some, None, is_some, bytes_eq, if◌then◌else◌}
use Rattle.gl_calculus.specs.Computation.Query.{Query}
use Rattle.gl_calculus.specs.Computation.Evaluation.{Evaluation, Done, LookAt, Demand, bind, given}
use Rattle.gl_calculus.specs.Grid.Limits.{extra_rounds}
use Rattle.gl_calculus.specs.Grid.Grid.{Addr, addr, Range, single}
use Rattle.gl_calculus.specs.Values.ErrKind.{ErrKind}
use Rattle.gl_calculus.specs.Values.Value.{Oracle, Scalar, Blank, Value, One, Array, SheetValue}
use Rattle.gl_calculus.specs.Values.Value.{Frame, Top, In, region}
use Rattle.gl_calculus.specs.Values.Sheet.{Made, Outside, Deep, Heavy, sheet, update}
use Rattle.gl_calculus.specs.Values.Same.{same_oracle}
use Rattle.gl_calculus.specs.Formulas.Formula.{Version, Formula, Formulas, Operands, Fun}
use Rattle.gl_calculus.specs.Formulas.Formula as F
use Rattle.gl_calculus.specs.Evaluation.Oracle.{Sizes, grant}
use Rattle.gl_calculus.specs.Evaluation.Facts.{Fact, facts, fact_at}
use Rattle.gl_calculus.specs.Values.Operators.{negate, compare, operate}
use Rattle.gl_calculus.specs.Values.Lift.{lift1, lift2, lift3}
use Rattle.gl_calculus.specs.Values.Functions.{apply}
use Rattle.gl_calculus.specs.Evaluation.Key.{Key, Cell, Settle, Depth, CopyRounds, Outcome, Eval}
use Rattle.gl_calculus.specs.Evaluation.Key.{give, stop, ◌>>=◌, settled_oracle, as_value}
use Rattle.gl_calculus.specs.Evaluation.Key.{as_settled}
use Rattle.gl_calculus.specs.Evaluation.World.{World}
use Rattle.gl_calculus.specs.Evaluation.Reference.{Held, Given, Computed, own_content, own}
use Rattle.gl_calculus.specs.Evaluation.Reference.{at_address, at_range, spill_of}

-- ---- sheet values

-- a sheet value above the limit of rank ends the evaluation
abbrev pub made : Made → Eval Value
made (Made.Sheet s) = give (One (Scalar.Sheet s))
made Outside = give (One (Scalar.Err ErrKind.Ref))
made Deep = stop Depth
made Heavy = give (One (Scalar.Err ErrKind.Size))

-- with the sheet value that a value is; an error passes
abbrev pub on_sheet : (SheetValue → Eval Value) → Value → Eval Value
on_sheet f (One (Scalar.Sheet s)) = f s
on_sheet f (One (Scalar.Err k)) = give (One (Scalar.Err k))
on_sheet f v = give (One (Scalar.Err ErrKind.Value))

abbrev pub update_by : Frame → Eval Value → Addr → Eval Value → Eval Value
update_by e sheet_eval a eval = do
  u ← sheet_eval
  v ← eval
  on_sheet (λ s. made (update e s a v)) u

-- the sheet value of the frame
abbrev pub this : Frame → Value
this Top = One (Scalar.Err ErrKind.Ref)
this (In s o) = One (Scalar.Sheet s)

-- an argument of a call: as it is written, and its evaluation
pub record Argument : Type 0 where
  pub form : Formula
  pub eval : Eval Value

-- an address or a range as written; the grammar allows nothing else in its place
abbrev pub written_range : Formula → Range
written_range (F.Formula.At a) = single a
written_range (F.Formula.Area r) = r
written_range f = single (addr 1 1)

abbrev pub written_address : Formula → Addr
written_address (F.Formula.At a) = a
written_address f = addr 1 1

-- ---- IF and IFERROR

-- by a truth value, where a blank is FALSE and an error passes
abbrev pub chosen : Scalar → Scalar → Scalar → Scalar
chosen (Scalar.Bool true) x y = x
chosen (Scalar.Bool false) x y = y
chosen Blank x y = y
chosen (Scalar.Err k) x y = Scalar.Err k
chosen c x y = Scalar.Err ErrKind.Value

-- In version Two an array of conditions chooses element by element.
abbrev pub choose_each : Version → Value → Eval Value → Eval Value → Eval Value
choose_each F.Version.One c yes_eval no_eval = give (One (Scalar.Err ErrKind.Value))
choose_each F.Version.Two c yes_eval no_eval = do
  u ← yes_eval
  v ← no_eval
  give (lift3 chosen c u v)

-- Only the chosen branch is evaluated.
abbrev pub choose : Version → Value → Eval Value → Eval Value → Eval Value
choose version (One (Scalar.Bool true)) yes_eval no_eval = yes_eval
choose version (One (Scalar.Bool false)) yes_eval no_eval = no_eval
choose version (One Blank) yes_eval no_eval = no_eval
choose version (One (Scalar.Err k)) yes_eval no_eval = give (One (Scalar.Err k))
choose version (One x) yes_eval no_eval = give (One (Scalar.Err ErrKind.Value))
choose version c yes_eval no_eval = choose_each version c yes_eval no_eval

abbrev pub in_place_of_error : Scalar → Scalar → Scalar
in_place_of_error (Scalar.Err k) y = y
in_place_of_error x y = x

abbrev pub replace_each : Version → Value → Eval Value → Eval Value
replace_each F.Version.One v eval = give v
replace_each F.Version.Two v eval = eval >>= λ u. give (lift2 in_place_of_error v u)

-- The second is evaluated only where the first is an error.
abbrev pub replace : Version → Value → Eval Value → Eval Value
replace version (One (Scalar.Err k)) eval = eval
replace version (One x) eval = give (One x)
replace version v eval = replace_each version v eval

-- ---- formulas

-- the variables that are bound, innermost first
abbrev pub Bindings : Type 0
Bindings = List (List ℕ × Value)

abbrev pub bound : Bindings → List ℕ → Value
bound [] name = One Blank
bound (b ∷ bs) name = if bytes_eq b.0 name then b.1 else bound bs name

abbrev pub all_values : List Argument → Eval (List Value)
all_values [] = give []
all_values (x ∷ xs) = x.eval >>= λ v. all_values xs >>= λ vs. give (v ∷ vs)

-- the updates by pairs of an address and a formula
abbrev pub updates : Frame → Eval Value → List Argument → Eval Value
updates e q (a ∷ f ∷ pairs) = updates e (update_by e q (written_address a.form) f.eval) pairs
updates e q pairs = q

-- an address or a range as written, read
abbrev pub at_written : Frame → Formula → Eval Value
at_written e (F.Formula.At a) = at_address e a
at_written e (F.Formula.Area r) = at_range e r
at_written e f = give (One (Scalar.Err ErrKind.Ref))

-- The sheet value is settled, and the place read in it.
abbrev pub view_by : Eval Value → Formula → Eval Value
view_by q f = do
  u ← q
  on_sheet (λ s. Demand (Settle s) (λ x. settled_oracle x >>= λ o. at_written (In s o) f)) u

module _ (version : Version) where
  -- a call; the grammar allows no other numbers of arguments
  abbrev pub call : Frame → Fun → List Argument → Eval Value
  call e F.Fun.If (c ∷ t ∷ f ∷ []) = c.eval >>= λ v. choose version v t.eval f.eval
  call e F.Fun.IfError (x ∷ y ∷ []) = x.eval >>= λ v. replace version v y.eval
  call e F.Fun.Sheet (r ∷ []) = made (sheet e (written_range r.form))
  call e F.Fun.Update (s ∷ a ∷ f ∷ []) = update_by e s.eval (written_address a.form) f.eval
  call e F.Fun.View (s ∷ r ∷ []) = view_by s.eval r.form
  call e F.Fun.G (r ∷ pairs) =
      view_by (updates e (made (sheet e (written_range r.form))) pairs) r.form
  call e F.Fun.This [] = give (this e)
  call e f xs = all_values xs >>= λ vs. give (apply f vs)

  -- the value of a formula in a frame, its parts taken from left to right
  abbrev mutual
    pub eval : Frame → Bindings → Formula → Eval Value
    eval e bs (F.Formula.Int n) = give (One (Scalar.Int n))
    eval e bs (F.Formula.Text t) = give (One (Scalar.Text t))
    eval e bs (F.Formula.Bool b) = give (One (Scalar.Bool b))
    eval e bs (F.Formula.At a) = at_address e a
    eval e bs (F.Formula.Spill a) = spill_of e a
    eval e bs (F.Formula.Area r) = at_range e r
    eval e bs (F.Formula.Var name) = give (bound bs name)
    eval e bs (F.Formula.Neg f) = eval e bs f >>= λ v. give (lift1 negate v)
    eval e bs (F.Formula.Chain level f rest) = eval e bs f >>= λ v. eval_rest e bs v rest
    eval e bs (F.Formula.Compare op f g) = do
      u ← eval e bs f
      v ← eval e bs g
      give (lift2 (compare op) u v)
    eval e bs (F.Formula.Call f xs) = call e f (arguments e bs xs)
    eval e bs (F.Formula.Let name f body) = eval e bs f >>= λ v. eval e ((name, v) ∷ bs) body

    -- the operands after the first
    pub eval_rest : Frame → Bindings → Value → Operands → Eval Value
    eval_rest e bs u F.Operands.no_operand = give u
    eval_rest e bs u (F.Operands.operand_and op f rest) =
        eval e bs f >>= λ v. eval_rest e bs (lift2 (operate op) u v) rest

    pub arguments : Frame → Bindings → Formulas → List Argument
    arguments e bs F.Formulas.no_formula = []
    arguments e bs (F.Formulas.formula_and f fs) =
        record { form = f; eval = eval e bs f } ∷ arguments e bs fs

-- ---- the settling of a sheet value

-- what an address of a sheet value's region holds, by its fact
abbrev pub held_by : SheetValue → Fact → Option Held
held_by s x = own_content x.content (In s []) x.address

-- the entry of an address whose own value is an array
abbrev pub array_at : Addr → Option Value → Sizes
array_at a (Some (Array s xs)) = (a, s) ∷ []
array_at a v = []

-- the arrays among the own values of these addresses
abbrev pub arrays : Frame → List Fact → Eval Sizes
arrays e [] = give []
arrays e (x ∷ xs) = do
  v ← own e x
  zs ← arrays e xs
  give (array_at x.address v ++ zs)

-- the oracle of the round after one with these arrays
abbrev pub next_in : SheetValue → List Fact → Sizes → Oracle
next_in s xs zs = grant (region s) (λ a. is_some (held_by s (fact_at xs a))) zs

-- settled where the next oracle is the same, else on with the next
abbrev pub settled_or : (Oracle → Eval Oracle) → Oracle → Oracle → Bool → Eval Oracle
settled_or go o next same = if same then give o else go next

-- Round by round each formula of the region is evaluated under the oracle of the round, until the
-- oracle is its own next one.
abbrev pub rounds : SheetValue → List Fact → ℕ → Oracle → Eval Oracle
rounds s xs zero o = stop CopyRounds
rounds s xs (suc n) o = do
  zs ← arrays (In s o) xs
  settled_or (rounds s xs n) o (next_in s xs zs) (same_oracle (next_in s xs zs) o)

abbrev pub takes_a_round : Option Held → Bool
takes_a_round (Some (Computed f)) = true
takes_a_round (Some (Given (Array s xs))) = true
takes_a_round h = false

-- the formulas and array overrides of the region, and some more
abbrev pub copy_budget : SheetValue → List Fact → ℕ
copy_budget s xs = count_by (λ x. takes_a_round (held_by s x)) xs + extra_rounds

-- ---- keys

-- the value of a cell with this content; no key is demanded of one without formula
unfoldable pub cell_value : Version → Frame → Option Held → Eval Value
cell_value version e (Some (Computed f)) = eval version e [] f
cell_value version e (Some (Given v)) = give v
cell_value version e None = give (One Blank)

-- the evaluation of a key: a cell looks at its own address first, a settling at its region once
unfoldable pub evaluation : Version → Key → Evaluation Key Outcome Range (List Fact) Outcome
evaluation version (Cell e a) = LookAt (single a) (λ xs.
    bind (cell_value version e (own_content (fact_at xs a).content e a)) (λ r. Done (as_value r)))
evaluation version (Settle s) = LookAt (region s) (λ xs.
    bind (rounds s xs (copy_budget s xs) []) (λ r. Done (as_settled r)))

-- the same where the sheet and the oracle of a world give the facts
unfoldable pub program : World → Key → Query Key Outcome Range Outcome
program W k = given (facts W.sheet W.oracle) (evaluation W.version k)
