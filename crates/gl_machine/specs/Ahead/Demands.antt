-- The keys that a range, a round of a settling and a formula demand, by facts alone.
use Rattle.std.specs.Prelude.{List, [], ◌∷◌, ◌++◌, map, Bool, true, false, Option, Some, None}
use Rattle.gl_calculus.specs.Grid.Grid.{Addr, addresses}
use Rattle.gl_calculus.specs.Formulas.Formula.{Formulas, Formula, Operands, Fun}
use Rattle.gl_calculus.specs.Values.Value.{Frame}
use Rattle.gl_calculus.specs.Evaluation.Oracle.{Cover}
use Rattle.gl_calculus.specs.Evaluation.Facts.{Fact}
use Rattle.gl_calculus.specs.Evaluation.Key.{Key, Cell, Outcome}
use Rattle.gl_calculus.specs.Evaluation.Reference.{Held, Computed, home, own_content, cover_in}

-- an outcome with which a reference goes on
abbrev pub is_value : Outcome → Bool
is_value (Outcome.Value v) = true
is_value o = false

-- the key of a formula
abbrev pub held_keys : Frame → Addr → Option Held → List Key
held_keys e a (Some (Computed f)) = Cell e a ∷ []
held_keys e a h = []

-- what the own value of an address demands
abbrev pub own_keys : Frame → Fact → List Key
own_keys e x = held_keys e x.address (own_content x.content e x.address)

-- what the root demands that covers an address
abbrev pub cover_keys : (Addr → Fact) → Frame → Option Cover → List Key
cover_keys fact e None = []
cover_keys fact e (Some c) = own_keys e (fact c.root)

-- the key of a formula, or of the root that covers where nothing is held
abbrev pub shown_keys : (Addr → Fact) → Frame → Fact → Option Held → List Key
shown_keys fact e x None = cover_keys fact e (cover_in x e)
shown_keys fact e x (Some h) = held_keys e x.address (Some h)

-- what an address demands that is read in its home frame
abbrev pub address_keys : (Addr → Fact) → Frame → Fact → List Key
address_keys fact e x = let h = home e x.address in shown_keys fact h x (own_content x.content h x.address)

-- what the addresses of a range demand, in order; a root stands once for each address that it covers
abbrev pub range_keys : (Addr → Fact) → Frame → List Fact → List Key
range_keys fact e [] = []
range_keys fact e (x ∷ xs) = address_keys fact e x ++ range_keys fact e xs

-- what a round of a settling demands
abbrev pub round_keys : Frame → List Fact → List Key
round_keys e [] = []
round_keys e (x ∷ xs) = own_keys e x ++ round_keys e xs

-- Of these functions the first argument alone is surely evaluated, or nothing is known; the others evaluate all.
abbrev pub call_reads : Fun → (begun all : List Addr) → List Addr
call_reads Fun.If begun all = begun
call_reads Fun.IfError begun all = begun
call_reads Fun.Update begun all = begun
call_reads Fun.View begun all = begun
call_reads Fun.Sheet begun all = []
call_reads Fun.G begun all = []
call_reads fun begun all = all

-- Addresses that a formula reads one after another whatever they hold, the first ones. Where it surely comes to a value behind them, on with the given ones.
abbrev mutual
  pub first_reads : Formula → List Addr → List Addr
  first_reads (Formula.At a) on = a ∷ on
  first_reads (Formula.Area r) on = addresses r ++ on
  first_reads (Formula.Spill a) on = []
  first_reads (Formula.Neg f) on = first_reads f on
  first_reads (Formula.Chain level f rest) on = first_reads f (operand_reads rest on)
  first_reads (Formula.Compare op f h) on = first_reads f (first_reads h on)
  first_reads (Formula.Call fun fs) on = call_reads fun (begun_reads fs) (argument_reads fs on)
  first_reads (Formula.Let name f body) on = first_reads f (first_reads body on)
  first_reads f on = on

  -- of the first argument alone
  pub begun_reads : Formulas → List Addr
  begun_reads Formulas.no_formula = []
  begun_reads (Formulas.formula_and f fs) = first_reads f []

  pub operand_reads : Operands → List Addr → List Addr
  operand_reads Operands.no_operand on = on
  operand_reads (Operands.operand_and op f rest) on = first_reads f (operand_reads rest on)

  pub argument_reads : Formulas → List Addr → List Addr
  argument_reads Formulas.no_formula on = on
  argument_reads (Formulas.formula_and f fs) on = first_reads f (argument_reads fs on)

-- those of a formula that is held
abbrev pub held_reads : Option Held → List Addr
held_reads (Some (Computed f)) = first_reads f []
held_reads h = []

-- what addresses demand that are read one after another
abbrev pub reads_keys : (Addr → Fact) → Frame → List Addr → List Key
reads_keys fact e xs = range_keys fact e (map fact xs)
