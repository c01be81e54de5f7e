-- The grammar of formulas: which tokens are a form, which tree a form is, and what is wrong with a
-- text that has none.
use Rattle.std.specs.Prelude.{◌≡◌, ℕ, ◌+◌, ◌-◌, ◌*◌, ◌<◌, ◌≤◌, nat_lt, nat_le, pos, Bool, true}
use Rattle.std.specs.Prelude.{false, ◌&&◌, ◌||◌, not, IsTrue, IsFalse, List, [], ◌∷◌, length, find}
use Rattle.std.specs.Prelude.{Option, Some, None, is_some, bytes_eq, codes, if◌then◌else◌}
use Rattle.std.specs.List.{list_any, AllByRecursion}
use Rattle.std.specs.Option.{option_map_or}
use Rattle.gl_calculus.specs.Grid.Limits.{max_minus, max_open, max_arguments, max_formula}
use Rattle.gl_calculus.specs.Grid.Limits.{max_cells}
use Rattle.gl_calculus.specs.Grid.Grid.{Addr, range, extents}
use Rattle.gl_calculus.specs.Formulas.Formula.{Op, Level, Fun, Formula, Formulas, Operands}
use Rattle.gl_calculus.specs.Formulas.Formula as F
use Rattle.gl_language.specs.Texts.Text.{Bytes, fun_text}
use Rattle.gl_language.specs.Reading.Token.{Operator, Hash, LeftParen, RightParen, Comma, Colon}
use Rattle.gl_language.specs.Reading.Token.{Sign, Token, Integer, Quoted, Address, Truth, Word}
use Rattle.gl_language.specs.Reading.Token.{Variable, Signed, Lexes, LexFault, IsLexFault, IsToken}

-- a form as it is written, before its names and ranges are looked at
mutual
  pub data Raw : Type 0 where
    Number : ℕ → Raw
    Text : Bytes → Raw
    Boolean : Bool → Raw
    At Spill : Addr → Raw
    Corners : Addr → Addr → Raw
    Var : Bytes → Raw
    Neg : Raw → Raw
    Chain : Level → Raw → RawOperands → Raw
    Compare : Op → Raw → Raw → Raw
    Let : Bytes → Raw → Raw → Raw
    Apply : (word : Bytes) → Raws → Raw

  pub data Raws : Type 0 where
    no_raw : Raws
    raw_and : Raw → Raws → Raws

  pub data RawOperands : Type 0 where
    no_operand : RawOperands
    operand_and : Op → Raw → RawOperands → RawOperands

-- the comparison of a sign, and its operator in a chain of a level
abbrev pub comparison : Sign → Option Op
comparison (Operator F.Op.Eq) = Some F.Op.Eq
comparison (Operator F.Op.Ne) = Some F.Op.Ne
comparison (Operator F.Op.Lt) = Some F.Op.Lt
comparison (Operator F.Op.Le) = Some F.Op.Le
comparison (Operator F.Op.Gt) = Some F.Op.Gt
comparison (Operator F.Op.Ge) = Some F.Op.Ge
comparison s = None

abbrev pub operator : Level → Sign → Option Op
operator F.Level.Cat (Operator F.Op.Join) = Some F.Op.Join
operator F.Level.Sum (Operator F.Op.Add) = Some F.Op.Add
operator F.Level.Sum (Operator F.Op.Sub) = Some F.Op.Sub
operator F.Level.Prod (Operator F.Op.Mul) = Some F.Op.Mul
operator F.Level.Prod (Operator F.Op.Div) = Some F.Op.Div
operator level s = None

-- operands with an operator are a chain, and one alone is itself
abbrev pub chained : Level → Raw → RawOperands → Raw
chained level f no_operand = f
chained level f (operand_and op g rest) = Chain level f (operand_and op g rest)

abbrev pub is_let : Bytes → Bool
is_let word = bytes_eq word (codes "LET")

-- LET of a variable, its value and a body binds the variable; all else is a call
abbrev pub applied : Bytes → Raws → Raw
applied word (raw_and (Var v) (raw_and f (raw_and body no_raw))) =
    if is_let word then Let v f body
    else Apply word (raw_and (Var v) (raw_and f (raw_and body no_raw)))
applied word xs = Apply word xs

abbrev pub Tokens : Type 0
Tokens = List Token

-- A front of the tokens is such a form, and these follow it.
mutual
  -- expr = cat [ comparison cat ]
  pub data IsExpr : Tokens → Raw → Tokens → Type 0 where
    alone : {ts us : Tokens} {f : Raw} → IsChain F.Level.Cat ts f us → IsExpr ts f us
    compare : {ts us vs : Tokens} {f g : Raw} {s : Sign} {op : Op}
        → IsChain F.Level.Cat ts f (Signed s ∷ us) → comparison s ≡ Some op
        → IsChain F.Level.Cat us g vs → IsExpr ts (Compare op f g) vs

  -- cat = sum { "&" sum }, sum = prod { ("+" | "-") prod }, prod = unary { ("*" | "/") unary }
  pub data IsChain : Level → Tokens → Raw → Tokens → Type 0 where
    chain : {level : Level} {ts us vs : Tokens} {f : Raw} {rest : RawOperands}
        → IsOperand level ts f us → IsLinks level us rest vs
        → IsChain level ts (chained level f rest) vs

  pub data IsLinks : Level → Tokens → RawOperands → Tokens → Type 0 where
    no_link : {level : Level} {ts : Tokens} → IsLinks level ts no_operand ts
    link : {level : Level} {ts us vs : Tokens} {s : Sign} {op : Op} {f : Raw} {rest : RawOperands}
        → operator level s ≡ Some op → IsOperand level ts f us → IsLinks level us rest vs
        → IsLinks level (Signed s ∷ ts) (operand_and op f rest) vs

  pub data IsOperand : Level → Tokens → Raw → Tokens → Type 0 where
    sum : {ts us : Tokens} {f : Raw} → IsChain F.Level.Sum ts f us → IsOperand F.Level.Cat ts f us
    prod : {ts us : Tokens} {f : Raw} → IsChain F.Level.Prod ts f us → IsOperand F.Level.Sum ts f us
    unary : {ts us : Tokens} {f : Raw} → IsUnary ts f us → IsOperand F.Level.Prod ts f us

  -- unary = "-" unary | atom
  pub data IsUnary : Tokens → Raw → Tokens → Type 0 where
    neg : {ts us : Tokens} {f : Raw} → IsUnary ts f us
        → IsUnary (Signed (Operator F.Op.Sub) ∷ ts) (Neg f) us
    atom : {ts us : Tokens} {f : Raw} → IsAtom ts f us → IsUnary ts f us

  pub data IsAtom : Tokens → Raw → Tokens → Type 0 where
    number : {n : ℕ} {ts : Tokens} → IsAtom (Integer n ∷ ts) (Number n) ts
    text : {t : Bytes} {ts : Tokens} → IsAtom (Quoted t ∷ ts) (Text t) ts
    truth : {b : Bool} {ts : Tokens} → IsAtom (Truth b ∷ ts) (Boolean b) ts
    address : {a : Addr} {ts : Tokens} → IsAtom (Address a ∷ ts) (At a) ts
    spill : {a : Addr} {ts : Tokens} → IsAtom (Address a ∷ Signed Hash ∷ ts) (Spill a) ts
    corners : {a b : Addr} {ts : Tokens}
        → IsAtom (Address a ∷ Signed Colon ∷ Address b ∷ ts) (Corners a b) ts
    variable : {v : Bytes} {ts : Tokens} → IsAtom (Variable v ∷ ts) (Var v) ts
    apply : {word : Bytes} {ts us : Tokens} {xs : Raws} → IsArguments ts xs us
        → IsAtom (Word word ∷ Signed LeftParen ∷ ts) (applied word xs) us
    parens : {ts us : Tokens} {f : Raw} → IsExpr ts f (Signed RightParen ∷ us)
        → IsAtom (Signed LeftParen ∷ ts) f us

  -- what stands behind the left parenthesis of a call, up to the right one
  pub data IsArguments : Tokens → Raws → Tokens → Type 0 where
    no_argument : {ts : Tokens} → IsArguments (Signed RightParen ∷ ts) no_raw ts
    argument : {ts us vs : Tokens} {f : Raw} {xs : Raws} → IsExpr ts f us → IsMore us xs vs
        → IsArguments ts (raw_and f xs) vs

  pub data IsMore : Tokens → Raws → Tokens → Type 0 where
    close : {ts : Tokens} → IsMore (Signed RightParen ∷ ts) no_raw ts
    comma : {ts us vs : Tokens} {f : Raw} {xs : Raws} → IsExpr ts f us → IsMore us xs vs
        → IsMore (Signed Comma ∷ ts) (raw_and f xs) vs

-- ---- from a form to a tree

abbrev pub all_functions : List Fun
all_functions =
    F.Fun.Sum ∷ F.Fun.Count ∷ F.Fun.Min ∷ F.Fun.Max ∷ F.Fun.And ∷ F.Fun.Or ∷ F.Fun.Not ∷ F.Fun.If
    ∷ F.Fun.IfError ∷ F.Fun.IsError ∷ F.Fun.IsBlank ∷ F.Fun.Abs ∷ F.Fun.Mod ∷ F.Fun.Len ∷ F.Fun.Left
    ∷ F.Fun.Right ∷ F.Fun.Rows ∷ F.Fun.Columns ∷ F.Fun.Index ∷ F.Fun.Sequence ∷ F.Fun.Transpose
    ∷ F.Fun.Take ∷ F.Fun.Drop ∷ F.Fun.HStack ∷ F.Fun.VStack ∷ F.Fun.Filter ∷ F.Fun.Unique
    ∷ F.Fun.Lookup ∷ F.Fun.Na ∷ F.Fun.Sheet ∷ F.Fun.Update ∷ F.Fun.View ∷ F.Fun.G ∷ F.Fun.This ∷ []

-- the function of a word
abbrev pub function_of : Bytes → Option Fun
function_of word = find (λ f. bytes_eq (fun_text f) word) all_functions

-- the tree of a call
abbrev pub call_of : Option Fun → Formulas → Formula
call_of (Some f) xs = F.Formula.Call f xs
-- no such word passes
call_of None xs = F.Formula.Call F.Fun.Na xs

abbrev mutual
  pub tree : Raw → Formula
  tree (Number n) = F.Formula.Int (pos n)
  tree (Text t) = F.Formula.Text t
  tree (Boolean b) = F.Formula.Bool b
  tree (At a) = F.Formula.At a
  tree (Spill a) = F.Formula.Spill a
  tree (Corners a b) = F.Formula.Area (range a b)
  tree (Var v) = F.Formula.Var v
  tree (Neg f) = F.Formula.Neg (tree f)
  tree (Chain level f rest) = F.Formula.Chain level (tree f) (operand_trees rest)
  tree (Compare op f g) = F.Formula.Compare op (tree f) (tree g)
  tree (Let v f body) = F.Formula.Let v (tree f) (tree body)
  tree (Apply word xs) = call_of (function_of word) (trees xs)

  pub operand_trees : RawOperands → Operands
  operand_trees no_operand = F.Operands.no_operand
  operand_trees (operand_and op f rest) = F.Operands.operand_and op (tree f) (operand_trees rest)

  pub trees : Raws → Formulas
  trees no_raw = F.Formulas.no_formula
  trees (raw_and f fs) = F.Formulas.formula_and (tree f) (trees fs)

-- ---- faults

-- some form inside passes the test
abbrev mutual
  pub some_form : (Raw → Bool) → Raw → Bool
  some_form test (Neg f) = test (Neg f) || some_form test f
  some_form test (Chain level f rest) =
      test (Chain level f rest) || some_form test f || some_operand test rest
  some_form test (Compare op f g) = test (Compare op f g) || some_form test f || some_form test g
  some_form test (Let v f body) = test (Let v f body) || some_form test f || some_form test body
  some_form test (Apply word xs) = test (Apply word xs) || some_argument test xs
  some_form test f = test f

  pub some_operand : (Raw → Bool) → RawOperands → Bool
  some_operand test no_operand = false
  some_operand test (operand_and op f rest) = some_form test f || some_operand test rest

  pub some_argument : (Raw → Bool) → Raws → Bool
  some_argument test no_raw = false
  some_argument test (raw_and f fs) = some_form test f || some_argument test fs

-- more than 64 `(` are unclosed after some tokens, or more than 8 `-` stand in a row
abbrev pub is_deep_from : (open_parens minus : ℕ) → Tokens → Bool
is_deep_from n m [] = false
is_deep_from n m (Signed LeftParen ∷ ts) = nat_le max_open n || is_deep_from (n + 1) 0 ts
is_deep_from n m (Signed RightParen ∷ ts) = is_deep_from (n - 1) 0 ts
is_deep_from n m (Signed (Operator F.Op.Sub) ∷ ts) = nat_le max_minus m || is_deep_from n (m + 1) ts
is_deep_from n m (t ∷ ts) = is_deep_from n 0 ts

abbrev pub is_deep : Tokens → Bool
is_deep = is_deep_from 0 0

-- corners that are not in order, or too many cells
abbrev pub is_bad_range : Raw → Bool
is_bad_range (Corners a b) =
    not (nat_le a.col b.col && nat_le a.row b.row)
    || nat_lt max_cells ((extents (range a b)).rows * (extents (range a b)).cols)
is_bad_range f = false

-- a called word that is no function, or a variable that isn't bound; a LET binds its variable in
-- its body
abbrev mutual
  pub has_bad_name : List Bytes → Raw → Bool
  has_bad_name vs (Var v) = not (list_any (bytes_eq v) vs)
  has_bad_name vs (Neg f) = has_bad_name vs f
  has_bad_name vs (Chain level f rest) = has_bad_name vs f || bad_name_in_operands vs rest
  has_bad_name vs (Compare op f g) = has_bad_name vs f || has_bad_name vs g
  has_bad_name vs (Let v f body) = has_bad_name vs f || has_bad_name (v ∷ vs) body
  has_bad_name vs (Apply word xs) =
      not (is_let word || is_some (function_of word)) || bad_name_in vs xs
  has_bad_name vs f = false

  pub bad_name_in_operands : List Bytes → RawOperands → Bool
  bad_name_in_operands vs no_operand = false
  bad_name_in_operands vs (operand_and op f rest) =
      has_bad_name vs f || bad_name_in_operands vs rest

  pub bad_name_in : List Bytes → Raws → Bool
  bad_name_in vs no_raw = false
  bad_name_in vs (raw_and f fs) = has_bad_name vs f || bad_name_in vs fs

abbrev pub raws : Raws → List Raw
raws no_raw = []
raws (raw_and f fs) = f ∷ raws fs

-- an address or a range as written
abbrev pub is_place : Raw → Bool
is_place (At a) = true
is_place (Corners a b) = true
is_place f = false

abbrev pub is_address : Raw → Bool
is_address (At a) = true
is_address f = false

-- pairs of an address and a formula
abbrev pub are_pairs : List Raw → Bool
are_pairs [] = true
are_pairs (a ∷ f ∷ rest) = is_address a && are_pairs rest
are_pairs (a ∷ []) = false

abbrev pub between : ℕ → ℕ → List Raw → Bool
between m n xs = nat_le m (length xs) && nat_le (length xs) n

-- the arguments that a function takes
abbrev pub allows : Fun → List Raw → Bool
allows F.Fun.Sum xs = between 1 max_arguments xs
allows F.Fun.Count xs = between 1 max_arguments xs
allows F.Fun.Min xs = between 1 max_arguments xs
allows F.Fun.Max xs = between 1 max_arguments xs
allows F.Fun.And xs = between 1 max_arguments xs
allows F.Fun.Or xs = between 1 max_arguments xs
allows F.Fun.HStack xs = between 2 max_arguments xs
allows F.Fun.VStack xs = between 2 max_arguments xs
allows F.Fun.Mod xs = between 2 2 xs
allows F.Fun.Left xs = between 2 2 xs
allows F.Fun.Right xs = between 2 2 xs
allows F.Fun.IfError xs = between 2 2 xs
allows F.Fun.Sequence xs = between 2 2 xs
allows F.Fun.Filter xs = between 2 2 xs
allows F.Fun.If xs = between 3 3 xs
allows F.Fun.Index xs = between 3 3 xs
allows F.Fun.Take xs = between 3 3 xs
allows F.Fun.Drop xs = between 3 3 xs
allows F.Fun.Lookup xs = between 3 3 xs
allows F.Fun.Na xs = between 0 0 xs
allows F.Fun.This xs = between 0 0 xs
allows F.Fun.Sheet (r ∷ []) = is_place r
allows F.Fun.Sheet xs = false
allows F.Fun.Update (s ∷ a ∷ f ∷ []) = is_address a
allows F.Fun.Update xs = false
allows F.Fun.View (s ∷ r ∷ []) = is_place r
allows F.Fun.View xs = false
allows F.Fun.G (r ∷ pairs) = is_place r && are_pairs pairs
allows F.Fun.G [] = false
allows f xs = between 1 1 xs

-- a call with other arguments than its function takes, or of LET with others than it binds
abbrev pub is_bad_call : Raw → Bool
is_bad_call (Apply word xs) = not (option_map_or (λ f. allows f (raws xs)) (function_of word) false)
is_bad_call f = false

pub data ParseFault : Type 0 where
  Long : ParseFault
  Lex : LexFault → (at_byte : ℕ) → ParseFault
  Deep Syntax Range Name Arity : ParseFault

-- the first of the last three faults
abbrev pub form_fault : Raw → Option ParseFault
form_fault f =
    if some_form is_bad_range f then Some Range
    else if has_bad_name [] f then Some Name
    else if some_form is_bad_call f then Some Arity else None

-- The text is this formula.
pub record Parses (text : Bytes) (f : Formula) : Type 0 where
  pub short : length text ≤ max_formula
  pub tokens : Tokens
  pub lexes : Lexes text tokens
  pub not_deep : IsFalse (is_deep tokens)
  pub raw : Raw
  pub form : IsExpr tokens raw []
  pub no_fault : form_fault raw ≡ None
  pub is_tree : f ≡ tree raw

-- The text is no formula, and this is the first of its faults.
pub data IsParseFault (text : Bytes) : ParseFault → Type 0 where
  long : max_formula < length text → IsParseFault text Long
  lex : {fault : LexFault} {at_byte : ℕ} → length text ≤ max_formula → IsLexFault text fault at_byte
      → IsParseFault text (Lex fault at_byte)
  deep : (ts : Tokens) → length text ≤ max_formula → Lexes text ts → IsTrue (is_deep ts)
      → IsParseFault text Deep
  syntax : (ts : Tokens) → length text ≤ max_formula → Lexes text ts → IsFalse (is_deep ts)
      → ((f : Raw) → IsExpr ts f [] → ⊥) → IsParseFault text Syntax
  form : (ts : Tokens) (f : Raw) {fault : ParseFault} → length text ≤ max_formula → Lexes text ts
      → IsFalse (is_deep ts) → IsExpr ts f [] → form_fault f ≡ Some fault → IsParseFault text fault

-- a tree of some tokens without faults
abbrev pub IsWellFormed : Formula → Type 0
IsWellFormed f =
    (ts : Tokens) × (raw : Raw) × AllByRecursion IsToken ts × IsFalse (is_deep ts)
    × IsExpr ts raw [] × (form_fault raw ≡ None) × (f ≡ tree raw)
