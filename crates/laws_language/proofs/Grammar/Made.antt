-- What the grammar makes of tokens: operators of their levels, and numbers, texts, names and addresses of tokens.
use Rattle.std.proofs.Common.{◌≡◌, ℕ, ◌<◌, ◌≤◌, ◌^◌, Bool, true, false, IsTrue, length, ap, subst}
use Rattle.std.specs.Prelude.{Some, if◌then◌else◌}
use Rattle.std.specs.List.{AllByRecursion}
use Rattle.std.specs.Str.{is_utf8}
use Rattle.gl_calculus.specs.Grid.Limits.{max_text}
use Rattle.gl_calculus.specs.Grid.Grid.{Addr, grid, covers}
use Rattle.gl_calculus.specs.Formulas.Formula.{Op, Level}
use Rattle.gl_calculus.specs.Formulas.Formula as F
use Rattle.gl_language.specs.Texts.Text.{Bytes}
use Rattle.gl_language.specs.Reading.Token.{Sign, Integer, Quoted, Address, Variable, IsToken, IsRow, is_lower, integer, quoted}
use Rattle.gl_language.specs.Reading.Token as T
use Rattle.gl_language.specs.Texts.Canonical.{op_sign, HasTokens, HaveTokens, AllHaveTokens}
use Rattle.gl_language.specs.Reading.Grammar.{Raw, Raws, no_raw, raw_and, RawOperands, Tokens, comparison, operator, chained, applied, is_let, IsExpr, alone, compare, IsChain, chain, IsLinks, no_link, link, IsOperand, sum, prod, unary, IsUnary, neg, atom, IsAtom, number, text, truth, address, spill, corners, variable, apply, parens, IsArguments, no_argument, argument, IsMore, close, comma, tree, operand_trees, trees}
use Rattle.gl_language.specs.Reading.Grammar as G
use Rattle.laws_language.proofs.Grammar.Named.{IsNamed, AreNamed, AllNamed, bound, call_stands}

abbrev pub HasOperand : RawOperands → Type 0
HasOperand G.RawOperands.no_operand = ⊥
HasOperand (G.RawOperands.operand_and op f rest) = Unit {0}

abbrev mutual
  pub IsMade : Raw → Type 0
  IsMade (Raw.Number n) = n < 2 ^ 63
  IsMade (Raw.Text t) = IsTrue (is_utf8 t) × (length t ≤ max_text)
  IsMade (Raw.Boolean b) = Unit {0}
  IsMade (Raw.At a) = IsTrue (covers grid a)
  IsMade (Raw.Spill a) = IsTrue (covers grid a)
  IsMade (Raw.Corners a b) = IsTrue (covers grid a) × IsTrue (covers grid b)
  IsMade (Raw.Var v) = IsRow is_lower v
  IsMade (Raw.Neg f) = IsMade f
  IsMade (Raw.Chain level f rest) = HasOperand rest × (IsMade f × AreMade level rest)
  IsMade (Raw.Compare op f g) = (comparison (op_sign op) ≡ Some op) × (IsMade f × IsMade g)
  IsMade (Raw.Let v f body) = IsRow is_lower v × (IsMade f × IsMade body)
  IsMade (Raw.Apply word xs) = AllMade xs

  pub AreMade : Level → RawOperands → Type 0
  AreMade level G.RawOperands.no_operand = Unit {0}
  AreMade level (G.RawOperands.operand_and op f rest) = (operator level (op_sign op) ≡ Some op) × (IsMade f × AreMade level rest)

  pub AllMade : Raws → Type 0
  AllMade no_raw = Unit {0}
  AllMade (raw_and f fs) = IsMade f × AllMade fs

-- ---- signs

pub same_some : {o p : Op} → Some o ≡ Some p → o ≡ p
same_some h = cc

pub comparison_sign : (s : Sign) (op : Op) → comparison s ≡ Some op → s ≡ op_sign op
comparison_sign (T.Sign.Operator F.Op.Eq) op h = ap op_sign (same_some h)
comparison_sign (T.Sign.Operator F.Op.Ne) op h = ap op_sign (same_some h)
comparison_sign (T.Sign.Operator F.Op.Lt) op h = ap op_sign (same_some h)
comparison_sign (T.Sign.Operator F.Op.Le) op h = ap op_sign (same_some h)
comparison_sign (T.Sign.Operator F.Op.Gt) op h = ap op_sign (same_some h)
comparison_sign (T.Sign.Operator F.Op.Ge) op h = ap op_sign (same_some h)
comparison_sign s op h = absurd (cc h)

pub operator_sign : (level : Level) (s : Sign) (op : Op) → operator level s ≡ Some op → s ≡ op_sign op
operator_sign F.Level.Cat (T.Sign.Operator F.Op.Join) op h = ap op_sign (same_some h)
operator_sign F.Level.Sum (T.Sign.Operator F.Op.Add) op h = ap op_sign (same_some h)
operator_sign F.Level.Sum (T.Sign.Operator F.Op.Sub) op h = ap op_sign (same_some h)
operator_sign F.Level.Prod (T.Sign.Operator F.Op.Mul) op h = ap op_sign (same_some h)
operator_sign F.Level.Prod (T.Sign.Operator F.Op.Div) op h = ap op_sign (same_some h)
operator_sign level s op h = absurd (cc h)

-- ---- tokens

abbrev pub AreTokens : Tokens → Type 0
AreTokens ts = AllByRecursion IsToken ts

integer_made : (n : ℕ) → IsToken (Integer n) → n < 2 ^ 63
integer_made n (bs, integer row small) = small

quoted_made : (t : Bytes) → IsToken (Quoted t) → IsTrue (is_utf8 t) × (length t ≤ max_text)
quoted_made t (bs, quoted d u l) = (u, l)

address_made : (a : Addr) → IsToken (Address a) → IsTrue (covers grid a)
address_made a (bs, T.address on) = on

variable_made : (v : Bytes) → IsToken (Variable v) → IsRow is_lower v
variable_made v (bs, T.variable row) = row

-- ---- forms

chained_made : (level : Level) (f : Raw) (rest : RawOperands) → IsMade f → AreMade level rest → IsMade (chained level f rest)
chained_made level f G.RawOperands.no_operand h k = h
chained_made level f (G.RawOperands.operand_and op g rest) h k = (tt, (h, k))

let_made : (l : Bool) (word : Bytes) (v : Bytes) (f body : Raw) → AllMade (bound v f body) → IsMade (if l then Raw.Let v f body else Raw.Apply word (bound v f body))
let_made true word v f body h = (h.0, (h.1.0, h.1.1.0))
let_made false word v f body h = h

applied_made : (word : Bytes) (xs : Raws) → AllMade xs → IsMade (applied word xs)
applied_made word (raw_and (Raw.Var v) (raw_and f (raw_and body no_raw))) h = let_made (is_let word) word v f body h
applied_made word xs h = h

mutual
  pub expr_made : {ts us : Tokens} {f : Raw} → IsExpr ts f us → AreTokens ts → IsMade f × AreTokens us
  expr_made (alone c) h = chain_made c h
  expr_made (compare {s = s} {op = op} c e d) h =
      let p = chain_made c h in
      let q = chain_made d p.1.1 in
      ((subst (λ z. comparison z ≡ Some op) (comparison_sign s op e) e, (p.0, q.0)), q.1)

  chain_made : {level : Level} {ts us : Tokens} {f : Raw} → IsChain level ts f us → AreTokens ts → IsMade f × AreTokens us
  chain_made (chain {level = level} {f = f} {rest = rest} o l) h =
      let p = operand_made o h in
      let q = links_made l p.1 in
      (chained_made level f rest p.0 q.0, q.1)

  links_made : {level : Level} {ts us : Tokens} {rest : RawOperands} → IsLinks level ts rest us → AreTokens ts → AreMade level rest × AreTokens us
  links_made no_link h = (tt, h)
  links_made {level} (link {s = s} {op = op} e o l) h =
      let p = operand_made o h.1 in
      let q = links_made l p.1 in
      ((subst (λ z. operator level z ≡ Some op) (operator_sign level s op e) e, (p.0, q.0)), q.1)

  operand_made : {level : Level} {ts us : Tokens} {f : Raw} → IsOperand level ts f us → AreTokens ts → IsMade f × AreTokens us
  operand_made (sum c) h = chain_made c h
  operand_made (prod c) h = chain_made c h
  operand_made (unary u) h = unary_made u h

  unary_made : {ts us : Tokens} {f : Raw} → IsUnary ts f us → AreTokens ts → IsMade f × AreTokens us
  unary_made (neg u) h = unary_made u h.1
  unary_made (atom a) h = atom_made a h

  atom_made : {ts us : Tokens} {f : Raw} → IsAtom ts f us → AreTokens ts → IsMade f × AreTokens us
  atom_made (number {n = n}) h = (integer_made n h.0, h.1)
  atom_made (text {t = t}) h = (quoted_made t h.0, h.1)
  atom_made truth h = (tt, h.1)
  atom_made (address {a = a}) h = (address_made a h.0, h.1)
  atom_made (spill {a = a}) h = (address_made a h.0, h.1.1)
  atom_made (corners {a = a} {b = b}) h = ((address_made a h.0, address_made b h.1.1.0), h.1.1.1)
  atom_made (variable {v = v}) h = (variable_made v h.0, h.1)
  atom_made (apply {word = word} {xs = xs} a) h = let p = arguments_made a h.1.1 in (applied_made word xs p.0, p.1)
  atom_made (parens e) h = let p = expr_made e h.1 in (p.0, p.1.1)

  arguments_made : {ts us : Tokens} {xs : Raws} → IsArguments ts xs us → AreTokens ts → AllMade xs × AreTokens us
  arguments_made no_argument h = (tt, h.1)
  arguments_made (argument e m) h = let p = expr_made e h in let q = more_made m p.1 in ((p.0, q.0), q.1)

  more_made : {ts us : Tokens} {xs : Raws} → IsMore ts xs us → AreTokens ts → AllMade xs × AreTokens us
  more_made close h = (tt, h.1)
  more_made (comma e m) h = let p = expr_made e h.1 in let q = more_made m p.1 in ((p.0, q.0), q.1)

-- ---- trees

mutual
  pub has_tokens : (f : Raw) → IsMade f → IsNamed f → HasTokens (tree f)
  has_tokens (Raw.Number n) h k = h
  has_tokens (Raw.Text t) h k = h
  has_tokens (Raw.Boolean b) h k = tt
  has_tokens (Raw.At a) h k = h
  has_tokens (Raw.Spill a) h k = h
  has_tokens (Raw.Corners a b) h k = h
  has_tokens (Raw.Var v) h k = h
  has_tokens (Raw.Neg f) h k = has_tokens f h k
  has_tokens (Raw.Chain level f rest) h k = (has_tokens f h.1.0 k.0, have_tokens level rest h.1.1 k.1)
  has_tokens (Raw.Compare op f g) h k = (has_tokens f h.1.0 k.0, has_tokens g h.1.1 k.1)
  has_tokens (Raw.Let v f body) h k = (h.0, (has_tokens f h.1.0 k.0, has_tokens body h.1.1 k.1))
  has_tokens (Raw.Apply word xs) h k = (call_stands word xs k.0).has (all_have_tokens xs h k.1)

  have_tokens : (level : Level) (rest : RawOperands) → AreMade level rest → AreNamed rest → HaveTokens (operand_trees rest)
  have_tokens level G.RawOperands.no_operand h k = tt
  have_tokens level (G.RawOperands.operand_and op f rest) h k = (has_tokens f h.1.0 k.0, have_tokens level rest h.1.1 k.1)

  all_have_tokens : (xs : Raws) → AllMade xs → AllNamed xs → AllHaveTokens (trees xs)
  all_have_tokens no_raw h k = tt
  all_have_tokens (raw_and f fs) h k = (has_tokens f h.0 k.0, all_have_tokens fs h.1 k.1)
