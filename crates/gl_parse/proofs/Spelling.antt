-- What is known of a form that was read from tokens.
use Rattle.std.proofs.Common.{◌≡◌, ℕ, ◌*◌, Bool, true, false, IsTrue, refl}
use Rattle.std.specs.Prelude.{◌&&◌, ◌||◌, not, nat_le, nat_lt, if◌then◌else◌}
use Rattle.std.specs.List.{AllByRecursion}
use Rattle.gl_calculus.specs.Grid.Limits.{max_cells}
use Rattle.gl_calculus.specs.Grid.Grid.{Addr, range, extents}
use Rattle.gl_calculus.specs.Formulas.Formula.{Level}
use Rattle.gl_language.specs.Texts.Text.{Bytes}
use Rattle.gl_language.specs.Reading.Token.{IsToken, Reads, no_more, space, token}
use Rattle.gl_language.specs.Reading.Token as T
use Rattle.gl_language.specs.Reading.Grammar.{Tokens, Raw, RawOperands, no_operand, operand_and, Raws, no_raw, raw_and, chained, some_form, some_operand, some_argument, is_bad_range, IsExpr, IsChain, IsLinks, IsOperand, IsUnary, IsAtom, IsArguments, IsMore}
use Rattle.gl_language.specs.Reading.Grammar as G
use Rattle.gl_parse.specs.Faults.{IsSpelled, AreSpelled, AreSpelledOperands, AnyCorners, InOrder}

abbrev pub AreTokens : Tokens → Type 0
AreTokens ts = AllByRecursion IsToken ts

pub lexed_tokens : {text rest : Bytes} {ts : Tokens} → Reads text ts rest → AreTokens ts
lexed_tokens no_more = tt
lexed_tokens (space r) = lexed_tokens r
lexed_tokens (token t r) = ((t.0, t.2), lexed_tokens r)

abbrev Spelled : Raw → Type 0
Spelled f = IsSpelled AnyCorners f

spelled_chain : (level : Level) (f : Raw) (rest : RawOperands) → Spelled f → AreSpelledOperands AnyCorners rest → Spelled (chained level f rest)
spelled_chain level f no_operand h i = h
spelled_chain level f (operand_and op g rest) h i = (h, i)

number_token : {n : ℕ} → IsToken (T.Integer n) → Spelled (G.Raw.Number n)
number_token (bs, T.integer row small) = small

text_token : {t : Bytes} → IsToken (T.Quoted t) → Spelled (G.Raw.Text t)
text_token (bs, T.quoted d utf8 short) = (utf8, short)

address_token : {a : Addr} → IsToken (T.Address a) → Spelled (G.Raw.At a)
address_token (bs, T.address on_grid) = on_grid

variable_token : {v : Bytes} → IsToken (T.Variable v) → Spelled (G.Raw.Var v)
variable_token (bs, T.variable row) = row

let_spelled : (l : Bool) (word : Bytes) (v : Bytes) (f body : Raw) → AreSpelled AnyCorners (raw_and (G.Raw.Var v) (raw_and f (raw_and body no_raw))) →
    Spelled (if l then G.Raw.Let v f body else G.Raw.Apply word (raw_and (G.Raw.Var v) (raw_and f (raw_and body no_raw))))
let_spelled true word v f body h = (h.0, h.1.0, h.1.1.0)
let_spelled false word v f body h = h

applied_spelled : (word : Bytes) (xs : Raws) → AreSpelled AnyCorners xs → Spelled (G.applied word xs)
applied_spelled word (raw_and (G.Raw.Var v) (raw_and f (raw_and body no_raw))) h = let_spelled (G.is_let word) word v f body h
applied_spelled word xs h = h

mutual
  pub expr_spelled : {ts us : Tokens} {f : Raw} → IsExpr ts f us → AreTokens ts → Spelled f × AreTokens us
  expr_spelled (G.alone c) h = chain_spelled c h
  expr_spelled (G.compare c e d) h =
      let p = chain_spelled c h in
      let q = chain_spelled d p.1.1 in
      ((p.0, q.0), q.1)

  chain_spelled : {level : Level} {ts us : Tokens} {f : Raw} → IsChain level ts f us → AreTokens ts → Spelled f × AreTokens us
  chain_spelled (G.chain {level = level} {f = f} {rest = rest} p q) h =
      let x = operand_spelled p h in
      let y = links_spelled q x.1 in
      (spelled_chain level f rest x.0 y.0, y.1)

  links_spelled : {level : Level} {ts us : Tokens} {rest : RawOperands} → IsLinks level ts rest us → AreTokens ts → AreSpelledOperands AnyCorners rest × AreTokens us
  links_spelled G.no_link h = (tt, h)
  links_spelled (G.link e p q) h =
      let x = operand_spelled p h.1 in
      let y = links_spelled q x.1 in
      ((x.0, y.0), y.1)

  operand_spelled : {level : Level} {ts us : Tokens} {f : Raw} → IsOperand level ts f us → AreTokens ts → Spelled f × AreTokens us
  operand_spelled (G.sum c) h = chain_spelled c h
  operand_spelled (G.prod c) h = chain_spelled c h
  operand_spelled (G.unary c) h = unary_spelled c h

  unary_spelled : {ts us : Tokens} {f : Raw} → IsUnary ts f us → AreTokens ts → Spelled f × AreTokens us
  unary_spelled (G.neg c) h = unary_spelled c h.1
  unary_spelled (G.atom c) h = atom_spelled c h

  atom_spelled : {ts us : Tokens} {f : Raw} → IsAtom ts f us → AreTokens ts → Spelled f × AreTokens us
  atom_spelled G.number h = (number_token h.0, h.1)
  atom_spelled G.text h = (text_token h.0, h.1)
  atom_spelled G.truth h = (tt, h.1)
  atom_spelled G.address h = (address_token h.0, h.1)
  atom_spelled G.spill h = (address_token h.0, h.1.1)
  atom_spelled G.corners h = ((address_token h.0, address_token h.1.1.0, tt), h.1.1.1)
  atom_spelled G.variable h = (variable_token h.0, h.1)
  atom_spelled (G.apply {word = word} {xs = xs} r) h =
      let p = arguments_spelled r h.1.1 in
      (applied_spelled word xs p.0, p.1)
  atom_spelled (G.parens r) h =
      let p = expr_spelled r h.1 in
      (p.0, p.1.1)

  arguments_spelled : {ts us : Tokens} {xs : Raws} → IsArguments ts xs us → AreTokens ts → AreSpelled AnyCorners xs × AreTokens us
  arguments_spelled G.no_argument h = (tt, h.1)
  arguments_spelled (G.argument c m) h =
      let p = expr_spelled c h in
      let q = more_spelled m p.1 in
      ((p.0, q.0), q.1)

  more_spelled : {ts us : Tokens} {xs : Raws} → IsMore ts xs us → AreTokens ts → AreSpelled AnyCorners xs × AreTokens us
  more_spelled G.close h = (tt, h.1)
  more_spelled (G.comma c m) h =
      let p = expr_spelled c h.1 in
      let q = more_spelled m p.1 in
      ((p.0, q.0), q.1)

-- ---- corners in order

neither : (a b : Bool) → a || b ≡ false → (a ≡ false) × (b ≡ false)
neither true b h = cc
neither false b h = (refl, h)

ordered : (x y z : Bool) → not (x && y) || z ≡ false → IsTrue (y && x)
ordered true true z h = refl
ordered true false z h = cc
ordered false y z h = cc

corners_ordered : (a b : Addr) → is_bad_range (G.Raw.Corners a b) ≡ false → InOrder a b
corners_ordered a b h = ordered (nat_le a.col b.col) (nat_le a.row b.row) (nat_lt max_cells ((extents (range a b)).rows * (extents (range a b)).cols)) h

mutual
  pub in_order : (f : Raw) → Spelled f → some_form is_bad_range f ≡ false → IsSpelled InOrder f
  in_order (G.Raw.Number n) s h = s
  in_order (G.Raw.Text t) s h = s
  in_order (G.Raw.Boolean b) s h = s
  in_order (G.Raw.At a) s h = s
  in_order (G.Raw.Spill a) s h = s
  in_order (G.Raw.Corners a b) s h = (s.0, s.1, corners_ordered a b h)
  in_order (G.Raw.Var v) s h = s
  in_order (G.Raw.Neg f) s h = in_order f s (neither false (some_form is_bad_range f) h).1
  in_order (G.Raw.Chain level f rest) s h =
      let p = neither (some_form is_bad_range f) (some_operand is_bad_range rest) h in
      (in_order f s.0 p.0, operands_in_order rest s.1 p.1)
  in_order (G.Raw.Compare op f g) s h =
      let p = neither (some_form is_bad_range f) (some_form is_bad_range g) h in
      (in_order f s.0 p.0, in_order g s.1 p.1)
  in_order (G.Raw.Let v f body) s h =
      let p = neither (some_form is_bad_range f) (some_form is_bad_range body) h in
      (s.0, in_order f s.1 p.0, in_order body s.2 p.1)
  in_order (G.Raw.Apply word xs) s h = arguments_in_order xs s h

  operands_in_order : (rest : RawOperands) → AreSpelledOperands AnyCorners rest → some_operand is_bad_range rest ≡ false → AreSpelledOperands InOrder rest
  operands_in_order no_operand s h = s
  operands_in_order (operand_and op f rest) s h =
      let p = neither (some_form is_bad_range f) (some_operand is_bad_range rest) h in
      (in_order f s.0 p.0, operands_in_order rest s.1 p.1)

  arguments_in_order : (xs : Raws) → AreSpelled AnyCorners xs → some_argument is_bad_range xs ≡ false → AreSpelled InOrder xs
  arguments_in_order no_raw s h = s
  arguments_in_order (raw_and f fs) s h =
      let p = neither (some_form is_bad_range f) (some_argument is_bad_range fs) h in
      (in_order f s.0 p.0, arguments_in_order fs s.1 p.1)
