-- The canonical tokens of a form are read as this form, in each place and whatever follows.
use Rattle.std.proofs.Common.{◌&&◌, ◌≡◌, ℕ, ◌+◌, ◌≤◌, Bool, true, false, [], ◌∷◌, ◌++◌, append_assoc, ap, refl, sym, subst, ◌∙◌, arith}
use Rattle.std.specs.Prelude.{nat_lt, nat_le, codes}
use Rattle.std.proofs.lemmas.Bool.{or_parts, ltb-false}
use Rattle.gl_calculus.specs.Grid.Limits.{max_minus}
use Rattle.gl_calculus.specs.Formulas.Formula.{Level, Formula}
use Rattle.gl_calculus.specs.Formulas.Formula as F
use Rattle.gl_language.specs.Texts.Text.{level_place, place_of, is_neg, needs_parens, one_more, minus_of}
use Rattle.gl_language.specs.Reading.Token.{Signed}
use Rattle.gl_language.specs.Reading.Token as T
use Rattle.gl_language.specs.Texts.Canonical.{op_sign, tokens_in_place, tokens_behind, operands_tokens, arguments_tokens, more_tokens}
use Rattle.gl_language.specs.Reading.Grammar.{Raw, Raws, no_raw, raw_and, RawOperands, Tokens, chained, applied, IsExpr, alone, compare, IsChain, chain, IsLinks, no_link, link, IsOperand, sum, prod, unary, IsUnary, neg, atom, IsAtom, number, text, truth, address, spill, corners, variable, apply, parens, IsArguments, no_argument, argument, IsMore, close, comma, tree, operand_trees, trees}
use Rattle.gl_language.specs.Reading.Grammar as G
use Rattle.laws_language.proofs.Grammar.Named.{IsNamed, AreNamed, AllNamed, call_stands, is_call}
use Rattle.laws_language.proofs.Grammar.Made.{HasOperand, IsMade, AreMade, AllMade}

-- ---- places

pub data Place : Type 0 where
  ExprPlace CatPlace SumPlace ProdPlace UnaryPlace AtomPlace : Place

abbrev pub width : Place → ℕ
width ExprPlace = 0
width CatPlace = 1
width SumPlace = 2
width ProdPlace = 3
width UnaryPlace = 4
width AtomPlace = 5

abbrev pub IsAt : Place → Tokens → Raw → Tokens → Type 0
IsAt ExprPlace ts f us = IsExpr ts f us
IsAt CatPlace ts f us = IsChain F.Level.Cat ts f us
IsAt SumPlace ts f us = IsChain F.Level.Sum ts f us
IsAt ProdPlace ts f us = IsChain F.Level.Prod ts f us
IsAt UnaryPlace ts f us = IsUnary ts f us
IsAt AtomPlace ts f us = IsAtom ts f us

as_prod : {ts us : Tokens} {f : Raw} → IsUnary ts f us → IsChain F.Level.Prod ts f us
as_prod u = chain (unary u) no_link

as_sum : {ts us : Tokens} {f : Raw} → IsChain F.Level.Prod ts f us → IsChain F.Level.Sum ts f us
as_sum c = chain (prod c) no_link

as_cat : {ts us : Tokens} {f : Raw} → IsChain F.Level.Sum ts f us → IsChain F.Level.Cat ts f us
as_cat c = chain (sum c) no_link

-- what stands in a place stands in each wider one
widen : (p q : Place) (ts us : Tokens) (f : Raw) → width q ≤ width p → IsAt p ts f us → IsAt q ts f us
widen ExprPlace ExprPlace ts us f h r = r
widen ExprPlace CatPlace ts us f h r = absurd (omega (arith, h))
widen ExprPlace SumPlace ts us f h r = absurd (omega (arith, h))
widen ExprPlace ProdPlace ts us f h r = absurd (omega (arith, h))
widen ExprPlace UnaryPlace ts us f h r = absurd (omega (arith, h))
widen ExprPlace AtomPlace ts us f h r = absurd (omega (arith, h))
widen CatPlace ExprPlace ts us f h r = alone r
widen CatPlace CatPlace ts us f h r = r
widen CatPlace SumPlace ts us f h r = absurd (omega (arith, h))
widen CatPlace ProdPlace ts us f h r = absurd (omega (arith, h))
widen CatPlace UnaryPlace ts us f h r = absurd (omega (arith, h))
widen CatPlace AtomPlace ts us f h r = absurd (omega (arith, h))
widen SumPlace ExprPlace ts us f h r = alone (as_cat r)
widen SumPlace CatPlace ts us f h r = as_cat r
widen SumPlace SumPlace ts us f h r = r
widen SumPlace ProdPlace ts us f h r = absurd (omega (arith, h))
widen SumPlace UnaryPlace ts us f h r = absurd (omega (arith, h))
widen SumPlace AtomPlace ts us f h r = absurd (omega (arith, h))
widen ProdPlace ExprPlace ts us f h r = alone (as_cat (as_sum r))
widen ProdPlace CatPlace ts us f h r = as_cat (as_sum r)
widen ProdPlace SumPlace ts us f h r = as_sum r
widen ProdPlace ProdPlace ts us f h r = r
widen ProdPlace UnaryPlace ts us f h r = absurd (omega (arith, h))
widen ProdPlace AtomPlace ts us f h r = absurd (omega (arith, h))
widen UnaryPlace ExprPlace ts us f h r = alone (as_cat (as_sum (as_prod r)))
widen UnaryPlace CatPlace ts us f h r = as_cat (as_sum (as_prod r))
widen UnaryPlace SumPlace ts us f h r = as_sum (as_prod r)
widen UnaryPlace ProdPlace ts us f h r = as_prod r
widen UnaryPlace UnaryPlace ts us f h r = r
widen UnaryPlace AtomPlace ts us f h r = absurd (omega (arith, h))
widen AtomPlace ExprPlace ts us f h r = alone (as_cat (as_sum (as_prod (atom r))))
widen AtomPlace CatPlace ts us f h r = as_cat (as_sum (as_prod (atom r)))
widen AtomPlace SumPlace ts us f h r = as_sum (as_prod (atom r))
widen AtomPlace ProdPlace ts us f h r = as_prod (atom r)
widen AtomPlace UnaryPlace ts us f h r = atom r
widen AtomPlace AtomPlace ts us f h r = r

-- ---- in a place

abbrev pub level_at : Level → Place
level_at F.Level.Cat = CatPlace
level_at F.Level.Sum = SumPlace
level_at F.Level.Prod = ProdPlace

-- the narrowest place of a form without parentheses
abbrev pub place_in : Raw → Place
place_in (Raw.Compare op f g) = ExprPlace
place_in (Raw.Chain level f rest) = level_at level
place_in (Raw.Neg f) = UnaryPlace
place_in f = AtomPlace

level_width : (level : Level) → width (level_at level) ≡ level_place level
level_width F.Level.Cat = refl
level_width F.Level.Sum = refl
level_width F.Level.Prod = refl

place_width : (f : Raw) → IsNamed f → width (place_in f) ≡ place_of (tree f)
place_width (Raw.Compare op f g) n = refl
place_width (Raw.Chain level f rest) n = level_width level
place_width (Raw.Neg f) n = refl
place_width (Raw.Apply word xs) n = sym (call_stands word xs n.0).at_place
place_width f n = refl

-- the canonical tokens of a formula in a place, behind so many `-`
abbrev pub placed : ℕ → ℕ → Formula → Tokens
placed place minus f = tokens_in_place (needs_parens minus place f) (λ m. tokens_behind m f) minus

-- a form's tokens without parentheses around them are read as it
abbrev IsRead : Raw → Type 0
IsRead f = (minus : ℕ) (rest : Tokens) → IsAt (place_in f) (tokens_behind minus (tree f) ++ rest) f rest

parenthesized : (ts rest : Tokens) (f : Raw) → IsExpr (ts ++ Signed T.Sign.RightParen ∷ rest) f (Signed T.Sign.RightParen ∷ rest) → IsAtom (Signed T.Sign.LeftParen ∷ ((ts ++ Signed T.Sign.RightParen ∷ []) ++ rest)) f rest
parenthesized ts rest f r =
    let e : (ts ++ Signed T.Sign.RightParen ∷ []) ++ rest ≡ ts ++ Signed T.Sign.RightParen ∷ rest = append_assoc ts (Signed T.Sign.RightParen ∷ []) rest in
    parens (subst (λ z. IsExpr z f (Signed T.Sign.RightParen ∷ rest)) (sym e) r)

expr_at : (f : Raw) → IsRead f → (rest : Tokens) → IsExpr (tokens_behind 0 (tree f) ++ rest) f rest
expr_at f r rest = widen (place_in f) ExprPlace (tokens_behind 0 (tree f) ++ rest) rest f (omega arith) (r 0 rest)

at_most : (q : Place) → width q ≤ 5
at_most ExprPlace = omega arith
at_most CatPlace = omega arith
at_most SumPlace = omega arith
at_most ProdPlace = omega arith
at_most UnaryPlace = omega arith
at_most AtomPlace = omega arith

placed_by : (f : Raw) → IsNamed f → IsRead f → (q : Place) (minus : ℕ) (rest : Tokens) (b : Bool) → needs_parens minus (width q) (tree f) ≡ b → IsAt q (tokens_in_place b (λ m. tokens_behind m (tree f)) minus ++ rest) f rest
placed_by f n r q minus rest true h =
    let ts = tokens_behind 0 (tree f) in
    let close = Signed T.Sign.RightParen ∷ rest in
    widen AtomPlace q (Signed T.Sign.LeftParen ∷ ((ts ++ Signed T.Sign.RightParen ∷ []) ++ rest)) rest f (at_most q) (parenthesized ts rest f (expr_at f r close))
placed_by f n r q minus rest false h =
    let p = or_parts (nat_lt (place_of (tree f)) (width q)) (is_neg (tree f) && nat_le max_minus minus) h in
    let l : width q ≤ place_of (tree f) = ltb-false (place_of (tree f)) (width q) p.0 in
    widen (place_in f) q (tokens_behind minus (tree f) ++ rest) rest f (omega (arith, l, place_width f n)) (r minus rest)

placed_at : (f : Raw) → IsNamed f → IsRead f → (q : Place) (minus : ℕ) (rest : Tokens) → IsAt q (placed (width q) minus (tree f) ++ rest) f rest
placed_at f n r q minus rest = placed_by f n r q minus rest (needs_parens minus (width q) (tree f)) refl

operand_at : (level : Level) (f : Raw) → IsNamed f → IsRead f → (minus : ℕ) (rest : Tokens) → IsOperand level (placed (level_place level + 1) minus (tree f) ++ rest) f rest
operand_at F.Level.Cat f n r minus rest = sum (placed_at f n r SumPlace minus rest)
operand_at F.Level.Sum f n r minus rest = prod (placed_at f n r ProdPlace minus rest)
operand_at F.Level.Prod f n r minus rest = unary (placed_at f n r UnaryPlace minus rest)

chain_at : (level : Level) (ts us : Tokens) (f : Raw) → IsChain level ts f us → IsAt (level_at level) ts f us
chain_at F.Level.Cat ts us f c = c
chain_at F.Level.Sum ts us f c = c
chain_at F.Level.Prod ts us f c = c

pub chained_is : (level : Level) (f : Raw) (os : RawOperands) → HasOperand os → chained level f os ≡ Raw.Chain level f os
chained_is level f G.RawOperands.no_operand h = absurd h
chained_is level f (G.RawOperands.operand_and op g os) h = refl

-- ---- forms

mutual
  pub is_read : (f : Raw) → IsMade f → IsNamed f → IsRead f
  is_read (Raw.Number n) h k minus rest = number
  is_read (Raw.Text t) h k minus rest = text
  is_read (Raw.Boolean b) h k minus rest = truth
  is_read (Raw.At a) h k minus rest = address
  is_read (Raw.Spill a) h k minus rest = spill
  is_read (Raw.Corners a b) h k minus rest = corners
  is_read (Raw.Var v) h k minus rest = variable
  is_read (Raw.Neg f) h k minus rest = neg (placed_at f k (is_read f h k) UnaryPlace (one_more minus) rest)
  is_read (Raw.Chain level f os) h k minus rest =
      let xs = placed (level_place level + 1) minus (tree f) in
      let ys = operands_tokens (level_place level + 1) (operand_trees os) in
      let c : IsChain level (xs ++ (ys ++ rest)) (chained level f os) rest = chain (operand_at level f k.0 (is_read f h.1.0 k.0) minus (ys ++ rest)) (links_read level os h.1.1 k.1 rest) in
      let d : IsChain level (xs ++ (ys ++ rest)) (Raw.Chain level f os) rest = subst (λ z. IsChain level (xs ++ (ys ++ rest)) z rest) (chained_is level f os h.0) c in
      chain_at level ((xs ++ ys) ++ rest) rest (Raw.Chain level f os) (subst (λ z. IsChain level z (Raw.Chain level f os) rest) (sym (append_assoc xs ys rest)) d)
  is_read (Raw.Compare op f g) h k minus rest =
      let xs = placed 1 minus (tree f) in
      let ys = placed 1 0 (tree g) in
      let s : T.Token = Signed (op_sign op) in
      let r : IsExpr (xs ++ (s ∷ (ys ++ rest))) (Raw.Compare op f g) rest = compare (placed_at f k.0 (is_read f h.1.0 k.0) CatPlace minus (s ∷ (ys ++ rest))) h.0 (placed_at g k.1 (is_read g h.1.1 k.1) CatPlace 0 rest) in
      subst (λ z. IsExpr z (Raw.Compare op f g) rest) (sym (append_assoc xs (s ∷ ys) rest)) r
  is_read (Raw.Let v f body) h k minus rest =
      let close : T.Token = Signed T.Sign.RightParen in
      let x : T.Token = Signed T.Sign.Comma in
      let fs = tokens_behind 0 (tree f) in
      let bs = tokens_behind 0 (tree body) in
      let e : (fs ++ (x ∷ (bs ++ close ∷ []))) ++ rest ≡ fs ++ (x ∷ (bs ++ close ∷ rest)) = append_assoc fs (x ∷ (bs ++ close ∷ [])) rest ∙ ap (λ z. fs ++ (x ∷ z)) (append_assoc bs (close ∷ []) rest) in
      let v_read : IsExpr (T.Variable v ∷ x ∷ (fs ++ (x ∷ (bs ++ close ∷ rest)))) (Raw.Var v) (x ∷ (fs ++ (x ∷ (bs ++ close ∷ rest)))) = alone (as_cat (as_sum (as_prod (atom variable)))) in
      let f_read = expr_at f (is_read f h.1.0 k.0) (x ∷ (bs ++ close ∷ rest)) in
      let body_read = expr_at body (is_read body h.1.1 k.1) (close ∷ rest) in
      let r : IsAtom (T.Word (codes "LET") ∷ Signed T.Sign.LeftParen ∷ T.Variable v ∷ x ∷ (fs ++ (x ∷ (bs ++ close ∷ rest)))) (Raw.Let v f body) rest = apply (argument v_read (comma f_read (comma body_read G.close))) in
      subst (λ z. IsAtom (T.Word (codes "LET") ∷ Signed T.Sign.LeftParen ∷ T.Variable v ∷ x ∷ z) (Raw.Let v f body) rest) (sym e) r
  is_read (Raw.Apply word xs) h k minus rest =
      let close : T.Token = Signed T.Sign.RightParen in
      let ys = arguments_tokens (trees xs) in
      let e : (ys ++ close ∷ []) ++ rest ≡ ys ++ close ∷ rest = append_assoc ys (close ∷ []) rest in
      let a : IsAtom (T.Word word ∷ Signed T.Sign.LeftParen ∷ (ys ++ close ∷ rest)) (applied word xs) rest = apply (arguments_read xs h k.1 rest) in
      let r : IsAtom (T.Word word ∷ Signed T.Sign.LeftParen ∷ (ys ++ close ∷ rest)) (Raw.Apply word xs) rest = subst (λ z. IsAtom (T.Word word ∷ Signed T.Sign.LeftParen ∷ (ys ++ close ∷ rest)) z rest) (is_call word xs k.0) a in
      subst (λ z. IsAtom (z ++ rest) (Raw.Apply word xs) rest) (sym ((call_stands word xs k.0).tokens minus)) (subst (λ z. IsAtom (T.Word word ∷ Signed T.Sign.LeftParen ∷ z) (Raw.Apply word xs) rest) (sym e) r)

  links_read : (level : Level) (os : RawOperands) → AreMade level os → AreNamed os → (rest : Tokens) → IsLinks level (operands_tokens (level_place level + 1) (operand_trees os) ++ rest) os rest
  links_read level G.RawOperands.no_operand h k rest = no_link
  links_read level (G.RawOperands.operand_and op f os) h k rest =
      let xs = placed (level_place level + 1) (minus_of op) (tree f) in
      let ys = operands_tokens (level_place level + 1) (operand_trees os) in
      let r : IsLinks level (Signed (op_sign op) ∷ (xs ++ (ys ++ rest))) (G.RawOperands.operand_and op f os) rest = link h.0 (operand_at level f k.0 (is_read f h.1.0 k.0) (minus_of op) (ys ++ rest)) (links_read level os h.1.1 k.1 rest) in
      subst (λ z. IsLinks level (Signed (op_sign op) ∷ z) (G.RawOperands.operand_and op f os) rest) (sym (append_assoc xs ys rest)) r

  arguments_read : (xs : Raws) → AllMade xs → AllNamed xs → (rest : Tokens) → IsArguments (arguments_tokens (trees xs) ++ Signed T.Sign.RightParen ∷ rest) xs rest
  arguments_read no_raw h k rest = no_argument
  arguments_read (raw_and f fs) h k rest =
      let xs = tokens_behind 0 (tree f) in
      let ys = more_tokens (trees fs) in
      let close = Signed T.Sign.RightParen ∷ rest in
      let r : IsArguments (xs ++ (ys ++ close)) (raw_and f fs) rest = argument (expr_at f (is_read f h.0 k.0) (ys ++ close)) (more_read fs h.1 k.1 rest) in
      subst (λ z. IsArguments z (raw_and f fs) rest) (sym (append_assoc xs ys close)) r

  more_read : (xs : Raws) → AllMade xs → AllNamed xs → (rest : Tokens) → IsMore (more_tokens (trees xs) ++ Signed T.Sign.RightParen ∷ rest) xs rest
  more_read no_raw h k rest = close
  more_read (raw_and f fs) h k rest =
      let xs = tokens_behind 0 (tree f) in
      let ys = more_tokens (trees fs) in
      let close = Signed T.Sign.RightParen ∷ rest in
      let r : IsMore (Signed T.Sign.Comma ∷ (xs ++ (ys ++ close))) (raw_and f fs) rest = comma (expr_at f (is_read f h.0 k.0) (ys ++ close)) (more_read fs h.1 k.1 rest) in
      subst (λ z. IsMore (Signed T.Sign.Comma ∷ z) (raw_and f fs) rest) (sym (append_assoc xs ys close)) r

pub canonical_read : (f : Raw) → IsMade f → IsNamed f → (rest : Tokens) → IsExpr (tokens_behind 0 (tree f) ++ rest) f rest
canonical_read f h k rest = expr_at f (is_read f h k) rest
