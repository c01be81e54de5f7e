-- A list of tokens has at most one form, behind which it ends in one place.
use Rattle.std.proofs.Common.{◌≡◌, [], ◌∷◌, ap, refl, sym, subst, ◌∙◌, arith, lit<}
use Rattle.std.specs.Prelude.{Option, Some}
use Rattle.gl_calculus.specs.Formulas.Formula.{Op, Level}
use Rattle.gl_calculus.specs.Formulas.Formula as F
use Rattle.gl_language.specs.Reading.Token.{Sign, Signed}
use Rattle.gl_language.specs.Reading.Token as T
use Rattle.gl_language.specs.Reading.Grammar.{Raw, Raws, raw_and, RawOperands, Tokens, comparison, operator, chained, applied, IsExpr, alone, compare, IsChain, chain, IsLinks, no_link, link, IsOperand, sum, prod, unary, IsUnary, neg, atom, IsAtom, number, text, truth, address, spill, corners, variable, apply, parens, IsArguments, no_argument, argument, IsMore, close, comma}
use Rattle.gl_language.specs.Reading.Grammar as G
use Rattle.laws_language.proofs.Grammar.Ends.{Ends, chain_end, operand_end, later, compares, operates, links_end, more_ends}

-- the same form, and the same tokens behind it
abbrev pub Same : {A : Type 0} → A → A → Tokens → Tokens → Type 0
Same f g us vs = (f ≡ g) × (us ≡ vs)

-- the signs in front, and what stands behind them
same_sign : (s t : Sign) (us vs : Tokens) → Signed s ∷ us ≡ Signed t ∷ vs → (s ≡ t) × (us ≡ vs)
same_sign s t us vs h = (cc, cc)

same_op : (f : Sign → Option Op) (s t : Sign) (op o : Op) → s ≡ t → f s ≡ Some op → f t ≡ Some o → op ≡ o
same_op f s t op o e h k = let i : Some op ≡ Some o = sym h ∙ ap f e ∙ k in cc

-- ---- what no form begins with

abbrev Begins : Tokens → Type 0
Begins (Signed T.Sign.RightParen ∷ ts) = ⊥
Begins ts = Unit {0}

atom_begins : {ts us : Tokens} {f : Raw} → IsAtom ts f us → Begins ts
atom_begins number = tt
atom_begins a = tt

unary_begins : {ts us : Tokens} {f : Raw} → IsUnary ts f us → Begins ts
unary_begins (neg u) = tt
unary_begins (atom a) = atom_begins a

mutual
  chain_begins : {level : Level} {ts us : Tokens} {f : Raw} → IsChain level ts f us → Begins ts
  chain_begins (chain o l) = operand_begins o

  operand_begins : {level : Level} {ts us : Tokens} {f : Raw} → IsOperand level ts f us → Begins ts
  operand_begins (sum c) = chain_begins c
  operand_begins (prod c) = chain_begins c
  operand_begins (unary u) = unary_begins u

pub expr_begins : {ts us : Tokens} {f : Raw} → IsExpr ts f us → Begins ts
expr_begins (alone c) = chain_begins c
expr_begins (compare c e d) = chain_begins c

-- ---- one form

mutual
  pub one_expr : {ts us vs : Tokens} {f g : Raw} → IsExpr ts f us → Ends 1 us → IsExpr ts g vs → Ends 1 vs → Same f g us vs
  one_expr {us = us} {vs = vs} (alone c) e (alone d) k = one_chain c (later 1 2 us (omega arith) e) d (later 1 2 vs (omega arith) k)
  one_expr {us = us} (alone c) e (compare {us = ws} {s = s} {op = op} d h j) k =
      let p = one_chain c (later 1 2 us (omega arith) e) d (omega (arith, compares s op h)) in
      let q : Ends 1 (Signed s ∷ ws) = subst (Ends 1) p.1 e in
      absurd (omega (arith, compares s op h, q))
  one_expr {vs = vs} (compare {us = ws} {s = s} {op = op} c h i) e (alone d) k =
      let p = one_chain c (omega (arith, compares s op h)) d (later 1 2 vs (omega arith) k) in
      let q : Ends 1 (Signed s ∷ ws) = subst (Ends 1) (sym p.1) k in
      absurd (omega (arith, compares s op h, q))
  one_expr {us = us} {vs = vs} (compare {us = ws} {f = f} {g = g} {s = s} {op = op} c h i) e (compare {us = xs} {f = m} {g = n} {s = t} {op = o} d j l) k =
      let p = one_chain c (omega (arith, compares s op h)) d (omega (arith, compares t o j)) in
      let q = same_sign s t ws xs p.1 in
      let r = one_chain i (later 1 2 us (omega arith) e) (subst (λ z. IsChain F.Level.Cat z n vs) (sym q.1) l) (later 1 2 vs (omega arith) k) in
      let w = same_op comparison s t op o q.0 h j in
      (ap (λ z. Raw.Compare z f g) w ∙ ap (λ z. Raw.Compare o z g) p.0 ∙ ap (λ z. Raw.Compare o m z) r.0, r.1)

  one_chain : {level : Level} {ts us vs : Tokens} {f g : Raw} → IsChain level ts f us → Ends (chain_end level) us → IsChain level ts g vs → Ends (chain_end level) vs → Same f g us vs
  one_chain {level} {vs = vs} (chain {us = ws} {f = f} {rest = rest} o l) e (chain {us = xs} {f = g} {rest = others} p m) k =
      let q = one_operand o (links_end l e) p (links_end m k) in
      let r = one_links l e (subst (λ z. IsLinks level z others vs) (sym q.1) m) k in
      (ap (λ z. chained level z rest) q.0 ∙ ap (λ z. chained level g z) r.0, r.1)

  one_links : {level : Level} {ts us vs : Tokens} {rest others : RawOperands} → IsLinks level ts rest us → Ends (chain_end level) us → IsLinks level ts others vs → Ends (chain_end level) vs → Same rest others us vs
  one_links no_link e no_link k = (refl, refl)
  one_links {level} no_link e (link {s = s} {op = op} h p m) k = absurd (omega (arith, operates level s op h, e))
  one_links {level} (link {s = s} {op = op} h o l) e no_link k = absurd (omega (arith, operates level s op h, k))
  one_links {level} {vs = vs} (link {s = s} {op = op} {f = f} {rest = rest} h o l) e (link {op = q} {f = g} {rest = others} i p m) k =
      let r = one_operand o (links_end l e) p (links_end m k) in
      let t = one_links l e (subst (λ z. IsLinks level z others vs) (sym r.1) m) k in
      let w = same_op (operator level) s s op q refl h i in
      (ap (λ z. G.RawOperands.operand_and z f rest) w ∙ ap (λ z. G.RawOperands.operand_and q z rest) r.0 ∙ ap (λ z. G.RawOperands.operand_and q g z) t.0, t.1)

  one_operand : {level : Level} {ts us vs : Tokens} {f g : Raw} → IsOperand level ts f us → Ends (operand_end level) us → IsOperand level ts g vs → Ends (operand_end level) vs → Same f g us vs
  one_operand (sum c) e (sum d) k = one_chain c e d k
  one_operand (prod c) e (prod d) k = one_chain c e d k
  one_operand (unary c) e (unary d) k = one_unary c e d k

  one_unary : {ts us vs : Tokens} {f g : Raw} → IsUnary ts f us → Ends 5 us → IsUnary ts g vs → Ends 5 vs → Same f g us vs
  one_unary (neg c) e (neg d) k = let p = one_unary c e d k in (ap Raw.Neg p.0, p.1)
  one_unary (neg c) e (atom d) k = elim d [ ]
  one_unary (atom c) e (neg d) k = elim c [ ]
  one_unary (atom c) e (atom d) k = one_atom c e d k

  one_atom : {ts us vs : Tokens} {f g : Raw} → IsAtom ts f us → Ends 5 us → IsAtom ts g vs → Ends 5 vs → Same f g us vs
  one_atom number e number k = (refl, refl)
  one_atom text e text k = (refl, refl)
  one_atom truth e truth k = (refl, refl)
  one_atom address e address k = (refl, refl)
  one_atom address e spill k = absurd (omega (arith, e))
  one_atom address e corners k = absurd (omega (arith, e))
  one_atom spill e address k = absurd (omega (arith, k))
  one_atom spill e spill k = (refl, refl)
  one_atom corners e address k = absurd (omega (arith, k))
  one_atom corners e corners k = (refl, refl)
  one_atom variable e variable k = (refl, refl)
  one_atom (apply {word = word} a) e (apply b) k = let p = one_arguments a b in (ap (applied word) p.0, p.1)
  one_atom (parens a) e (parens b) k = let p = one_expr a (lit< tt) b (lit< tt) in (p.0, cc)

  one_arguments : {ts us vs : Tokens} {xs ys : Raws} → IsArguments ts xs us → IsArguments ts ys vs → Same xs ys us vs
  one_arguments no_argument no_argument = (refl, refl)
  one_arguments no_argument (argument b n) = absurd (expr_begins b)
  one_arguments (argument a m) no_argument = absurd (expr_begins a)
  one_arguments {vs = vs} (argument {f = f} {xs = xs} a m) (argument {f = g} {xs = ys} b n) =
      let p = one_expr a (more_ends m) b (more_ends n) in
      let q = one_more m (subst (λ z. IsMore z ys vs) (sym p.1) n) in
      (ap (λ z. raw_and z xs) p.0 ∙ ap (λ z. raw_and g z) q.0, q.1)

  one_more : {ts us vs : Tokens} {xs ys : Raws} → IsMore ts xs us → IsMore ts ys vs → Same xs ys us vs
  one_more close close = (refl, refl)
  one_more {vs = vs} (comma {f = f} {xs = xs} a m) (comma {f = g} {xs = ys} b n) =
      let p = one_expr a (more_ends m) b (more_ends n) in
      let q = one_more m (subst (λ z. IsMore z ys vs) (sym p.1) n) in
      (ap (λ z. raw_and z xs) p.0 ∙ ap (λ z. raw_and g z) q.0, q.1)

pub one_form : (ts : Tokens) (f g : Raw) → IsExpr ts f [] → IsExpr ts g [] → f ≡ g
one_form ts f g a b = (one_expr a tt b tt).0
