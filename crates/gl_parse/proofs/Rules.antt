-- What each rule of the grammar says of the one reading.
use Rattle.std.proofs.Common.{◌≡◌, ℕ, List, [], ◌∷◌, ◌++◌, ap, sym, subst, refl, ◌∙◌, arith, Bool, lit<}
use Rattle.std.specs.Prelude.{Option, Some}
use Rattle.gl_calculus.specs.Grid.Grid.{Addr}
use Rattle.gl_calculus.specs.Formulas.Formula.{Level, Op}
use Rattle.gl_calculus.specs.Formulas.Formula as F
use Rattle.gl_language.specs.Texts.Text.{Bytes}
use Rattle.gl_language.specs.Reading.Token.{Sign, Integer, Quoted, Address, Truth, Word, Variable, Signed}
use Rattle.gl_language.specs.Reading.Token as T
use Rattle.gl_language.specs.Reading.Grammar as G
use Rattle.gl_language.specs.Reading.Grammar.{Tokens, Raw, RawOperands, no_operand, operand_and, Raws, no_raw, raw_and, comparison, operator, chained, IsExpr, alone, compare, IsChain, chain, IsLinks, no_link, link, IsOperand, sum, prod, unary, IsUnary, neg, atom, IsAtom, number, address, spill, corners, parens, text, truth, variable, apply, IsArguments, no_argument, argument, IsMore, close, comma}
use Rattle.gl_parse.specs.Raws.{onto, links, before, raws_of}
use Rattle.gl_parse.specs.Reading.{Ends, chain_end, operand_end, Front, after_sign, Form, Only, Never, SoFar, ArgumentsSoFar}
use Rattle.gl_parse.proofs.Ends.{later, compares, operates, links_end, at_sign, has_sign}

-- The same form from the same place.
along : {A : Type 0} (R : Form A) {t : A} {ts us vs : Tokens} → ts ≡ us → R ts t vs → R us t vs
along {A} R {t} {ts} {us} {vs} e r = subst (λ z. R z t vs) e r

clash : {us : Tokens} {o : Op} (f : Sign → Option Op) (s : Sign) (ws : Tokens) → f s ≡ Some o → Signed s ∷ ws ≡ us → after_sign f us ≡ Front.Other → ⊥
clash {us} {o} f s ws h e none =
    let a : after_sign f (Signed s ∷ ws) ≡ Front.Behind o ws = at_sign f s o ws h in
    let b : after_sign f (Signed s ∷ ws) ≡ Front.Other = ap (after_sign f) e ∙ none in
    cc

-- the operator in front and what follows it are one
match_sign : {us vs ws : Tokens} {o p : Op} (f : Sign → Option Op) (s : Sign) → f s ≡ Some p → Signed s ∷ ws ≡ us → after_sign f us ≡ Front.Behind o vs → (p ≡ o) × (ws ≡ vs)
match_sign {us} {vs} {ws} {o} {p} f s h e found =
    let a : after_sign f (Signed s ∷ ws) ≡ Front.Behind p ws = at_sign f s p ws h in
    let b : after_sign f (Signed s ∷ ws) ≡ Front.Behind o vs = ap (after_sign f) e ∙ found in
    (cc, cc)

-- the same reading under another name of the tree
pub same_tree : {A : Type 0} {R : Form A} {k : ℕ} {ts us : Tokens} {t u : A} → t ≡ u → Only R k ts u us → Only R k ts t us
same_tree {A} {R} {k} {ts} {us} h o = subst (λ z. Only R k ts z us) (sym h) o

-- ---- expr

module _ {ts us : Tokens} {a : Raw} (one : Only (IsChain F.Level.Cat) 2 ts a us) where
  expr_alone_only : after_sign comparison us ≡ Front.Other → (u : Raw) (other : Tokens) → IsExpr ts u other → Ends 1 other → (u ≡ a) × (other ≡ us)
  expr_alone_only h u other (alone c) e = one.only u other c (later 1 2 other (omega arith) e)
  expr_alone_only h u other (compare {us = ws} {s = s} {op = o} c f d) e =
      let p = one.only _ _ c (omega (arith, compares s o f)) in
      absurd (clash comparison s ws f p.1 h)

  pub expr_alone : after_sign comparison us ≡ Front.Other → Only IsExpr 1 ts a us
  expr_alone h = record { reads = alone one.reads; only = expr_alone_only h }

  module _ {vs : Tokens} {o : Op} (at : after_sign comparison us ≡ Front.Behind o vs) where
    not_alone : {u : Raw} {other : Tokens} → IsChain F.Level.Cat ts u other → Ends 1 other → ⊥
    not_alone {u} {other} c e =
        let p = one.only _ _ c (later 1 2 other (omega arith) e) in
        let q = has_sign comparison us vs o at in
        let ends : Ends 1 (Signed q.0 ∷ vs) = subst (Ends 1) (p.1 ∙ q.1) e in
        omega (arith, compares q.0 o q.2)

    module _ {b : Raw} {ws : Tokens} (two : Only (IsChain F.Level.Cat) 2 vs b ws) where
      expr_compared_only : (u : Raw) (other : Tokens) → IsExpr ts u other → Ends 1 other → (u ≡ G.Raw.Compare o a b) × (other ≡ ws)
      expr_compared_only u other (alone c) e = absurd (not_alone c e)
      expr_compared_only u other (compare {us = xs} {s = s} {op = r} c f d) e =
          let p = one.only _ _ c (omega (arith, compares s r f)) in
          let m = match_sign comparison s f p.1 at in
          let q = two.only _ _ (along (IsChain F.Level.Cat) m.1 d) (later 1 2 other (omega arith) e) in
          (cc, q.1)

      pub expr_compared : {n : Raw} → n ≡ G.Raw.Compare o a b → Only IsExpr 1 ts n ws
      expr_compared h =
          let q = has_sign comparison us vs o at in
          same_tree h (record { reads = compare (subst (λ z. IsChain F.Level.Cat ts a z) q.1 one.reads) q.2 two.reads; only = expr_compared_only })

    module _ (two : Never (IsChain F.Level.Cat) 2 vs) where
      expr_cut_never : (u : Raw) (other : Tokens) → IsExpr ts u other → Ends 1 other → ⊥
      expr_cut_never u other (alone c) e = not_alone c e
      expr_cut_never u other (compare {us = xs} {s = s} {op = r} c f d) e =
          let p = one.only _ _ c (omega (arith, compares s r f)) in
          let m = match_sign comparison s f p.1 at in
          two.never _ _ (along (IsChain F.Level.Cat) m.1 d) (later 1 2 other (omega arith) e)

      pub expr_cut : Never IsExpr 1 ts
      expr_cut = record { never = expr_cut_never }

expr_none_never : {ts : Tokens} → Never (IsChain F.Level.Cat) 2 ts → (u : Raw) (other : Tokens) → IsExpr ts u other → Ends 1 other → ⊥
expr_none_never n u other (alone c) e = n.never u other c (later 1 2 other (omega arith) e)
expr_none_never n u other (compare {s = s} {op = r} c f d) e = n.never _ _ c (omega (arith, compares s r f))

pub expr_none : {ts : Tokens} → Never (IsChain F.Level.Cat) 2 ts → Never IsExpr 1 ts
expr_none n = record { never = expr_none_never n }

-- ---- cat, sum and prod

pub onto_push : (front : List (Op × Raw)) (o : Op) (b : Raw) (more : RawOperands) → onto (front ++ (o, b) ∷ []) more ≡ onto front (operand_and o b more)
onto_push [] o b more = refl
onto_push (p ∷ ps) o b more = ap (λ z. operand_and p.0 p.1 z) (onto_push ps o b more)

module _ {l : Level} {ts us : Tokens} {a : Raw} (one : Only (IsOperand l) (operand_end l) ts a us) where
  start_only : (t : Raw) (ws : Tokens) → IsChain l ts t ws → Ends (chain_end l) ws → (more : RawOperands) × IsLinks l us more ws × (t ≡ chained l a more)
  start_only t ws (chain {us = vs} {f = b} {rest = more} p q) e =
      let r = one.only _ _ p (links_end q e) in
      (more, subst (λ z. IsLinks l z more ws) r.1 q, ap (λ z. chained l z more) r.0)

  pub so_far_start : SoFar l ts a [] us
  so_far_start = record { reads = λ more ws q. chain one.reads q; only = start_only }

chain_none_never : {l : Level} {ts : Tokens} → Never (IsOperand l) (operand_end l) ts → (u : Raw) (other : Tokens) → IsChain l ts u other → Ends (chain_end l) other → ⊥
chain_none_never n u other (chain p q) e = n.never _ _ p (links_end q e)

pub chain_none : {l : Level} {ts : Tokens} → Never (IsOperand l) (operand_end l) ts → Never (IsChain l) (chain_end l) ts
chain_none n = record { never = chain_none_never n }

-- Behind the links so far stands an operator, and so one more of them.
behind_more : {l : Level} {rest us ws : Tokens} {o : Op} {more : RawOperands} → after_sign (operator l) rest ≡ Front.Behind o us → IsLinks l rest more ws → Ends (chain_end l) ws → (b : Raw) × (vs : Tokens) × (others : RawOperands) × IsOperand l us b vs × IsLinks l vs others ws × (more ≡ operand_and o b others)
behind_more {l} {rest} {us} {ws} {o} at no_link e =
    let q = has_sign (operator l) rest us o at in
    let ends : Ends (chain_end l) (Signed q.0 ∷ us) = subst (Ends (chain_end l)) q.1 e in
    absurd (omega (arith, operates l q.0 o q.2))
behind_more {l} {o = o} at (link {ts = xs} {us = vs} {s = s} {op = r} {f = b} {rest = others} f p q) e =
    let m = match_sign (operator l) s f refl at in
    (b, vs, others, along (IsOperand l) m.1 p, q, ap (λ z. operand_and z b others) m.0)

none_more : {l : Level} {rest ws : Tokens} {more : RawOperands} → after_sign (operator l) rest ≡ Front.Other → IsLinks l rest more ws → (more ≡ no_operand) × (ws ≡ rest)
none_more at no_link = (refl, refl)
none_more {l} at (link {ts = xs} {s = s} f p q) = absurd (clash (operator l) s xs f refl at)

module _ {l : Level} {ts rest : Tokens} {a : Raw} {front : List (Op × Raw)} (so_far : SoFar l ts a front rest) where
  done_only : after_sign (operator l) rest ≡ Front.Other → (t : Raw) (ws : Tokens) → IsChain l ts t ws → Ends (chain_end l) ws → (t ≡ chained l a (links front)) × (ws ≡ rest)
  done_only h t ws c e =
      let q = so_far.only t ws c e in
      let n = none_more h q.1 in
      (q.2 ∙ ap (λ z. chained l a (onto front z)) n.0, n.1)

  pub so_far_done : {n : Raw} → after_sign (operator l) rest ≡ Front.Other → n ≡ chained l a (links front) → Only (IsChain l) (chain_end l) ts n rest
  so_far_done h i = same_tree i (record { reads = so_far.reads no_operand rest no_link; only = done_only h })

  module _ {us : Tokens} {o : Op} (at : after_sign (operator l) rest ≡ Front.Behind o us) where
    module _ {b : Raw} {vs : Tokens} (next : Only (IsOperand l) (operand_end l) us b vs) where
      step_reads : (more : RawOperands) (ws : Tokens) → IsLinks l vs more ws → IsChain l ts (chained l a (onto (front ++ (o, b) ∷ []) more)) ws
      step_reads more ws q =
          let h = has_sign (operator l) rest us o at in
          let r : IsLinks l rest (operand_and o b more) ws = subst (λ z. IsLinks l z (operand_and o b more) ws) (sym h.1) (link h.2 next.reads q) in
          rw (onto_push front o b more) (so_far.reads (operand_and o b more) ws r)

      step_only : (t : Raw) (ws : Tokens) → IsChain l ts t ws → Ends (chain_end l) ws → (more : RawOperands) × IsLinks l vs more ws × (t ≡ chained l a (onto (front ++ (o, b) ∷ []) more))
      step_only t ws c e =
          let q = so_far.only t ws c e in
          let m = behind_more at q.1 e in
          let n = next.only m.0 m.1 m.3 (links_end m.4 e) in
          let same : q.0 ≡ operand_and o b m.2 = m.5 ∙ ap (λ z. operand_and o z m.2) n.0 in
          (m.2, subst (λ z. IsLinks l z m.2 ws) n.1 m.4, rw (onto_push front o b m.2) (q.2 ∙ ap (λ z. chained l a (onto front z)) same))

      pub so_far_step : {longer : List (Op × Raw)} → longer ≡ front ++ (o, b) ∷ [] → SoFar l ts a longer vs
      so_far_step h =
          let s : SoFar l ts a (front ++ (o, b) ∷ []) vs = record { reads = step_reads; only = step_only } in
          subst (λ z. SoFar l ts a z vs) (sym h) s

    module _ (next : Never (IsOperand l) (operand_end l) us) where
      cut_never : (t : Raw) (ws : Tokens) → IsChain l ts t ws → Ends (chain_end l) ws → ⊥
      cut_never t ws c e =
          let q = so_far.only t ws c e in
          let m = behind_more at q.1 e in
          next.never m.0 m.1 m.3 (links_end m.4 e)

      pub so_far_cut : Never (IsChain l) (chain_end l) ts
      so_far_cut = record { never = cut_never }

-- ---- the operands

sum_only : {ts us : Tokens} {a : Raw} → Only (IsChain F.Level.Sum) 3 ts a us → (u : Raw) (other : Tokens) → IsOperand F.Level.Cat ts u other → Ends 3 other → (u ≡ a) × (other ≡ us)
sum_only one u other (sum c) e = one.only u other c e

pub operand_cat : {ts us : Tokens} {a : Raw} → Only (IsChain F.Level.Sum) 3 ts a us → Only (IsOperand F.Level.Cat) 3 ts a us
operand_cat one = record { reads = sum one.reads; only = sum_only one }

sum_never : {ts : Tokens} → Never (IsChain F.Level.Sum) 3 ts → (u : Raw) (other : Tokens) → IsOperand F.Level.Cat ts u other → Ends 3 other → ⊥
sum_never n u other (sum c) e = n.never u other c e

pub operand_cat_none : {ts : Tokens} → Never (IsChain F.Level.Sum) 3 ts → Never (IsOperand F.Level.Cat) 3 ts
operand_cat_none n = record { never = sum_never n }

prod_only : {ts us : Tokens} {a : Raw} → Only (IsChain F.Level.Prod) 4 ts a us → (u : Raw) (other : Tokens) → IsOperand F.Level.Sum ts u other → Ends 4 other → (u ≡ a) × (other ≡ us)
prod_only one u other (prod c) e = one.only u other c e

pub operand_sum : {ts us : Tokens} {a : Raw} → Only (IsChain F.Level.Prod) 4 ts a us → Only (IsOperand F.Level.Sum) 4 ts a us
operand_sum one = record { reads = prod one.reads; only = prod_only one }

prod_never : {ts : Tokens} → Never (IsChain F.Level.Prod) 4 ts → (u : Raw) (other : Tokens) → IsOperand F.Level.Sum ts u other → Ends 4 other → ⊥
prod_never n u other (prod c) e = n.never u other c e

pub operand_sum_none : {ts : Tokens} → Never (IsChain F.Level.Prod) 4 ts → Never (IsOperand F.Level.Sum) 4 ts
operand_sum_none n = record { never = prod_never n }

unary_only : {ts us : Tokens} {a : Raw} → Only IsUnary 5 ts a us → (u : Raw) (other : Tokens) → IsOperand F.Level.Prod ts u other → Ends 5 other → (u ≡ a) × (other ≡ us)
unary_only one u other (unary c) e = one.only u other c e

pub operand_prod : {ts us : Tokens} {a : Raw} → Only IsUnary 5 ts a us → Only (IsOperand F.Level.Prod) 5 ts a us
operand_prod one = record { reads = unary one.reads; only = unary_only one }

unary_never : {ts : Tokens} → Never IsUnary 5 ts → (u : Raw) (other : Tokens) → IsOperand F.Level.Prod ts u other → Ends 5 other → ⊥
unary_never n u other (unary c) e = n.never u other c e

pub operand_prod_none : {ts : Tokens} → Never IsUnary 5 ts → Never (IsOperand F.Level.Prod) 5 ts
operand_prod_none n = record { never = unary_never n }

-- ---- unary

at : {A : Type 0} {R : Form A} {k : ℕ} {ts xs us : Tokens} {t u : A} → ts ≡ xs → t ≡ u → Only R k xs u us → Only R k ts t us
at {A} {R} {k} {ts} {xs} {us} {t} {u} h i o = subst (λ z. Only R k z t us) (sym h) (subst (λ z. Only R k xs z us) (sym i) o)

never_at : {A : Type 0} {R : Form A} {k : ℕ} {ts xs : Tokens} → ts ≡ xs → Never R k xs → Never R k ts
never_at {A} {R} {k} h n = subst (λ z. Never R k z) (sym h) n

module _ {us vs : Tokens} {t : Raw} (one : Only IsUnary 5 us t vs) where
  minus_only : (u : Raw) (other : Tokens) → IsUnary (Signed (T.Sign.Operator F.Op.Sub) ∷ us) u other → Ends 5 other → (u ≡ G.Raw.Neg t) × (other ≡ vs)
  minus_only u other (neg c) e = let p = one.only _ _ c e in (ap G.Raw.Neg p.0, p.1)
  minus_only u other (atom c) e = elim c [ ]

  pub unary_minus : {ts : Tokens} {n : Raw} → ts ≡ Signed (T.Sign.Operator F.Op.Sub) ∷ us → n ≡ G.Raw.Neg t → Only IsUnary 5 ts n vs
  unary_minus h k = at h k (record { reads = neg one.reads; only = minus_only })

minus_never : {us : Tokens} → Never IsUnary 5 us → (u : Raw) (other : Tokens) → IsUnary (Signed (T.Sign.Operator F.Op.Sub) ∷ us) u other → Ends 5 other → ⊥
minus_never n u other (neg c) e = n.never _ _ c e
minus_never n u other (atom c) e = elim c [ ]

pub unary_minus_none : {ts us : Tokens} → Never IsUnary 5 us → ts ≡ Signed (T.Sign.Operator F.Op.Sub) ∷ us → Never IsUnary 5 ts
unary_minus_none n h = never_at h (record { never = minus_never n })

atom_by : {ts : Tokens} → ((us : Tokens) → ts ≡ Signed (T.Sign.Operator F.Op.Sub) ∷ us → ⊥) → {u : Raw} {other : Tokens} → IsUnary ts u other → IsAtom ts u other
atom_by free (neg c) = absurd (free _ refl)
atom_by free (atom c) = c

module _ {ts : Tokens} (free : (us : Tokens) → ts ≡ Signed (T.Sign.Operator F.Op.Sub) ∷ us → ⊥) where
  pub unary_atom : {us : Tokens} {t : Raw} → Only IsAtom 5 ts t us → Only IsUnary 5 ts t us
  unary_atom one = record { reads = atom one.reads; only = λ u other r e. one.only u other (atom_by free r) e }

  pub unary_atom_none : Never IsAtom 5 ts → Never IsUnary 5 ts
  unary_atom_none n = record { never = λ u other r e. n.never u other (atom_by free r) e }

-- ---- atom

integer_only : {n : ℕ} {us : Tokens} (u : Raw) (other : Tokens) → IsAtom (Integer n ∷ us) u other → Ends 5 other → (u ≡ G.Raw.Number n) × (other ≡ us)
integer_only u other number e = (refl, refl)

pub atom_integer : {ts us : Tokens} {n : ℕ} {t : Raw} → ts ≡ Integer n ∷ us → t ≡ G.Raw.Number n → Only IsAtom 5 ts t us
atom_integer h i = at h i (record { reads = number; only = integer_only })

spill_only : {a : Addr} {us : Tokens} (u : Raw) (other : Tokens) → IsAtom (Address a ∷ Signed T.Sign.Hash ∷ us) u other → Ends 5 other → (u ≡ G.Raw.Spill a) × (other ≡ us)
spill_only u other address e = absurd (omega arith)
spill_only u other spill e = (refl, refl)

pub atom_spill : {ts us : Tokens} {a : Addr} {t : Raw} → ts ≡ Address a ∷ Signed T.Sign.Hash ∷ us → t ≡ G.Raw.Spill a → Only IsAtom 5 ts t us
atom_spill h i = at h i (record { reads = spill; only = spill_only })

area_only : {a b : Addr} {us : Tokens} (u : Raw) (other : Tokens) → IsAtom (Address a ∷ Signed T.Sign.Colon ∷ Address b ∷ us) u other → Ends 5 other → (u ≡ G.Raw.Corners a b) × (other ≡ us)
area_only u other address e = absurd (omega arith)
area_only u other corners e = (refl, refl)

pub atom_area : {ts us : Tokens} {a b : Addr} {t : Raw} → ts ≡ Address a ∷ Signed T.Sign.Colon ∷ Address b ∷ us → t ≡ G.Raw.Corners a b → Only IsAtom 5 ts t us
atom_area h i = at h i (record { reads = corners; only = area_only })

colon_never : {a : Addr} {us : Tokens} → ((b : Addr) (vs : Tokens) → us ≡ Address b ∷ vs → ⊥) → (u : Raw) (other : Tokens) → IsAtom (Address a ∷ Signed T.Sign.Colon ∷ us) u other → Ends 5 other → ⊥
colon_never h u other address e = omega arith
colon_never h u other corners e = h _ _ refl

pub atom_colon : {ts us : Tokens} {a : Addr} → ts ≡ Address a ∷ Signed T.Sign.Colon ∷ us → ((b : Addr) (vs : Tokens) → us ≡ Address b ∷ vs → ⊥) → Never IsAtom 5 ts
atom_colon h free = never_at h (record { never = colon_never free })

address_only : {a : Addr} {us : Tokens} → ((vs : Tokens) → us ≡ Signed T.Sign.Hash ∷ vs → ⊥) → ((vs : Tokens) → us ≡ Signed T.Sign.Colon ∷ vs → ⊥) → (u : Raw) (other : Tokens) → IsAtom (Address a ∷ us) u other → Ends 5 other → (u ≡ G.Raw.At a) × (other ≡ us)
address_only no_hash no_colon u other address e = (refl, refl)
address_only no_hash no_colon u other spill e = absurd (no_hash _ refl)
address_only no_hash no_colon u other corners e = absurd (no_colon _ refl)

pub atom_address : {ts us : Tokens} {a : Addr} {t : Raw} → ts ≡ Address a ∷ us → t ≡ G.Raw.At a → ((vs : Tokens) → us ≡ Signed T.Sign.Hash ∷ vs → ⊥) → ((vs : Tokens) → us ≡ Signed T.Sign.Colon ∷ vs → ⊥) → Only IsAtom 5 ts t us
atom_address h i no_hash no_colon = at h i (record { reads = address; only = address_only no_hash no_colon })

parens_only : {t : Raw} {us vs : Tokens} → Only IsExpr 1 us t (Signed T.Sign.RightParen ∷ vs) → (u : Raw) (other : Tokens) → IsAtom (Signed T.Sign.LeftParen ∷ us) u other → Ends 5 other → (u ≡ t) × (other ≡ vs)
parens_only one u other (parens r) e = let p = one.only _ _ r (lit< tt) in (p.0, cc)

pub atom_parens : {ts us ws vs : Tokens} {t : Raw} → ts ≡ Signed T.Sign.LeftParen ∷ us → Only IsExpr 1 us t ws → ws ≡ Signed T.Sign.RightParen ∷ vs → Only IsAtom 5 ts t vs
atom_parens {us = us} {t = t} h one closing =
    let o = subst (λ z. Only IsExpr 1 us t z) closing one in
    at h refl (record { reads = parens o.reads; only = parens_only o })

open_never : {t : Raw} {us ws : Tokens} → Only IsExpr 1 us t ws → ((vs : Tokens) → ws ≡ Signed T.Sign.RightParen ∷ vs → ⊥) → (u : Raw) (other : Tokens) → IsAtom (Signed T.Sign.LeftParen ∷ us) u other → Ends 5 other → ⊥
open_never one free u other (parens r) e = let p = one.only _ _ r (lit< tt) in free _ (sym p.1)

pub atom_open : {ts us ws : Tokens} {t : Raw} → ts ≡ Signed T.Sign.LeftParen ∷ us → Only IsExpr 1 us t ws → ((vs : Tokens) → ws ≡ Signed T.Sign.RightParen ∷ vs → ⊥) → Never IsAtom 5 ts
atom_open h one free = never_at h (record { never = open_never one free })

parens_never : {us : Tokens} → Never IsExpr 1 us → (u : Raw) (other : Tokens) → IsAtom (Signed T.Sign.LeftParen ∷ us) u other → Ends 5 other → ⊥
parens_never n u other (parens r) e = n.never _ _ r (lit< tt)

pub atom_parens_none : {ts us : Tokens} → ts ≡ Signed T.Sign.LeftParen ∷ us → Never IsExpr 1 us → Never IsAtom 5 ts
atom_parens_none h n = never_at h (record { never = parens_never n })

text_only : {x : Bytes} {us : Tokens} (u : Raw) (other : Tokens) → IsAtom (Quoted x ∷ us) u other → Ends 5 other → (u ≡ G.Raw.Text x) × (other ≡ us)
text_only u other text e = (refl, refl)

pub atom_text : {ts us : Tokens} {x : Bytes} {t : Raw} → ts ≡ Quoted x ∷ us → t ≡ G.Raw.Text x → Only IsAtom 5 ts t us
atom_text h i = at h i (record { reads = text; only = text_only })

truth_only : {b : Bool} {us : Tokens} (u : Raw) (other : Tokens) → IsAtom (Truth b ∷ us) u other → Ends 5 other → (u ≡ G.Raw.Boolean b) × (other ≡ us)
truth_only u other truth e = (refl, refl)

pub atom_truth : {ts us : Tokens} {b : Bool} {t : Raw} → ts ≡ Truth b ∷ us → t ≡ G.Raw.Boolean b → Only IsAtom 5 ts t us
atom_truth h i = at h i (record { reads = truth; only = truth_only })

variable_only : {v : Bytes} {us : Tokens} (u : Raw) (other : Tokens) → IsAtom (Variable v ∷ us) u other → Ends 5 other → (u ≡ G.Raw.Var v) × (other ≡ us)
variable_only u other variable e = (refl, refl)

pub atom_variable : {ts us : Tokens} {v : Bytes} {t : Raw} → ts ≡ Variable v ∷ us → t ≡ G.Raw.Var v → Only IsAtom 5 ts t us
atom_variable h i = at h i (record { reads = variable; only = variable_only })

call_only : {w : Bytes} {us vs : Tokens} {all : Raws} → Only IsArguments 5 us all vs → (u : Raw) (other : Tokens) → IsAtom (Word w ∷ Signed T.Sign.LeftParen ∷ us) u other → Ends 5 other → (u ≡ G.applied w all) × (other ≡ vs)
call_only {w} one u other (apply r) e = let p = one.only _ _ r e in (ap (G.applied w) p.0, p.1)

pub atom_call : {ts us vs : Tokens} {w : Bytes} {all : Raws} {t : Raw} → ts ≡ Word w ∷ Signed T.Sign.LeftParen ∷ us → Only IsArguments 5 us all vs → t ≡ G.applied w all → Only IsAtom 5 ts t vs
atom_call h one i = at h i (record { reads = apply one.reads; only = call_only one })

call_never : {w : Bytes} {us : Tokens} → Never IsArguments 5 us → (u : Raw) (other : Tokens) → IsAtom (Word w ∷ Signed T.Sign.LeftParen ∷ us) u other → Ends 5 other → ⊥
call_never n u other (apply r) e = n.never _ _ r e

pub atom_call_none : {ts us : Tokens} {w : Bytes} → ts ≡ Word w ∷ Signed T.Sign.LeftParen ∷ us → Never IsArguments 5 us → Never IsAtom 5 ts
atom_call_none h n = never_at h (record { never = call_never n })

word_never : {w : Bytes} {us : Tokens} → ((vs : Tokens) → us ≡ Signed T.Sign.LeftParen ∷ vs → ⊥) → (u : Raw) (other : Tokens) → IsAtom (Word w ∷ us) u other → Ends 5 other → ⊥
word_never free u other (apply r) e = free _ refl

pub atom_word : {ts us : Tokens} {w : Bytes} → ts ≡ Word w ∷ us → ((vs : Tokens) → us ≡ Signed T.Sign.LeftParen ∷ vs → ⊥) → Never IsAtom 5 ts
atom_word h free = never_at h (record { never = word_never free })

-- what no atom begins with
abbrev pub IsNoStart : Tokens → Type 0
IsNoStart [] = Unit {0}
IsNoStart (Signed T.Sign.LeftParen ∷ ts) = ⊥
IsNoStart (Signed s ∷ ts) = Unit {0}
IsNoStart _ = ⊥

start_never : {ts : Tokens} → IsNoStart ts → (u : Raw) (other : Tokens) → IsAtom ts u other → Ends 5 other → ⊥
start_never h u other number e = h
start_never h u other _ e = h

pub atom_none : {ts : Tokens} → IsNoStart ts → Never IsAtom 5 ts
atom_none h = record { never = start_never h }

-- ---- arguments

-- no expr begins with a right parenthesis
abbrev pub Begins : Tokens → Type 0
Begins (Signed T.Sign.RightParen ∷ ts) = ⊥
Begins _ = Unit {0}

atom_begins : {ts us : Tokens} {t : Raw} → IsAtom ts t us → Begins ts
atom_begins number = tt
atom_begins _ = tt

unary_begins : {ts us : Tokens} {t : Raw} → IsUnary ts t us → Begins ts
unary_begins (neg c) = tt
unary_begins (atom c) = atom_begins c

mutual
  chain_begins : {l : Level} {ts us : Tokens} {t : Raw} → IsChain l ts t us → Begins ts
  chain_begins (chain p q) = operand_begins p

  operand_begins : {l : Level} {ts us : Tokens} {t : Raw} → IsOperand l ts t us → Begins ts
  operand_begins (sum c) = chain_begins c
  operand_begins (prod c) = chain_begins c
  operand_begins (unary c) = unary_begins c

pub expr_begins : {ts us : Tokens} {t : Raw} → IsExpr ts t us → Begins ts
expr_begins (alone c) = chain_begins c
expr_begins (compare c f d) = chain_begins c

empty_only : {us : Tokens} (all : Raws) (other : Tokens) → IsArguments (Signed T.Sign.RightParen ∷ us) all other → Ends 5 other → (all ≡ no_raw) × (other ≡ us)
empty_only all other no_argument e = (refl, refl)
empty_only all other (argument c m) e = absurd (expr_begins c)

pub arguments_empty : {ts us : Tokens} {all : Raws} → ts ≡ Signed T.Sign.RightParen ∷ us → all ≡ no_raw → Only IsArguments 5 ts all us
arguments_empty h i = at h i (record { reads = no_argument; only = empty_only })

pub more_ends : {us vs : Tokens} {all : Raws} → IsMore us all vs → Ends 1 us
more_ends close = lit< tt
more_ends (comma c m) = lit< tt

pub before_push : (front : List Raw) (t : Raw) (more : Raws) → before (front ++ t ∷ []) more ≡ before front (raw_and t more)
before_push [] t more = refl
before_push (p ∷ ps) t more = ap (λ z. raw_and p z) (before_push ps t more)

start_arguments : {ts us : Tokens} {t : Raw} → ((vs : Tokens) → ts ≡ Signed T.Sign.RightParen ∷ vs → ⊥) → Only IsExpr 1 ts t us → (all : Raws) (ws : Tokens) → IsArguments ts all ws → (more : Raws) × IsMore us more ws × (all ≡ raw_and t more)
start_arguments free one all ws no_argument = absurd (free _ refl)
start_arguments free one all ws (argument {xs = more} c m) =
    let p = one.only _ _ c (more_ends m) in
    (more, subst (λ z. IsMore z more ws) p.1 m, ap (λ z. raw_and z more) p.0)

pub arguments_start : {ts us : Tokens} {t : Raw} {front : List Raw} → ((vs : Tokens) → ts ≡ Signed T.Sign.RightParen ∷ vs → ⊥) → Only IsExpr 1 ts t us → front ≡ t ∷ [] → ArgumentsSoFar ts front us
arguments_start {ts} {us} {t} free one h =
    let s : ArgumentsSoFar ts (t ∷ []) us = record { reads = λ more ws m. argument one.reads m; only = start_arguments free one } in
    subst (λ z. ArgumentsSoFar ts z us) (sym h) s

arguments_never : {ts : Tokens} → ((vs : Tokens) → ts ≡ Signed T.Sign.RightParen ∷ vs → ⊥) → Never IsExpr 1 ts → (all : Raws) (ws : Tokens) → IsArguments ts all ws → Ends 5 ws → ⊥
arguments_never free n all ws no_argument e = free _ refl
arguments_never free n all ws (argument c m) e = n.never _ _ c (more_ends m)

pub arguments_none : {ts : Tokens} → ((vs : Tokens) → ts ≡ Signed T.Sign.RightParen ∷ vs → ⊥) → Never IsExpr 1 ts → Never IsArguments 5 ts
arguments_none free n = record { never = arguments_never free n }

closes : {us ws : Tokens} {more : Raws} → IsMore (Signed T.Sign.RightParen ∷ us) more ws → (more ≡ no_raw) × (ws ≡ us)
closes close = (refl, refl)

goes_on : {us ws : Tokens} {more : Raws} → IsMore (Signed T.Sign.Comma ∷ us) more ws → (t : Raw) × (vs : Tokens) × (others : Raws) × IsExpr us t vs × IsMore vs others ws × (more ≡ raw_and t others)
goes_on (comma {us = vs} {f = t} {xs = others} c m) = (t, vs, others, c, m, refl)

neither : {us ws : Tokens} {more : Raws} → ((vs : Tokens) → us ≡ Signed T.Sign.RightParen ∷ vs → ⊥) → ((vs : Tokens) → us ≡ Signed T.Sign.Comma ∷ vs → ⊥) → IsMore us more ws → ⊥
neither no_close no_comma close = no_close _ refl
neither no_close no_comma (comma c m) = no_comma _ refl

module _ {ts rest : Tokens} {front : List Raw} (so_far : ArgumentsSoFar ts front rest) where
  pub arguments_done : {us : Tokens} {all : Raws} → rest ≡ Signed T.Sign.RightParen ∷ us → all ≡ raws_of front → Only IsArguments 5 ts all us
  arguments_done {us} {all} h i =
      same_tree i (record {
        reads = so_far.reads no_raw us (subst (λ z. IsMore z no_raw us) (sym h) close);
        only = λ u other r e.
            let q = so_far.only u other r in
            let c = closes (subst (λ z. IsMore z q.0 other) h q.1) in
            (q.2 ∙ ap (before front) c.0, c.1);
      })

  pub arguments_open : ((vs : Tokens) → rest ≡ Signed T.Sign.RightParen ∷ vs → ⊥) → ((vs : Tokens) → rest ≡ Signed T.Sign.Comma ∷ vs → ⊥) → Never IsArguments 5 ts
  arguments_open no_close no_comma = record { never = λ u other r e. neither no_close no_comma (so_far.only u other r).1 }

  module _ {us : Tokens} (next_is : rest ≡ Signed T.Sign.Comma ∷ us) where
    behind_comma : (all : Raws) (ws : Tokens) → IsArguments ts all ws → (t : Raw) × (vs : Tokens) × (others : Raws) × IsExpr us t vs × IsMore vs others ws × (all ≡ before front (raw_and t others))
    behind_comma all ws r =
        let q = so_far.only all ws r in
        let g = goes_on (subst (λ z. IsMore z q.0 ws) next_is q.1) in
        (g.0, g.1, g.2, g.3, g.4, q.2 ∙ ap (before front) g.5)

    pub arguments_cut : Never IsExpr 1 us → Never IsArguments 5 ts
    arguments_cut n = record { never = λ u other r e. let g = behind_comma u other r in n.never _ _ g.3 (more_ends g.4) }

    module _ {t : Raw} {vs : Tokens} (one : Only IsExpr 1 us t vs) where
      step_arguments : (all : Raws) (ws : Tokens) → IsArguments ts all ws → (more : Raws) × IsMore vs more ws × (all ≡ before (front ++ t ∷ []) more)
      step_arguments all ws r =
          let g = behind_comma all ws r in
          let p = one.only _ _ g.3 (more_ends g.4) in
          (g.2, subst (λ z. IsMore z g.2 ws) p.1 g.4, rw (before_push front t g.2) (g.5 ∙ ap (λ z. before front (raw_and z g.2)) p.0))

      pub arguments_step : {longer : List Raw} → longer ≡ front ++ t ∷ [] → ArgumentsSoFar ts longer vs
      arguments_step h =
          let s : ArgumentsSoFar ts (front ++ t ∷ []) vs = record {
            reads = λ more ws m. rw (before_push front t more) (so_far.reads (raw_and t more) ws (subst (λ z. IsMore z (raw_and t more) ws) (sym next_is) (comma one.reads m)));
            only = step_arguments;
          } in
          subst (λ z. ArgumentsSoFar ts z vs) (sym h) s
