-- The canonical tokens of a form that was read are no longer than those it was read from, and no deeper.
--
-- Both lists are gone through side by side. The tokens read have `n` parentheses open and `m` times `-` in a row before them, the canonical ones `o` and `k`.
-- Parentheses that the canonical tokens leave out are spared: each lets them put a pair later, where `-` stands a ninth time in a row, and `d` pairs are left.
use Rattle.std.proofs.Common.{◌&&◌, ◌≡◌, ℕ, ◌+◌, ◌-◌, ◌*◌, ◌<◌, ◌≤◌, Bool, true, false, ◌||◌, [], ◌∷◌, ◌++◌, append_assoc, ap, refl, sym, subst, ◌∙◌, arith}
use Rattle.std.specs.Prelude.{Some, nat_lt, nat_le}
use Rattle.std.proofs.lemmas.Bool.{or_parts, or_from, le-ltb, leb-true, leb-false, lt-leb}
use Rattle.gl_calculus.specs.Grid.Limits.{max_minus, max_open}
use Rattle.gl_calculus.specs.Formulas.Formula.{Op, Level, Formula}
use Rattle.gl_calculus.specs.Formulas.Formula as F
use Rattle.gl_language.specs.Texts.Text.{level_place, place_of, is_neg, needs_parens, one_more, minus_of}
use Rattle.gl_language.specs.Reading.Token.{Token, Sign, Signed}
use Rattle.gl_language.specs.Reading.Token as T
use Rattle.gl_language.specs.Texts.Canonical.{op_sign, tokens_in_place, tokens_behind, operands_tokens, arguments_tokens, more_tokens}
use Rattle.gl_language.specs.Reading.Grammar.{Raw, Raws, RawOperands, Tokens, comparison, chained, applied, IsExpr, alone, compare, IsChain, chain, IsLinks, no_link, link, IsOperand, sum, prod, unary, IsUnary, neg, atom, IsAtom, number, text, truth, address, spill, corners, variable, apply, parens, IsArguments, no_argument, argument, IsMore, close, comma, is_deep_from, tree, operand_trees, trees}
use Rattle.gl_language.specs.Reading.Grammar as G
use Rattle.laws_language.proofs.Grammar.Named.{IsNamed, AreNamed, AllNamed, applied_stands}
use Rattle.laws_language.proofs.Grammar.Made.{same_some, comparison_sign, operator_sign}
use Rattle.laws_language.proofs.Grammar.Back.{placed}
use Rattle.laws_language.proofs.Grammar.Sizes.{size, size-append}

abbrev pub IsShallow : ℕ → ℕ → Tokens → Type 0
IsShallow n m ts = is_deep_from n m ts ≡ false

-- where the two lists stand
pub record SideBySide (n m o k d : ℕ) : Type 0 where
  pub opened : o + d ≤ n
  pub most : n ≤ max_open
  pub row : k ≤ m + max_minus * d
  pub short : k ≤ max_minus

-- a front of the tokens ts, up to us, and what is canonical for it
pub record Kept (n o k d : ℕ) (canonical ts us : Tokens) : Type 0 where
  pub behind : IsShallow n 0 us
  pub shallow : (rest : Tokens) → IsShallow o 0 rest → IsShallow o k (canonical ++ rest)
  pub no_longer : size canonical + size us ≤ size ts + 2 * d

-- the same of arguments, inside the parentheses of the call
record KeptArguments (n o : ℕ) (canonical ts us : Tokens) : Type 0 where
  behind : IsShallow n 0 us
  shallow : (rest : Tokens) → IsShallow o 0 rest → IsShallow (o + 1) 0 (canonical ++ Signed T.Sign.RightParen ∷ rest)
  no_longer : size canonical + 1 + size us ≤ size ts

-- ---- single tokens

op_shallow : (op : Op) (n : ℕ) (ts : Tokens) → is_deep_from n 0 (Signed (op_sign op) ∷ ts) ≡ is_deep_from n (minus_of op) ts
op_shallow F.Op.Eq n ts = refl
op_shallow F.Op.Ne n ts = refl
op_shallow F.Op.Lt n ts = refl
op_shallow F.Op.Le n ts = refl
op_shallow F.Op.Gt n ts = refl
op_shallow F.Op.Ge n ts = refl
op_shallow F.Op.Join n ts = refl
op_shallow F.Op.Add n ts = refl
op_shallow F.Op.Sub n ts = refl
op_shallow F.Op.Mul n ts = refl
op_shallow F.Op.Div n ts = refl

minus_small : (op : Op) → minus_of op ≤ 1
minus_small F.Op.Sub = omega arith
minus_small op = omega arith

comparison_minus : (s : Sign) (op : Op) → comparison s ≡ Some op → minus_of op ≡ 0
comparison_minus (T.Sign.Operator F.Op.Eq) op h = ap minus_of (sym (same_some h))
comparison_minus (T.Sign.Operator F.Op.Ne) op h = ap minus_of (sym (same_some h))
comparison_minus (T.Sign.Operator F.Op.Lt) op h = ap minus_of (sym (same_some h))
comparison_minus (T.Sign.Operator F.Op.Le) op h = ap minus_of (sym (same_some h))
comparison_minus (T.Sign.Operator F.Op.Gt) op h = ap minus_of (sym (same_some h))
comparison_minus (T.Sign.Operator F.Op.Ge) op h = ap minus_of (sym (same_some h))
comparison_minus s op h = absurd (cc h)

-- a left parenthesis, and a right one
opens : (n m : ℕ) (ts : Tokens) → IsShallow n m (Signed T.Sign.LeftParen ∷ ts) → (n < max_open) × IsShallow (n + 1) 0 ts
opens n m ts h = let p = or_parts (nat_le max_open n) (is_deep_from (n + 1) 0 ts) h in (leb-false max_open n p.0, p.1)

opening : (n m : ℕ) (ts : Tokens) → n < max_open → IsShallow (n + 1) 0 ts → IsShallow n m (Signed T.Sign.LeftParen ∷ ts)
opening n m ts l h = or_from (nat_le max_open n) (is_deep_from (n + 1) 0 ts) (lt-leb max_open n l) h

closes : (n m : ℕ) (ts : Tokens) → IsShallow (n + 1) m (Signed T.Sign.RightParen ∷ ts) → IsShallow n 0 ts
closes n m ts h = let e : n + 1 - 1 ≡ n = omega arith in subst (λ z. IsShallow z 0 ts) e h

closing : (n m : ℕ) (ts : Tokens) → IsShallow n 0 ts → IsShallow (n + 1) m (Signed T.Sign.RightParen ∷ ts)
closing n m ts h = let e : n ≡ n + 1 - 1 = omega arith in subst (λ z. IsShallow z 0 ts) e h

-- ---- places

no_parens : (k q : ℕ) (f : Formula) → needs_parens k q f ≡ false → placed q k f ≡ tokens_behind k f
no_parens k q f h = ap (λ b. tokens_in_place b (λ m. tokens_behind m f) k) h

with_parens : (k q : ℕ) (f : Formula) → needs_parens k q f ≡ true → placed q k f ≡ Signed T.Sign.LeftParen ∷ (tokens_behind 0 f ++ Signed T.Sign.RightParen ∷ [])
with_parens k q f h = ap (λ b. tokens_in_place b (λ m. tokens_behind m f) k) h

wide : (k q : ℕ) (f : Formula) → q ≤ place_of f → is_neg f ≡ false → placed q k f ≡ tokens_behind k f
wide k q f l n = no_parens k q f (or_from (nat_lt (place_of f) q) (is_neg f && nat_le max_minus k) (le-ltb (place_of f) q l) (ap (λ b. b && nat_le max_minus k) n))

widest : (k q : ℕ) (f : Formula) → needs_parens k q f ≡ false → placed 0 k f ≡ tokens_behind k f
widest k q f h =
    let p = or_parts (nat_lt (place_of f) q) (is_neg f && nat_le max_minus k) h in
    no_parens k 0 f (or_from (nat_lt (place_of f) 0) (is_neg f && nat_le max_minus k) (le-ltb (place_of f) 0 (omega arith)) p.1)

few : (b : Bool) → (b && nat_le max_minus 0) ≡ false
few true = refl
few false = refl

pub at_start : (f : Formula) → placed 0 0 f ≡ tokens_behind 0 f
at_start f = no_parens 0 0 f (or_from (nat_lt (place_of f) 0) (is_neg f && nat_le max_minus 0) (le-ltb (place_of f) 0 (omega arith)) (few (is_neg f)))

moved : {n o k d : ℕ} {xs ys ts us : Tokens} → xs ≡ ys → Kept n o k d ys ts us → Kept n o k d xs ts us
moved {n} {o} {k} {d} {ts = ts} {us = us} e r = subst (λ z. Kept n o k d z ts us) (sym e) r

-- ---- parentheses

-- a form in parentheses, where both lists have them
both_parens : (n o k d : ℕ) (xs ts us : Tokens) → o < max_open → Kept (n + 1) (o + 1) 0 d xs ts (Signed T.Sign.RightParen ∷ us) → Kept n o k d (Signed T.Sign.LeftParen ∷ (xs ++ Signed T.Sign.RightParen ∷ [])) (Signed T.Sign.LeftParen ∷ ts) us
both_parens n o k d xs ts us l r =
    let close = Signed T.Sign.RightParen ∷ [] in
    record {
      behind = closes n 0 us r.behind;
      shallow = λ rest h.
          opening o k ((xs ++ close) ++ rest) l (subst (λ z. IsShallow (o + 1) 0 z) (sym (append_assoc xs close rest)) (r.shallow (Signed T.Sign.RightParen ∷ rest) (closing o 0 rest h)));
      no_longer = omega (arith, size-append xs close, r.no_longer);
    }

-- the canonical tokens leave them out
spared : (n o k d : ℕ) (xs ts us : Tokens) → Kept (n + 1) o k (d + 1) xs ts (Signed T.Sign.RightParen ∷ us) → Kept n o k d xs (Signed T.Sign.LeftParen ∷ ts) us
spared n o k d xs ts us r = record { behind = closes n 0 us r.behind; shallow = r.shallow; no_longer = omega (arith, r.no_longer) }

parens_by : (f : Formula) (n m o k d q : ℕ) (ts us : Tokens) → SideBySide n m o k d → n < max_open →
    ((p j e : ℕ) → SideBySide (n + 1) 0 p j e → Kept (n + 1) p j e (placed 0 j f) ts (Signed T.Sign.RightParen ∷ us)) →
    (b : Bool) → needs_parens k q f ≡ b → Kept n o k d (placed q k f) (Signed T.Sign.LeftParen ∷ ts) us
parens_by f n m o k d q ts us s l inside true h =
    let r = inside (o + 1) 0 d (record { opened = omega (arith, s.opened); most = omega (arith, l); row = omega arith; short = omega arith }) in
    moved (with_parens k q f h) (both_parens n o k d (tokens_behind 0 f) ts us (omega (arith, s.opened, l)) (moved (sym (at_start f)) r))
parens_by f n m o k d q ts us s l inside false h =
    let r = inside o k (d + 1) (record { opened = omega (arith, s.opened); most = omega (arith, l); row = omega (arith, s.short); short = s.short }) in
    moved (no_parens k q f h ∙ sym (widest k q f h)) (spared n o k d (placed 0 k f) ts us r)

-- ---- rows of `-`

fewer : (k : ℕ) → k < max_minus → one_more k ≡ k + 1
fewer k h = omega (arith, h)

minus_by : (f : Formula) (n m o k d q : ℕ) (ts us : Tokens) → q ≤ 4 → SideBySide n m o k d → m < max_minus →
    ((p j e : ℕ) → SideBySide n (m + 1) p j e → Kept n p j e (placed 4 j f) ts us) →
    (b : Bool) → nat_le max_minus k ≡ b → Kept n o k d (placed q k (F.Formula.Neg f)) (Signed (T.Sign.Operator F.Op.Sub) ∷ ts) us
minus_by f n m o k d q ts us l s few inside true h =
    let e : max_minus ≤ k = leb-true max_minus k h in
    let r = inside (o + 1) (one_more 0) (d - 1) (record { opened = omega (arith, s.opened, s.row, e, few); most = s.most; row = omega arith; short = omega arith }) in
    let xs = placed 4 (one_more 0) f in
    let close = Signed T.Sign.RightParen ∷ [] in
    let p : needs_parens k q (F.Formula.Neg f) ≡ true = ap (λ b. nat_lt 4 q || b) h ∙ ap (λ b. b || true) (le-ltb 4 q l) in
    moved (with_parens k q (F.Formula.Neg f) p) (record {
      behind = r.behind;
      shallow = λ rest i.
          opening o k (Signed (T.Sign.Operator F.Op.Sub) ∷ ((xs ++ close) ++ rest)) (omega (arith, s.opened, s.most, s.row, e, few)) (subst (λ z. IsShallow (o + 1) 1 z) (sym (append_assoc xs close rest)) (r.shallow (Signed T.Sign.RightParen ∷ rest) (closing o 0 rest i)));
      no_longer = omega (arith, size-append xs close, r.no_longer, s.row, e, few);
    })
minus_by f n m o k d q ts us l s few inside false h =
    let e : k < max_minus = leb-false max_minus k h in
    let i : one_more k ≡ k + 1 = fewer k e in
    let r = inside o (one_more k) d (record { opened = s.opened; most = s.most; row = omega (arith, s.row, i); short = omega (arith, i, e) }) in
    let xs = placed 4 (one_more k) f in
    let p : needs_parens k q (F.Formula.Neg f) ≡ false = or_from (nat_lt 4 q) (nat_le max_minus k) (le-ltb 4 q l) h in
    moved (no_parens k q (F.Formula.Neg f) p) (record {
      behind = r.behind;
      shallow = λ rest j. or_from (nat_le max_minus k) (is_deep_from o (k + 1) (xs ++ rest)) h (subst (λ z. IsShallow o z (xs ++ rest)) i (r.shallow rest j));
      no_longer = omega (arith, r.no_longer);
    })

-- ---- chains

chained_named : (level : Level) (f : Raw) (os : RawOperands) → IsNamed (chained level f os) → IsNamed f × AreNamed os
chained_named level f G.RawOperands.no_operand n = (n, tt)
chained_named level f (G.RawOperands.operand_and op g os) n = n

chain_by : (level : Level) (f : Raw) (os : RawOperands) (n o k d q : ℕ) (ts us vs : Tokens) → q ≤ level_place level →
    ((p : ℕ) → p ≤ level_place level + 1 → Kept n o k d (placed p k (tree f)) ts us) →
    Kept n o 0 0 (operands_tokens (level_place level + 1) (operand_trees os)) us vs → Kept n o k d (placed q k (tree (chained level f os))) ts vs
chain_by level f G.RawOperands.no_operand n o k d q ts us vs l first others =
    let r = first q (omega (arith, l)) in
    record { behind = others.behind; shallow = r.shallow; no_longer = omega (arith, r.no_longer, others.no_longer) }
chain_by level f (G.RawOperands.operand_and op g os) n o k d q ts us vs l first others =
    let all = operand_trees (G.RawOperands.operand_and op g os) in
    let r = first (level_place level + 1) (omega arith) in
    let xs = placed (level_place level + 1) k (tree f) in
    let ys = operands_tokens (level_place level + 1) all in
    moved (wide k q (F.Formula.Chain level (tree f) all) l refl) (record {
      behind = others.behind;
      shallow = λ rest h. subst (λ z. IsShallow o k z) (sym (append_assoc xs ys rest)) (r.shallow (ys ++ rest) (others.shallow rest h));
      no_longer = omega (arith, size-append xs ys, r.no_longer, others.no_longer);
    })

-- ---- forms

-- inside the parentheses of a call
in_call : (n o : ℕ) → o ≤ n → n < max_open → SideBySide (n + 1) 0 (o + 1) 0 0
in_call n o i j = record { opened = omega (arith, i); most = omega (arith, j); row = omega arith; short = omega arith }

mutual
  pub expr_kept : {ts us : Tokens} {f : Raw} → IsExpr ts f us → IsNamed f → (n m o k d : ℕ) → SideBySide n m o k d → IsShallow n m ts → Kept n o k d (placed 0 k (tree f)) ts us
  expr_kept (alone c) w n m o k d s h = chain_kept c w n m o k d 0 (omega arith) s h
  expr_kept {ts = ts} {us = vs} (compare {us = us} {f = f} {g = g} {s = t} {op = op} c e b) w n m o k d s h =
      let r = chain_kept c w.0 n m o k d 1 (omega arith) s h in
      let i : t ≡ op_sign op = comparison_sign t op e in
      let z = comparison_minus t op e in
      let at : IsShallow n 0 us = subst (λ j. IsShallow n j us) z (sym (op_shallow op n us) ∙ ap (λ x. is_deep_from n 0 (Signed x ∷ us)) (sym i) ∙ r.behind) in
      let q = chain_kept b w.1 n 0 o 0 0 1 (omega arith) (record { opened = omega (arith, s.opened); most = s.most; row = omega arith; short = omega arith }) at in
      let xs = placed 1 k (tree f) in
      let ys = placed 1 0 (tree g) in
      let x : Token = Signed (op_sign op) in
      record {
        behind = q.behind;
        shallow = λ rest j.
            let v : IsShallow o 0 (x ∷ (ys ++ rest)) = op_shallow op o (ys ++ rest) ∙ subst (λ y. IsShallow o y (ys ++ rest)) (sym z) (q.shallow rest j) in
            subst (λ y. IsShallow o k y) (sym (append_assoc xs (x ∷ ys) rest)) (r.shallow (x ∷ (ys ++ rest)) v);
        no_longer = omega (arith, size-append xs (x ∷ ys), r.no_longer, q.no_longer, ap (λ y. size (Signed y ∷ us)) i);
      }

  chain_kept : {level : Level} {ts us : Tokens} {f : Raw} → IsChain level ts f us → IsNamed f → (n m o k d q : ℕ) → q ≤ level_place level → SideBySide n m o k d → IsShallow n m ts → Kept n o k d (placed q k (tree f)) ts us
  chain_kept {level} {ts = ts} {us = vs} (chain {us = us} {f = f} {rest = os} b l) w n m o k d q small s h =
      let v = chained_named level f os w in
      let r = operand_kept b v.0 n m o k d (level_place level + 1) (omega arith) s h in
      chain_by level f os n o k d q ts us vs small (λ p i. operand_kept b v.0 n m o k d p i s h) (links_kept l v.1 n o (omega (arith, s.opened)) s.most r.behind)

  links_kept : {level : Level} {ts us : Tokens} {os : RawOperands} → IsLinks level ts os us → AreNamed os → (n o : ℕ) → o ≤ n → n ≤ max_open → IsShallow n 0 ts → Kept n o 0 0 (operands_tokens (level_place level + 1) (operand_trees os)) ts us
  links_kept no_link w n o i j h = record { behind = h; shallow = λ rest r. r; no_longer = omega arith }
  links_kept {level} {us = vs} (link {ts = ts} {us = us} {s = t} {op = op} {f = f} {rest = os} e b l) w n o i j h =
      let a : t ≡ op_sign op = operator_sign level t op e in
      let at : IsShallow n (minus_of op) ts = sym (op_shallow op n ts) ∙ ap (λ x. is_deep_from n 0 (Signed x ∷ ts)) (sym a) ∙ h in
      let r = operand_kept b w.0 n (minus_of op) o (minus_of op) 0 (level_place level + 1) (omega arith) (record { opened = omega (arith, i); most = j; row = omega arith; short = omega (arith, minus_small op) }) at in
      let q = links_kept l w.1 n o i j r.behind in
      let xs = placed (level_place level + 1) (minus_of op) (tree f) in
      let ys = operands_tokens (level_place level + 1) (operand_trees os) in
      record {
        behind = q.behind;
        shallow = λ rest z. op_shallow op o ((xs ++ ys) ++ rest) ∙ subst (λ y. IsShallow o (minus_of op) y) (sym (append_assoc xs ys rest)) (r.shallow (ys ++ rest) (q.shallow rest z));
        no_longer = omega (arith, size-append xs ys, r.no_longer, q.no_longer, ap (λ y. size (Signed y ∷ ts)) a);
      }

  operand_kept : {level : Level} {ts us : Tokens} {f : Raw} → IsOperand level ts f us → IsNamed f → (n m o k d q : ℕ) → q ≤ level_place level + 1 → SideBySide n m o k d → IsShallow n m ts → Kept n o k d (placed q k (tree f)) ts us
  operand_kept (sum c) w n m o k d q small s h = chain_kept c w n m o k d q small s h
  operand_kept (prod c) w n m o k d q small s h = chain_kept c w n m o k d q small s h
  operand_kept (unary u) w n m o k d q small s h = unary_kept u w n m o k d q small s h

  unary_kept : {ts us : Tokens} {f : Raw} → IsUnary ts f us → IsNamed f → (n m o k d q : ℕ) → q ≤ 4 → SideBySide n m o k d → IsShallow n m ts → Kept n o k d (placed q k (tree f)) ts us
  unary_kept {us = us} (neg {ts = ts} {f = f} u) w n m o k d q small s h =
      let p = or_parts (nat_le max_minus m) (is_deep_from n (m + 1) ts) h in
      minus_by (tree f) n m o k d q ts us small s (leb-false max_minus m p.0) (λ a j e z. unary_kept u w n (m + 1) a j e 4 (omega arith) z p.1) (nat_le max_minus k) refl
  unary_kept (atom a) w n m o k d q small s h = atom_kept a w n m o k d q (omega (arith, small)) s h

  atom_kept : {ts us : Tokens} {f : Raw} → IsAtom ts f us → IsNamed f → (n m o k d q : ℕ) → q ≤ 5 → SideBySide n m o k d → IsShallow n m ts → Kept n o k d (placed q k (tree f)) ts us
  atom_kept {f = f} number w n m o k d q small s h = moved (wide k q (tree f) small refl) (record { behind = h; shallow = λ rest r. r; no_longer = omega arith })
  atom_kept {f = f} text w n m o k d q small s h = moved (wide k q (tree f) small refl) (record { behind = h; shallow = λ rest r. r; no_longer = omega arith })
  atom_kept {f = f} truth w n m o k d q small s h = moved (wide k q (tree f) small refl) (record { behind = h; shallow = λ rest r. r; no_longer = omega arith })
  atom_kept {f = f} address w n m o k d q small s h = moved (wide k q (tree f) small refl) (record { behind = h; shallow = λ rest r. r; no_longer = omega arith })
  atom_kept {f = f} spill w n m o k d q small s h = moved (wide k q (tree f) small refl) (record { behind = h; shallow = λ rest r. r; no_longer = omega arith })
  atom_kept {f = f} corners w n m o k d q small s h = moved (wide k q (tree f) small refl) (record { behind = h; shallow = λ rest r. r; no_longer = omega arith })
  atom_kept {f = f} variable w n m o k d q small s h = moved (wide k q (tree f) small refl) (record { behind = h; shallow = λ rest r. r; no_longer = omega arith })
  atom_kept {us = us} (apply {word = word} {ts = ts} {xs = xs} a) w n m o k d q small s h =
      let p = opens n 0 ts h in
      let t = applied_stands word xs w in
      let r = arguments_kept a t.1 n o (omega (arith, s.opened)) (omega (arith, p.0)) p.1 in
      let ys = arguments_tokens (trees xs) in
      let close = Signed T.Sign.RightParen ∷ [] in
      moved (wide k q (tree (applied word xs)) (omega (arith, small, t.0.at_place)) t.0.no_neg ∙ t.0.tokens k) (record {
        behind = r.behind;
        shallow = λ rest i. opening o 0 ((ys ++ close) ++ rest) (omega (arith, s.opened, p.0)) (subst (λ z. IsShallow (o + 1) 0 z) (sym (append_assoc ys close rest)) (r.shallow rest i));
        no_longer = omega (arith, size-append ys close, r.no_longer);
      })
  atom_kept {us = us} (parens {ts = ts} {f = f} e) w n m o k d q small s h =
      let p = opens n m ts h in
      parens_by (tree f) n m o k d q ts us s p.0 (λ a j c z. expr_kept e w (n + 1) 0 a j c z p.1) (needs_parens k q (tree f)) refl

  arguments_kept : {ts us : Tokens} {xs : Raws} → IsArguments ts xs us → AllNamed xs → (n o : ℕ) → o ≤ n → n < max_open → IsShallow (n + 1) 0 ts → KeptArguments n o (arguments_tokens (trees xs)) ts us
  arguments_kept {us = us} no_argument w n o i j h = record { behind = closes n 0 us h; shallow = λ rest r. closing o 0 rest r; no_longer = omega arith }
  arguments_kept (argument {f = f} {xs = fs} e a) w n o i j h =
      let r = moved (sym (at_start (tree f))) (expr_kept e w.0 (n + 1) 0 (o + 1) 0 0 (in_call n o i j) h) in
      let q = more_kept a w.1 n o i j r.behind in
      let xs = tokens_behind 0 (tree f) in
      let ys = more_tokens (trees fs) in
      record {
        behind = q.behind;
        shallow = λ rest z. subst (λ y. IsShallow (o + 1) 0 y) (sym (append_assoc xs ys (Signed T.Sign.RightParen ∷ rest))) (r.shallow (ys ++ Signed T.Sign.RightParen ∷ rest) (q.shallow rest z));
        no_longer = omega (arith, size-append xs ys, r.no_longer, q.no_longer);
      }

  more_kept : {ts us : Tokens} {xs : Raws} → IsMore ts xs us → AllNamed xs → (n o : ℕ) → o ≤ n → n < max_open → IsShallow (n + 1) 0 ts → KeptArguments n o (more_tokens (trees xs)) ts us
  more_kept {us = us} close w n o i j h = record { behind = closes n 0 us h; shallow = λ rest r. closing o 0 rest r; no_longer = omega arith }
  more_kept (comma {f = f} {xs = fs} e a) w n o i j h =
      let r = moved (sym (at_start (tree f))) (expr_kept e w.0 (n + 1) 0 (o + 1) 0 0 (in_call n o i j) h) in
      let q = more_kept a w.1 n o i j r.behind in
      let xs = tokens_behind 0 (tree f) in
      let ys = more_tokens (trees fs) in
      record {
        behind = q.behind;
        shallow = λ rest z. subst (λ y. IsShallow (o + 1) 0 y) (sym (append_assoc xs ys (Signed T.Sign.RightParen ∷ rest))) (r.shallow (ys ++ Signed T.Sign.RightParen ∷ rest) (q.shallow rest z));
        no_longer = omega (arith, size-append xs ys, r.no_longer, q.no_longer);
      }
