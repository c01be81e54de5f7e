-- Where a form ends.
use Rattle.std.proofs.Common.{◌≡◌, ℕ, ◌<◌, ◌≤◌, ◌∷◌, ap, refl, ◌∙◌, arith}
use Rattle.std.specs.Prelude.{Option, Some, None}
use Rattle.gl_calculus.specs.Formulas.Formula.{Level, Op}
use Rattle.gl_calculus.specs.Formulas.Formula as F
use Rattle.gl_language.specs.Reading.Token.{Sign, Signed}
use Rattle.gl_language.specs.Reading.Token as T
use Rattle.gl_language.specs.Reading.Grammar.{Tokens, RawOperands, comparison, operator, IsLinks, no_link, link}
use Rattle.gl_parse.specs.Reading.{binds, Ends, chain_end, operand_end, Front, front_by, after_sign}

pub later : (j k : ℕ) (ts : Tokens) → j ≤ k → Ends j ts → Ends k ts
later j k (Signed s ∷ ts) le e = omega arith
later j k _ le e = tt

pub levels : (l : Level) → chain_end l ≤ operand_end l
levels F.Level.Cat = omega arith
levels F.Level.Sum = omega arith
levels F.Level.Prod = omega arith

pub compares : (s : Sign) (o : Op) → comparison s ≡ Some o → binds s ≡ 1
compares (T.Sign.Operator F.Op.Eq) o h = omega arith
compares (T.Sign.Operator F.Op.Ne) o h = omega arith
compares (T.Sign.Operator F.Op.Lt) o h = omega arith
compares (T.Sign.Operator F.Op.Le) o h = omega arith
compares (T.Sign.Operator F.Op.Gt) o h = omega arith
compares (T.Sign.Operator F.Op.Ge) o h = omega arith
compares _ o h = cc

pub operates : (l : Level) (s : Sign) (o : Op) → operator l s ≡ Some o → binds s ≡ chain_end l
operates F.Level.Cat (T.Sign.Operator F.Op.Join) o h = omega arith
operates F.Level.Sum (T.Sign.Operator F.Op.Add) o h = omega arith
operates F.Level.Sum (T.Sign.Operator F.Op.Sub) o h = omega arith
operates F.Level.Prod (T.Sign.Operator F.Op.Mul) o h = omega arith
operates F.Level.Prod (T.Sign.Operator F.Op.Div) o h = omega arith
operates _ _ o h = cc

pub looser : (l : Level) → chain_end l < operand_end l
looser F.Level.Cat = omega arith
looser F.Level.Sum = omega arith
looser F.Level.Prod = omega arith

-- an operand ends where the operators behind it begin
pub links_end : {l : Level} {us ws : Tokens} {more : RawOperands} → IsLinks l us more ws → Ends (chain_end l) ws → Ends (operand_end l) us
links_end {l} {us} {ws} no_link e = later (chain_end l) (operand_end l) us (levels l) e
links_end {l} (link {s = s} {op = o} f p q) e = omega (arith, operates l s o f, looser l)

pub at_sign : (f : Sign → Option Op) (s : Sign) (o : Op) (us : Tokens) → f s ≡ Some o → after_sign f (Signed s ∷ us) ≡ Front.Behind o us
at_sign f s o us h = ap (λ x. front_by x us) h

front_behind : (us vs : Tokens) (o : Op) (x : Option Op) → front_by x us ≡ Front.Behind o vs → (x ≡ Some o) × (us ≡ vs)
front_behind us vs o None h = (cc, cc)
front_behind us vs o (Some p) h = (cc, cc)

pub has_sign : (f : Sign → Option Op) (us vs : Tokens) (o : Op) → after_sign f us ≡ Front.Behind o vs → (s : Sign) × (us ≡ Signed s ∷ vs) × (f s ≡ Some o)
has_sign f (Signed s ∷ us) vs o h =
    let p = front_behind us vs o (f s) h in
    (s, ap (λ z. Signed s ∷ z) p.1, p.0)
has_sign f _ vs o h = cc

pub no_sign : (f : Sign → Option Op) (ts : Tokens) → ((s : Sign) (us : Tokens) → ts ≡ Signed s ∷ us → ⊥) → after_sign f ts ≡ Front.Other
no_sign f (Signed s ∷ us) h = absurd (h s us refl)
no_sign f _ h = refl

pub this_sign : (f : Sign → Option Op) (s : Sign) (ts us : Tokens) → ts ≡ Signed s ∷ us → after_sign f ts ≡ front_by (f s) us
this_sign f s ts us h = ap (after_sign f) h

pub this_behind : (f : Sign → Option Op) (s : Sign) (o : Op) (ts us : Tokens) → ts ≡ Signed s ∷ us → f s ≡ Some o → after_sign f ts ≡ Front.Behind o us
this_behind f s o ts us h i = ap (after_sign f) h ∙ at_sign f s o us i

pub this_other : (f : Sign → Option Op) (s : Sign) (ts us : Tokens) → ts ≡ Signed s ∷ us → f s ≡ None → after_sign f ts ≡ Front.Other
this_other f s ts us h i = ap (after_sign f) h ∙ ap (λ x. front_by x us) i
