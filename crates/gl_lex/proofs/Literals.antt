-- A whole text as one literal.
use Rattle.std.proofs.Common.{◌≡◌, ◌≢◌, ℕ, true, ◌==◌, [], ◌∷◌, take, drop, length, get_or, false, ap, sym, subst, ◌∙◌, arith}
use Rattle.std.proofs.Math.Seq.{take-length}
use Rattle.std.proofs.lemmas.List.{append-nil, take-append-drop, length-drop}
use Rattle.std.specs.Rc.{rc_str_bytes}
use Rattle.std.specs.declared.alloc.Global.{Global}
use Rattle.std.specs.declared.rc.RcStr.{RcStr}
use Rattle.gl_language.specs.Texts.Text.{Bytes}
use Rattle.gl_language.specs.Reading.Token as T
use Rattle.gl_language.specs.Reading.Token.{Takes, Spells}
use Rattle.gl_lex.specs.declared.Kind.TheVariants as k
use Rattle.gl_lex.specs.Front.{NoToken, IsFront}
use Rattle.gl_lex.proofs.Starts.{spells_begins}
use Rattle.gl_lex.proofs.Once.{one_token}

-- a literal that is the whole text is the token in front
pub whole_takes : (text t : Bytes) → Spells (T.Quoted t) text → Takes text (T.Quoted t) []
whole_takes text t s = (text, sym (append-nil text), s, tt)

abbrev NoLiteral : Bytes → Type 0
NoLiteral text = (t : Bytes) → Spells (T.Quoted t) text → ⊥

pub whole_is : (text : Bytes) (r : RcStr Global) (n : ℕ) → IsFront text (k.Text r) n → n ≡ length text → Spells (T.Quoted (rc_str_bytes r)) text
whole_is text r n f e = subst (Spells (T.Quoted (rc_str_bytes r))) (ap (λ m. take m text) e ∙ take-length text) f.spells

pub whole_is_not : (text : Bytes) (r : RcStr Global) (n : ℕ) → IsFront text (k.Text r) n → n ≢ length text → NoLiteral text
whole_is_not text r n f e t s =
    let takes : Takes text (T.Quoted (rc_str_bytes r)) (drop n text) = (take n text, sym (take-append-drop n text), f.spells, tt) in
    let (p, q) = one_token text (T.Quoted t) (T.Quoted (rc_str_bytes r)) [] (drop n text) (whole_takes text t s) takes in
    e (omega (arith, f.within, ap length q, length-drop n text))

pub no_token_no_literal : (text : Bytes) → NoToken text → NoLiteral text
no_token_no_literal text none t s = none (T.Quoted t) [] (whole_takes text t s)

pub empty_no_literal : NoLiteral []
empty_no_literal t s = let b = spells_begins s in cc b.is

pub no_quote_no_literal : (text rest : Bytes) (x : ℕ) → text ≡ x ∷ rest → (x == 34) ≡ false → NoLiteral text
no_quote_no_literal text rest x e h t s =
    let b = spells_begins s in
    let f : x ≡ b.first = ap (λ z. get_or z 0 0) (sym e ∙ b.is) in
    let g : (x == 34) ≡ true = ap (λ z. z == 34) f ∙ b.begins in
    cc (g, h)

pub one_text : (text t u : Bytes) → Spells (T.Quoted t) text → Spells (T.Quoted u) text → t ≡ u
one_text text t u a b =
    let (p, q) = one_token text (T.Quoted t) (T.Quoted u) [] [] (whole_takes text t a) (whole_takes text u b) in
    cc p

pub ruleset whole_rules = (whole_is, whole_is_not, no_token_no_literal)

pub ruleset literal_rules = (empty_no_literal, no_quote_no_literal)
