-- A text is at most one formula, or has one first fault, and what is read is well formed.
use Rattle.std.proofs.Common.{◌≡◌, true, false, IsTrue, IsFalse, [], ap, refl, sym, subst, ◌∙◌, arith}
use Rattle.std.specs.Prelude.{Some, None}
use Rattle.std.specs.List.{AllByRecursion}
use Rattle.gl_language.specs.Texts.Text.{Bytes}
use Rattle.gl_language.specs.Reading.Token.{IsToken, Reads, no_more, space, token, Lexes}
use Rattle.gl_language.specs.Reading.Grammar.{Raw, Tokens, IsExpr, is_deep, form_fault, tree, ParseFault, long, lex, deep, syntax, form}
use Rattle.laws_language.specs.Formulas.{OneFormula, OneFault, FormulaOrFault, ReadsWellFormed}
use Rattle.gl_lex.proofs.Once.{one_token_list, one_lex_fault, tokens_or_fault}
use Rattle.laws_language.proofs.Grammar.Once.{one_form}

-- the tokens of one text are read as one form
same_form : (text : Bytes) (ts us : Tokens) (f g : Raw) → Lexes text ts → Lexes text us → IsExpr ts f [] → IsExpr us g [] → f ≡ g
same_form text ts us f g a b c d = one_form ts f g c (subst (λ z. IsExpr z g []) (sym (one_token_list text ts us a b)) d)

deep_once : (text : Bytes) (ts us : Tokens) → Lexes text ts → Lexes text us → IsTrue (is_deep ts) → IsFalse (is_deep us) → ⊥
deep_once text ts us a b h k = let e : true ≡ false = sym h ∙ ap is_deep (one_token_list text ts us a b) ∙ k in cc

pub one_formula : OneFormula
one_formula text f g a b = a.is_tree ∙ ap tree (same_form text a.tokens b.tokens a.raw b.raw a.lexes b.lexes a.form b.form) ∙ sym b.is_tree

pub one_fault : OneFault
one_fault text x y (long h) (long k) = refl
one_fault text x y (long h) (lex k j) = absurd (omega (arith, h, k))
one_fault text x y (long h) (deep us k b q) = absurd (omega (arith, h, k))
one_fault text x y (long h) (syntax us k b q n) = absurd (omega (arith, h, k))
one_fault text x y (long h) (form us g k b q d j) = absurd (omega (arith, h, k))
one_fault text x y (lex h i) (long k) = absurd (omega (arith, h, k))
one_fault text x y (lex {fault = p} {at_byte = m} h i) (lex {fault = q} {at_byte = n} k j) =
    let r = one_lex_fault text p q m n i j in
    ap (λ z. ParseFault.Lex z m) r.0 ∙ ap (λ z. ParseFault.Lex q z) r.1
one_fault text x y (lex {fault = p} {at_byte = m} h i) (deep us k b q) = absurd (tokens_or_fault text us p m b i)
one_fault text x y (lex {fault = p} {at_byte = m} h i) (syntax us k b q n) = absurd (tokens_or_fault text us p m b i)
one_fault text x y (lex {fault = p} {at_byte = m} h i) (form us g k b q d j) = absurd (tokens_or_fault text us p m b i)
one_fault text x y (deep ts h a p) (long k) = absurd (omega (arith, h, k))
one_fault text x y (deep ts h a p) (lex {fault = q} {at_byte = n} k j) = absurd (tokens_or_fault text ts q n a j)
one_fault text x y (deep ts h a p) (deep us k b q) = refl
one_fault text x y (deep ts h a p) (syntax us k b q n) = absurd (deep_once text ts us a b p q)
one_fault text x y (deep ts h a p) (form us g k b q d j) = absurd (deep_once text ts us a b p q)
one_fault text x y (syntax ts h a p m) (long k) = absurd (omega (arith, h, k))
one_fault text x y (syntax ts h a p m) (lex {fault = q} {at_byte = n} k j) = absurd (tokens_or_fault text ts q n a j)
one_fault text x y (syntax ts h a p m) (deep us k b q) = absurd (deep_once text us ts b a q p)
one_fault text x y (syntax ts h a p m) (syntax us k b q n) = refl
one_fault text x y (syntax ts h a p m) (form us g k b q d j) = absurd (m g (subst (λ z. IsExpr z g []) (one_token_list text us ts b a) d))
one_fault text x y (form ts f h a p c i) (long k) = absurd (omega (arith, h, k))
one_fault text x y (form ts f h a p c i) (lex {fault = q} {at_byte = n} k j) = absurd (tokens_or_fault text ts q n a j)
one_fault text x y (form ts f h a p c i) (deep us k b q) = absurd (deep_once text us ts b a q p)
one_fault text x y (form ts f h a p c i) (syntax us k b q n) = absurd (n f (subst (λ z. IsExpr z f []) (one_token_list text ts us a b) c))
one_fault text x y (form ts f h a p c i) (form us g k b q d j) =
    let e : Some x ≡ Some y = sym i ∙ ap form_fault (same_form text ts us f g a b c d) ∙ j in
    cc

pub formula_or_fault : FormulaOrFault
formula_or_fault text f x a (long k) = omega (arith, k, a.short)
formula_or_fault text f x a (lex {fault = q} {at_byte = n} k j) = tokens_or_fault text a.tokens q n a.lexes j
formula_or_fault text f x a (deep us k b q) = deep_once text us a.tokens b a.lexes q a.not_deep
formula_or_fault text f x a (syntax us k b q n) = n a.raw (subst (λ z. IsExpr z a.raw []) (one_token_list text a.tokens us a.lexes b) a.form)
formula_or_fault text f x a (form us g k b q d j) =
    let e : None ≡ Some x = sym a.no_fault ∙ ap form_fault (same_form text a.tokens us a.raw g a.lexes b a.form d) ∙ j in
    cc

-- what is read are tokens
pub read_tokens : {text rest : Bytes} {ts : Tokens} → Reads text ts rest → AllByRecursion IsToken ts
read_tokens no_more = tt
read_tokens (space r) = read_tokens r
read_tokens (token (bs, e, s, ends) r) = ((bs, s), read_tokens r)

pub reads_well_formed : ReadsWellFormed
reads_well_formed text f a = (a.tokens, a.raw, read_tokens a.lexes, a.not_deep, a.form, a.no_fault, a.is_tree)
