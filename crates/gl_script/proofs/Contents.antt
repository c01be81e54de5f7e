-- The content of a text, by what was read of it.
use Rattle.std.specs.Prelude.{codes}
use Rattle.std.proofs.Common.{◌≡◌, ◌≢◌, ◌∙◌, ℕ, ◌<◌, ◌≤◌, true, false, List, [], ◌∷◌, ◌++◌, length, get_or, Option, Some, None, Ok, Err, refl, sym, ap, subst, arith, IsTrue}
use Rattle.std.specs.Prelude.{ℤ, nat_lt, nat_le, ◌&&◌, option_copied}
use Rattle.std.specs.Borrow.{Bor}
use Rattle.std.specs.List.{AllByRecursion}
use Rattle.std.specs.Str.{IsUtf8, is_utf8}
use Rattle.std.proofs.lemmas.Bool.Decides.{nat_tests}
use Rattle.std.proofs.lemmas.Str.{is_utf8-from_IsUtf8}
use Rattle.gl_calculus.specs.Grid.Limits.{max_text}
use Rattle.gl_calculus.specs.Values.Value as V
use Rattle.gl_calculus.specs.Formulas.Formula.{Formula, Const, Form}
use Rattle.gl_language.specs.Texts.Text.{Bytes}
use Rattle.gl_language.specs.Reading.Token as T
use Rattle.gl_language.specs.Reading.Token.{Token, Reads, Spells, Decodes, IsToken}
use Rattle.gl_language.specs.Reading.Grammar.{Parses, IsWellFormed}
use Rattle.gl_language.specs.Reading.Content.{IsProperContent}
use Rattle.gl_protocol.specs.Scripts.Commands as C
use Rattle.gl_protocol.specs.Scripts.Commands.{Is, Not, ReadsContent}
use Rattle.gl_language.specs.Texts.Plain.{plain_scalar}
use Rattle.gl_lex.specs.declared.fault.LexFault.TheVariants as lex
use Rattle.gl_parse.specs.Outcome.{IsRefused}
use Rattle.gl_cells.specs.Content.{content_tree}
use Rattle.gl_parse.specs.declared.fault.ParseFault.{ParseFault}
use Rattle.gl_parse.specs.declared.fault.ParseFault.TheVariants as parse
use Rattle.gl_lex.specs.declared.fault.LexFault.{LexFault}
use Rattle.gl_lex.specs.View.{IsLiteral}
use Rattle.gl_cells.specs.declared.content.Content.{Content}
use Rattle.gl_script.specs.declared.requests.CommandFault.{CommandFault}
use Rattle.gl_script.specs.Parts.{IsContent, IsText, is_int, formula_fault, literal_fault}
use Rattle.gl_script.proofs.Decoded.{decoded_text}

-- ---- formulas

are_tokens : {text rest : Bytes} {ts : List Token} → Reads text ts rest → AllByRecursion IsToken ts
are_tokens T.no_more = tt
are_tokens (T.space r) = are_tokens r
are_tokens (T.token takes r) = ((takes.0, takes.2), are_tokens r)

pub well_formed : (t : Bytes) (f : Formula) → Parses t f → IsWellFormed f
well_formed t f p = (p.tokens, p.raw, are_tokens p.lexes, p.not_deep, p.form, p.no_fault, p.is_tree)

pub formula_content : (u : Bytes) (f g : Formula) → Parses u g → f ≡ g → ReadsContent (61 ∷ u) (Is (Form f)) × IsProperContent (Form f)
formula_content u f g p e = subst (λ (h : Formula). ReadsContent (61 ∷ u) (Is (Form h)) × IsProperContent (Form h)) (sym e) (C.ReadsContent.formula p, well_formed u g p)

pub fault_content : (u : Bytes) (e : ParseFault) → IsRefused u e → IsContent (61 ∷ u) (Err (formula_fault e))
fault_content u parse.Long r = (u, refl, r, ((codes "long"), refl, C.ReadsContent.fault r))
fault_content u (parse.Lex (lex.Token at_byte)) r = (u, refl, r, ((codes "token"), refl, C.ReadsContent.fault r))
fault_content u (parse.Lex (lex.Number at_byte)) r = (u, refl, r, ((codes "number"), refl, C.ReadsContent.fault r))
fault_content u (parse.Lex (lex.Text at_byte)) r = (u, refl, r, ((codes "text"), refl, C.ReadsContent.fault r))
fault_content u (parse.Lex lex.NoMemory) r = absurd r
fault_content u parse.Deep r = (u, refl, r, ((codes "deep"), refl, C.ReadsContent.fault r))
fault_content u parse.Syntax r = (u, refl, r, ((codes "syntax"), refl, C.ReadsContent.fault r))
fault_content u parse.Range r = (u, refl, r, ((codes "range"), refl, C.ReadsContent.fault r))
fault_content u parse.Name r = (u, refl, r, ((codes "name"), refl, C.ReadsContent.fault r))
fault_content u parse.Arity r = (u, refl, r, ((codes "arity"), refl, C.ReadsContent.fault r))
fault_content u parse.NoMemory r = tt

-- ---- literals

short_text : (t : Bytes) → IsTrue (is_utf8 t) → length t ≤ max_text → IsTrue (is_utf8 t && nat_le (length t) max_text)
short_text t u l =
    let m : nat_le (length t) max_text ≡ true = grind (arith, nat_tests) in
    rw (u, m) refl

spelled : {text t : Bytes} → Spells (T.Quoted t) text → ReadsContent text (Is (Const (V.Scalar.Text t))) × IsTrue (is_utf8 t && nat_le (length t) max_text)
spelled (T.quoted {t = t} d u l) = (C.ReadsContent.literal d l, short_text t u l)

pub literal_content : (text t : Bytes) (x : V.Scalar) → Spells (T.Quoted t) text → x ≡ V.Scalar.Text t → ReadsContent text (Is (Const x)) × IsProperContent (Const x)
literal_content text t x s e = subst (λ (y : V.Scalar). ReadsContent text (Is (Const y)) × IsProperContent (Const y)) (sym e) (spelled s)

pub no_literal_content : (text : Bytes) → IsUtf8 text → get_or text 0 0 ≡ 34 → ((t : Bytes) → Spells (T.Quoted t) text → ⊥) → (u : Bytes) × (text ≡ 34 ∷ u) × ReadsContent text (Not (codes "text"))
no_literal_content [] utf8 q other = absurd (omega (arith, q))
no_literal_content (b ∷ u) utf8 q other = (u, ap (λ (x : ℕ). x ∷ u) q, subst (λ (x : ℕ). ReadsContent (x ∷ u) (Not (codes "text"))) (sym q) (C.ReadsContent.no_literal none))
  where
    none : (s t : Bytes) → Decodes s t → length t ≤ max_text → u ≢ s ++ 34 ∷ []
    none s t d l e =
        let whole : b ∷ u ≡ 34 ∷ s ++ 34 ∷ [] = ap (λ (x : ℕ). x ∷ u) q ∙ ap (λ (x : Bytes). 34 ∷ x) e in
        other t (subst (Spells (T.Quoted t)) (sym whole) (T.quoted d (is_utf8-from_IsUtf8 t (decoded_text d (subst IsUtf8 whole utf8))) l))

pub fault_of_literal : (text : Bytes) (e : LexFault) → IsUtf8 text → get_or text 0 0 ≡ 34 → IsLiteral text (Err e) → IsContent text (Err (literal_fault e))
fault_of_literal text (lex.Token at_byte) u q h = absurd h
fault_of_literal text (lex.Number at_byte) u q h = absurd h
fault_of_literal text (lex.Text at_byte) u q h = no_literal_content text u q h.1
fault_of_literal text lex.NoMemory u q h = tt

-- ---- plain texts

int_is : (x : V.Scalar) → is_int x ≡ true → (n : ℤ) × (x ≡ V.Scalar.Int n)
int_is (V.Scalar.Int n) h = (n, refl)
int_is V.Scalar.Blank h = absurd (cc)
int_is (V.Scalar.Bool b) h = absurd (cc)
int_is (V.Scalar.Text t) h = absurd (cc)
int_is (V.Scalar.Err e) h = absurd (cc)
int_is (V.Scalar.Sheet s) h = absurd (cc)

pub plain_content : (text : Bytes) (x : V.Scalar) → 0 < length text → get_or text 0 0 ≢ 61 → get_or text 0 0 ≢ 34 → x ≡ plain_scalar text → length text ≤ max_text → ReadsContent text (Is (Const x))
plain_content [] x some p q e l = absurd (omega arith)
plain_content (b ∷ t) x some p q e l = subst (λ (y : V.Scalar). ReadsContent (b ∷ t) (Is (Const y))) (sym e) (C.ReadsContent.plain p q l)

pub number_content : (text : Bytes) (x : V.Scalar) → 0 < length text → get_or text 0 0 ≢ 61 → get_or text 0 0 ≢ 34 → x ≡ plain_scalar text → max_text < length text → is_int x ≡ true → ReadsContent text (Is (Const x)) × IsProperContent (Const x)
number_content [] x some p q e l h = absurd (omega arith)
number_content (b ∷ t) x some p q e l h =
    let i = int_is x h in
    subst (λ (y : V.Scalar). ReadsContent (b ∷ t) (Is (Const y)) × IsProperContent (Const y)) (sym i.1) (C.ReadsContent.number p q l (sym e ∙ i.1), tt)

pub field_content : (text : Bytes) (x : V.Scalar) → 0 < length text → get_or text 0 0 ≢ 61 → get_or text 0 0 ≢ 34 → x ≡ plain_scalar text → max_text < length text → is_int x ≡ false → ReadsContent text (Not (codes "field"))
field_content [] x some p q e l h = absurd (omega arith)
field_content (b ∷ t) x some p q e l h = C.ReadsContent.long p q l (λ n d. let k : is_int x ≡ true = ap is_int (e ∙ d) in cc)

-- ---- the first byte

pub no_formula : (text : Bytes) → ((rest : Bytes) → text ≢ 61 ∷ rest) → get_or text 0 0 ≢ 61
no_formula [] h e = absurd (omega (arith, e))
no_formula (b ∷ t) h e = h t (ap (λ (x : ℕ). x ∷ t) e)

-- ---- a text, or none

some_length : (t : Bytes) → nat_lt 0 (length t) ≡ true → 0 < length t
some_length t h = grind (arith, nat_tests)

module _ (o : Option (Bor Bytes)) where
  pub text_read : (t : Bor Bytes) (c : Content) → o ≡ Some t → IsTrue (C.is_text (option_copied o)) → (0 < length t.now → IsContent t.now (Ok c)) → IsText (option_copied o) (Ok (Some c))
  text_read t c e n g =
      let x = g (some_length t.now (subst (λ (z : Option (Bor Bytes)). IsTrue (C.is_text (option_copied z))) e n)) in
      subst (λ (z : Option (Bor Bytes)). IsText (option_copied z) (Ok (Some c))) (sym e) (C.ReadsText.text {r = Is (content_tree c)} x.0, x.1)

  pub text_not : (t : Bor Bytes) (f : CommandFault) → o ≡ Some t → IsTrue (C.is_text (option_copied o)) → (0 < length t.now → IsContent t.now (Err f)) → IsText (option_copied o) (Err f)
  text_not t f e n g =
      let x = g (some_length t.now (subst (λ (z : Option (Bor Bytes)). IsTrue (C.is_text (option_copied z))) e n)) in
      subst (λ (z : Option (Bor Bytes)). IsText (option_copied z) (Err f)) (sym e) (t.now, refl, x)

  pub text_none : o ≡ None → IsText (option_copied o) (Ok None)
  text_none e = subst (λ (z : Option (Bor Bytes)). IsText (option_copied z) (Ok None)) (sym e) (C.ReadsText.no_text, tt)
