-- What the reader answers, and why.
use Rattle.std.proofs.Common.{◌≡◌, ℕ, ◌<◌, ◌≤◌, true, false, List, [], length, ap, sym, subst, ◌∙◌}
use Rattle.std.specs.Prelude.{Some, None, Result, Ok, Err, if◌then◌else◌}
use Rattle.gl_calculus.specs.Grid.Limits.{max_formula}
use Rattle.gl_calculus.specs.Formulas.Formula as F
use Rattle.gl_language.specs.Texts.Text.{Bytes}
use Rattle.gl_language.specs.Reading.Token.{Lexes, LexFault, IsLexFault}
use Rattle.gl_language.specs.Reading.Grammar.{Tokens, Raw, IsExpr, Parses, IsParseFault, ParseFault, form_fault, some_form, is_bad_range, has_bad_name, is_bad_call, is_deep, tree}
use Rattle.gl_language.specs.Reading.Grammar as G
use Rattle.gl_ast.specs.declared.Formula.{Formula}
use Rattle.gl_ast.specs.View.{formula_tree}
use Rattle.gl_lex.specs.declared.Token.{Token}
use Rattle.gl_lex.specs.View.{tokens_in}
use Rattle.gl_parse.specs.declared.fault.ParseFault.{ParseFault as Fault}
use Rattle.gl_parse.specs.declared.fault.ParseFault.TheVariants as fault
use Rattle.gl_parse.specs.Outcome.{Answers}
use Rattle.gl_parse.specs.Faults.{IsSpelled, AnyCorners, InOrder, Checked}
use Rattle.gl_parse.proofs.Spelling.{lexed_tokens, expr_spelled, in_order}

-- ---- the faults of forms

pub range_fault : (f : Raw) → some_form is_bad_range f ≡ true → form_fault f ≡ Some G.ParseFault.Range
range_fault f h = ap (λ z. if z then Some G.ParseFault.Range else if has_bad_name [] f then Some G.ParseFault.Name else if some_form is_bad_call f then Some G.ParseFault.Arity else None) h

module _ (f : Raw) (no_range : some_form is_bad_range f ≡ false) where
  behind_range : form_fault f ≡ (if has_bad_name [] f then Some G.ParseFault.Name else if some_form is_bad_call f then Some G.ParseFault.Arity else None)
  behind_range = ap (λ z. if z then Some G.ParseFault.Range else if has_bad_name [] f then Some G.ParseFault.Name else if some_form is_bad_call f then Some G.ParseFault.Arity else None) no_range

  pub name_fault : has_bad_name [] f ≡ true → form_fault f ≡ Some G.ParseFault.Name
  name_fault h = behind_range ∙ ap (λ z. if z then Some G.ParseFault.Name else if some_form is_bad_call f then Some G.ParseFault.Arity else None) h

  module _ (no_name : has_bad_name [] f ≡ false) where
    behind_name : form_fault f ≡ (if some_form is_bad_call f then Some G.ParseFault.Arity else None)
    behind_name = behind_range ∙ ap (λ z. if z then Some G.ParseFault.Name else if some_form is_bad_call f then Some G.ParseFault.Arity else None) no_name

    pub arity_fault : some_form is_bad_call f ≡ true → form_fault f ≡ Some G.ParseFault.Arity
    arity_fault h = behind_name ∙ ap (λ z. if z then Some G.ParseFault.Arity else None) h

    pub without_fault : some_form is_bad_call f ≡ false → form_fault f ≡ None
    without_fault h = behind_name ∙ ap (λ z. if z then Some G.ParseFault.Arity else None) h

pub spelled_in_order : (f : Raw) (g h : F.Formula) → some_form is_bad_range f ≡ false → (IsSpelled InOrder f → g ≡ h) → IsSpelled AnyCorners f → g ≡ h
spelled_in_order f g h free build s = build (in_order f s free)

pub ruleset checked_rules = (range_fault, name_fault, arity_fault, without_fault, spelled_in_order)

-- ---- texts

pub long_text : (text : Bytes) → max_formula < length text → IsParseFault text G.ParseFault.Long
long_text text h = G.long h

pub lex_refused : (text : Bytes) (x : LexFault) (n : ℕ) → length text ≤ max_formula → IsLexFault text x n → IsParseFault text (G.ParseFault.Lex x n)
lex_refused text x n h i = G.lex h i

pub ruleset parse_rules = long_text

pub ruleset lex_rules = lex_refused

module _ (text : Bytes) (ts : Tokens) (short : length text ≤ max_formula) (lexes : Lexes text ts) where
  pub deep_text : is_deep ts ≡ true → IsParseFault text G.ParseFault.Deep
  deep_text h = G.deep ts short lexes h

  module _ (flat : is_deep ts ≡ false) where
    pub no_expression : ((f : Raw) → IsExpr ts f [] → ⊥) → IsParseFault text G.ParseFault.Syntax
    no_expression h = G.syntax ts short lexes flat h

    pub faulty_form : (f : Raw) (x : ParseFault) → IsExpr ts f [] → form_fault f ≡ Some x → IsParseFault text x
    faulty_form f x r h = G.form ts f short lexes flat r h

    pub formula_read : (f : Raw) (g : F.Formula) → IsExpr ts f [] → form_fault f ≡ None → (IsSpelled AnyCorners f → g ≡ tree f) → Parses text g
    formula_read f g r none h = record { short = short; tokens = ts; lexes = lexes; not_deep = flat; raw = f; form = r; no_fault = none; is_tree = h (expr_spelled r (lexed_tokens lexes)).0 }

pub ruleset read_rules = (deep_text, no_expression, faulty_form, formula_read)

-- what is answered for a form answers the text
form_answers : (text : Bytes) (ts : Tokens) (f : Raw) (r : Result Formula Fault) → length text ≤ max_formula → Lexes text ts → is_deep ts ≡ false → IsExpr ts f [] → Checked f r → Answers text r
form_answers text ts f (Ok g) short lexes flat r h = formula_read text ts short lexes flat f (formula_tree g) r h.0 h.1
form_answers text ts f (Err fault.Range) short lexes flat r h = faulty_form text ts short lexes flat f G.ParseFault.Range r h
form_answers text ts f (Err fault.Name) short lexes flat r h = faulty_form text ts short lexes flat f G.ParseFault.Name r h
form_answers text ts f (Err fault.Arity) short lexes flat r h = faulty_form text ts short lexes flat f G.ParseFault.Arity r h
form_answers text ts f (Err fault.NoMemory) short lexes flat r h = tt
form_answers text ts f (Err fault.Long) short lexes flat r h = absurd h
form_answers text ts f (Err (fault.Lex x)) short lexes flat r h = absurd h
form_answers text ts f (Err fault.Deep) short lexes flat r h = absurd h
form_answers text ts f (Err fault.Syntax) short lexes flat r h = absurd h

pub read_is : (text bytes : Bytes) (tokens : List Token) (f : Raw) (r : Result Formula Fault) → bytes ≡ text → length text ≤ max_formula → Lexes text (tokens_in text tokens) → is_deep (tokens_in bytes tokens) ≡ false → IsExpr (tokens_in bytes tokens) f [] → Checked f r → Answers text r
read_is text bytes tokens f r e short lexes flat reads h = form_answers text (tokens_in bytes tokens) f r short (subst (λ z. Lexes text (tokens_in z tokens)) (sym e) lexes) flat reads h
