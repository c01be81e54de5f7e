-- The calls of a form without faults: each word is that of a function, and LET of a variable and two forms is read as what binds it.
use Rattle.std.proofs.Common.{◌≡◌, ℕ, Bool, true, false, not, List, [], ◌∷◌, ◌++◌, append_assoc, ap, refl, sym, subst, ◌∙◌, bytes_eq}
use Rattle.std.specs.Prelude.{Option, Some, None, find, codes, if◌then◌else◌}
use Rattle.std.specs.Option.{option_map_or}
use Rattle.std.proofs.lemmas.Bool.{or_parts, not-false}
use Rattle.std.proofs.lemmas.Slice.Eq.{bytes_eq-Decides}
use Rattle.gl_calculus.specs.Formulas.Formula.{Fun, Formula}
use Rattle.gl_calculus.specs.Formulas.Formula as F
use Rattle.gl_language.specs.Texts.Text.{Bytes, fun_text, place_of, is_neg}
use Rattle.gl_language.specs.Reading.Token.{Signed}
use Rattle.gl_language.specs.Reading.Token as T
use Rattle.gl_language.specs.Texts.Canonical.{tokens_behind, arguments_tokens, HasTokens, AllHaveTokens}
use Rattle.gl_language.specs.Reading.Grammar.{Raw, Raws, no_raw, raw_and, RawOperands, applied, function_of, all_functions, is_let, call_of, tree, trees, some_form, some_operand, some_argument, is_bad_range, is_bad_call, has_bad_name, raws, allows, ParseFault, form_fault}
use Rattle.gl_language.specs.Reading.Grammar as G

-- the word is that of a function
abbrev pub IsCalled : Bytes → Type 0
IsCalled word = (g : Fun) × (function_of word ≡ Some g)

abbrev mutual
  pub IsNamed : Raw → Type 0
  IsNamed (Raw.Neg f) = IsNamed f
  IsNamed (Raw.Chain level f rest) = IsNamed f × AreNamed rest
  IsNamed (Raw.Compare op f g) = IsNamed f × IsNamed g
  IsNamed (Raw.Let v f body) = IsNamed f × IsNamed body
  IsNamed (Raw.Apply word xs) = IsCalled word × AllNamed xs
  IsNamed f = Unit {0}

  pub AreNamed : RawOperands → Type 0
  AreNamed G.RawOperands.no_operand = Unit {0}
  AreNamed (G.RawOperands.operand_and op f rest) = IsNamed f × AreNamed rest

  pub AllNamed : Raws → Type 0
  AllNamed no_raw = Unit {0}
  AllNamed (raw_and f fs) = IsNamed f × AllNamed fs

-- ---- words

found_by : {A : Type 0} (test : A → Bool) (x y : A) (b : Bool) (o : Option A) → test x ≡ b → (if b then Some x else o) ≡ Some y → (o ≡ Some y → test y ≡ true) → test y ≡ true
found_by test x y true o h e next = let i : x ≡ y = cc in sym (ap test i) ∙ h
found_by test x y false o h e next = next e

found : {A : Type 0} (test : A → Bool) (xs : List A) (y : A) → find test xs ≡ Some y → test y ≡ true
found test [] y e = absurd (cc e)
found test (x ∷ xs) y e = found_by test x y (test x) (find test xs) refl e (found test xs y)

word_of : (word : Bytes) (g : Fun) → function_of word ≡ Some g → fun_text g ≡ word
word_of word g e = (bytes_eq-Decides (fun_text g) word).0 (found (λ f. bytes_eq (fun_text f) word) all_functions g e)

let_word : (word : Bytes) → is_let word ≡ true → word ≡ codes "LET"
let_word word h = (bytes_eq-Decides word (codes "LET")).0 h

-- ---- calls

-- the tree of a form has the tokens of this word and these arguments
pub record Stands (word : Bytes) (xs : Raws) (f : Raw) : Type 0 where
  pub tokens : (minus : ℕ) → tokens_behind minus (tree f) ≡ T.Word word ∷ Signed T.Sign.LeftParen ∷ (arguments_tokens (trees xs) ++ Signed T.Sign.RightParen ∷ [])
  pub at_place : place_of (tree f) ≡ 5
  pub no_neg : is_neg (tree f) ≡ false
  pub has : AllHaveTokens (trees xs) → HasTokens (tree f)

pub call_stands : (word : Bytes) (xs : Raws) → IsCalled word → Stands word xs (Raw.Apply word xs)
call_stands word xs (g, e) =
    let w : fun_text g ≡ word = word_of word g e in
    let c : tree (Raw.Apply word xs) ≡ F.Formula.Call g (trees xs) = ap (λ o. call_of o (trees xs)) e in
    record {
      tokens = λ minus. ap (tokens_behind minus) c ∙ ap (λ z. T.Word z ∷ Signed T.Sign.LeftParen ∷ (arguments_tokens (trees xs) ++ Signed T.Sign.RightParen ∷ [])) w;
      at_place = ap place_of c;
      no_neg = ap is_neg c;
      has = λ a. subst HasTokens (sym c) a;
    }

-- a variable, its value and a body
abbrev pub bound : Bytes → Raw → Raw → Raws
bound v f body = raw_and (Raw.Var v) (raw_and f (raw_and body no_raw))

let_stands : (v : Bytes) (f body : Raw) → Stands (codes "LET") (bound v f body) (Raw.Let v f body)
let_stands v f body =
    let close = Signed T.Sign.RightParen ∷ [] in
    let x : T.Token = Signed T.Sign.Comma in
    let fs = tokens_behind 0 (tree f) in
    let bs = tokens_behind 0 (tree body) in
    let e : (fs ++ (x ∷ (bs ++ []))) ++ close ≡ fs ++ (x ∷ (bs ++ close)) = append_assoc fs (x ∷ (bs ++ [])) close ∙ ap (λ z. fs ++ (x ∷ z)) (append_assoc bs [] close) in
    record {
      tokens = λ minus. ap (λ z. T.Word (codes "LET") ∷ Signed T.Sign.LeftParen ∷ T.Variable v ∷ x ∷ z) (sym e);
      at_place = refl;
      no_neg = refl;
      has = λ a. (a.0, (a.1.0, a.1.1.0));
    }

applied_by : (word : Bytes) (v : Bytes) (f body : Raw) (l : Bool) → is_let word ≡ l → IsNamed (if l then Raw.Let v f body else Raw.Apply word (bound v f body)) →
    Stands word (bound v f body) (if l then Raw.Let v f body else Raw.Apply word (bound v f body)) × AllNamed (bound v f body)
applied_by word v f body true h n = (subst (λ z. Stands z (bound v f body) (Raw.Let v f body)) (sym (let_word word h)) (let_stands v f body), (tt, (n.0, (n.1, tt))))
applied_by word v f body false h n = (call_stands word (bound v f body) n.0, n.1)

-- what a word and arguments are read as
pub applied_stands : (word : Bytes) (xs : Raws) → IsNamed (applied word xs) → Stands word xs (applied word xs) × AllNamed xs
applied_stands word (raw_and (Raw.Var v) (raw_and f (raw_and body no_raw))) n = applied_by word v f body (is_let word) refl n
applied_stands word xs n = (call_stands word xs n.0, n.1)

call_by : (word : Bytes) (v : Bytes) (f body : Raw) (l : Bool) → is_let word ≡ l → IsCalled word → (if l then Raw.Let v f body else Raw.Apply word (bound v f body)) ≡ Raw.Apply word (bound v f body)
call_by word v f body true h (g, e) =
    let i : None ≡ Some g = ap function_of (sym (let_word word h)) ∙ e in
    absurd (cc i)
call_by word v f body false h c = refl

-- LET is no function
pub is_call : (word : Bytes) (xs : Raws) → IsCalled word → applied word xs ≡ Raw.Apply word xs
is_call word (raw_and (Raw.Var v) (raw_and f (raw_and body no_raw))) c = call_by word v f body (is_let word) refl c
is_call word xs c = refl

called_by : (word : Bytes) (xs : Raws) (o : Option Fun) → function_of word ≡ o → option_map_or (λ f. allows f (raws xs)) o false ≡ true → IsCalled word
called_by word xs (Some g) e h = (g, e)
called_by word xs None e h = absurd (cc h)

-- ---- forms

mutual
  named : (f : Raw) → some_form is_bad_call f ≡ false → IsNamed f
  named (Raw.Number n) c = tt
  named (Raw.Text t) c = tt
  named (Raw.Boolean b) c = tt
  named (Raw.At a) c = tt
  named (Raw.Spill a) c = tt
  named (Raw.Corners a b) c = tt
  named (Raw.Var v) c = tt
  named (Raw.Neg f) c = named f c
  named (Raw.Chain level f rest) c = let p = or_parts (some_form is_bad_call f) (some_operand is_bad_call rest) c in (named f p.0, named_operands rest p.1)
  named (Raw.Compare op f g) c = let p = or_parts (some_form is_bad_call f) (some_form is_bad_call g) c in (named f p.0, named g p.1)
  named (Raw.Let v f body) c = let p = or_parts (some_form is_bad_call f) (some_form is_bad_call body) c in (named f p.0, named body p.1)
  named (Raw.Apply word xs) c =
      let fits = option_map_or (λ f. allows f (raws xs)) (function_of word) false in
      let p = or_parts (not fits) (some_argument is_bad_call xs) c in
      (called_by word xs (function_of word) refl (not-false fits p.0), all_named xs p.1)

  named_operands : (rest : RawOperands) → some_operand is_bad_call rest ≡ false → AreNamed rest
  named_operands G.RawOperands.no_operand c = tt
  named_operands (G.RawOperands.operand_and op f rest) c = let p = or_parts (some_form is_bad_call f) (some_operand is_bad_call rest) c in (named f p.0, named_operands rest p.1)

  all_named : (xs : Raws) → some_argument is_bad_call xs ≡ false → AllNamed xs
  all_named no_raw c = tt
  all_named (raw_and f fs) c = let p = or_parts (some_form is_bad_call f) (some_argument is_bad_call fs) c in (named f p.0, all_named fs p.1)

no_faults : (r n c : Bool) → (if r then Some ParseFault.Range else if n then Some ParseFault.Name else if c then Some ParseFault.Arity else None) ≡ None → c ≡ false
no_faults true n c e = absurd (cc e)
no_faults false true c e = absurd (cc e)
no_faults false false true e = absurd (cc e)
no_faults false false false e = refl

pub is_named : (f : Raw) → form_fault f ≡ None → IsNamed f
is_named f h = named f (no_faults (some_form is_bad_range f) (has_bad_name [] f) (some_form is_bad_call f) h)
