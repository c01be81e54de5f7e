-- The names in a form, under those that are bound around it.
use Rattle.std.proofs.Common.{◌≡◌, ℕ, ◌+◌, ◌<◌, ◌≤◌, Bool, true, false, List, [], ◌∷◌, ◌++◌, drop, length, get_or, ap, sym, ◌∙◌, refl}
use Rattle.std.specs.Prelude.{◌||◌, not, Result, Ok, Err, IfOk, bytes_eq}
use Rattle.std.specs.List.{list_any}
use Rattle.std.proofs.lemmas.List.{at_drop_more, at_drop_all}
use Rattle.std.specs.declared.alloc.Global.{Global}
use Rattle.std.specs.declared.boxed.Box.{Box}
use Rattle.std.specs.declared.vec.Vec.{Vec}
use Rattle.gl_language.specs.Texts.Text.{Bytes}
use Rattle.gl_language.specs.Reading.Grammar.{has_bad_name, bad_name_in, bad_name_in_operands}
use Rattle.gl_language.specs.Reading.Grammar as G
use Rattle.gl_plane.specs.declared.NoMemory.{NoMemory}
use Rattle.gl_ast.specs.declared.Level.{Level}
use Rattle.gl_ast.specs.declared.Op.{Op}
use Rattle.gl_parse.specs.declared.raw.Span.{Span}
use Rattle.gl_parse.specs.declared.raw.Raw.{Raw}
use Rattle.gl_parse.specs.declared.raw.Raw.TheVariants as r
use Rattle.gl_parse.specs.Raws.{raw_tree, letters, links, raws_of, pairs, plains}
use Rattle.gl_parse.specs.Faults.{scope, scope_onto}
use Rattle.gl_parse.proofs.Forms.{tree-Var, tree-Neg, tree-Chain, tree-Compare, tree-Let, tree-Apply}

-- ---- the scope

onto_push : (text : Bytes) (ss : List Span) (s : Span) (more : List Bytes) → scope_onto text (ss ++ s ∷ []) more ≡ letters text s ∷ scope_onto text ss more
onto_push text [] s more = refl
onto_push text (p ∷ ps) s more = onto_push text ps s (letters text p ∷ more)

-- a name bound inside all others
pub scope_pushed : (text : Bytes) (ss longer : List Span) (s : Span) → longer ≡ ss ++ s ∷ [] → scope text longer ≡ letters text s ∷ scope text ss
scope_pushed text ss longer s h = ap (scope text) h ∙ onto_push text ss s []

or_assoc : (a b c : Bool) → (a || b) || c ≡ a || (b || c)
or_assoc true b c = refl
or_assoc false b c = refl

or_swap : (a b c : Bool) → a || (b || c) ≡ b || (a || c)
or_swap true true c = refl
or_swap true false c = refl
or_swap false b c = refl

or_false : (a : Bool) → a || false ≡ a
or_false true = refl
or_false false = refl

any_onto : (text : Bytes) (test : Bytes → Bool) (ss : List Span) (more : List Bytes) → list_any test (scope_onto text ss more) ≡ list_any test more || list_any test (scope text ss)
any_onto text test [] more = sym (or_false (list_any test more))
any_onto text test (s ∷ ss) more =
    let x = test (letters text s) in
    let own : list_any test (scope text (s ∷ ss)) ≡ (x || false) || list_any test (scope text ss) = any_onto text test ss (letters text s ∷ []) in
    any_onto text test ss (letters text s ∷ more) ∙ or_assoc x (list_any test more) (list_any test (scope text ss)) ∙ or_swap x (list_any test more) (list_any test (scope text ss))
    ∙ ap (λ z. list_any test more || z) (sym (own ∙ ap (λ z. z || list_any test (scope text ss)) (or_false x)))

pub bound_next : (text : Bytes) (test : Bytes → Bool) (ss : List Span) (i : ℕ) (d : Span) → i < length ss → list_any test (scope text (drop i ss)) ≡ test (letters text (get_or ss i d)) || list_any test (scope text (drop (i + 1) ss))
bound_next text test ss i d h =
    at_drop_more (λ (xs : List Span). list_any test (scope text xs)) ss i d h ∙ any_onto text test (drop (i + 1) ss) (letters text (get_or ss i d) ∷ [])
    ∙ ap (λ z. z || list_any test (scope text (drop (i + 1) ss))) (or_false (test (letters text (get_or ss i d))))

pub bound_end : (text : Bytes) (test : Bytes → Bool) (ss : List Span) (i : ℕ) → length ss ≤ i → list_any test (scope text (drop i ss)) ≡ false
bound_end text test ss i h = at_drop_all (λ (xs : List Span). list_any test (scope text xs)) ss i h

pub bound_here : (text : Bytes) (test : Bytes → Bool) (ss : List Span) (i : ℕ) (d : Span) (w : Bool) → i < length ss → test (letters text (get_or ss i d)) ≡ true → list_any test (scope text (drop i ss)) ≡ w → true ≡ w
bound_here text test ss i d w h here e = sym (bound_next text test ss i d h ∙ ap (λ z. z || list_any test (scope text (drop (i + 1) ss))) here) ∙ e

pub bound_further : (text : Bytes) (test : Bytes → Bool) (ss : List Span) (i : ℕ) (d : Span) (w : Bool) → i < length ss → test (letters text (get_or ss i d)) ≡ false → list_any test (scope text (drop i ss)) ≡ w → list_any test (scope text (drop (i + 1) ss)) ≡ w
bound_further text test ss i d w h other e = sym (bound_next text test ss i d h ∙ ap (λ z. z || list_any test (scope text (drop (i + 1) ss))) other) ∙ e

pub ruleset bound_rules = (bound_next, bound_end)

-- ---- forms

module _ (text : Bytes) (vs : List Bytes) where
  pub name_var : (raw : Raw) (v : Span) → raw ≡ r.Var v → has_bad_name vs (raw_tree text raw) ≡ not (list_any (bytes_eq (letters text v)) vs)
  name_var raw v e = ap (has_bad_name vs) (ap (raw_tree text) e ∙ tree-Var text v)

  pub name_neg : (raw : Raw) (f : Box Raw Global) → raw ≡ r.Neg f → has_bad_name vs (raw_tree text raw) ≡ has_bad_name vs (raw_tree text f.value)
  name_neg raw f e = ap (has_bad_name vs) (ap (raw_tree text) e ∙ tree-Neg text f)

  pub name_chain : (raw : Raw) (l : Level) (f : Box Raw Global) (rest : Vec (Op × Raw) Global) → raw ≡ r.Chain l f rest → has_bad_name vs (raw_tree text raw) ≡ has_bad_name vs (raw_tree text f.value) || bad_name_in_operands vs (links (pairs text rest.items))
  name_chain raw l f rest e = ap (has_bad_name vs) (ap (raw_tree text) e ∙ tree-Chain text l f rest)

  pub name_compare : (raw : Raw) (o : Op) (f g : Box Raw Global) → raw ≡ r.Compare o f g → has_bad_name vs (raw_tree text raw) ≡ has_bad_name vs (raw_tree text f.value) || has_bad_name vs (raw_tree text g.value)
  name_compare raw o f g e = ap (has_bad_name vs) (ap (raw_tree text) e ∙ tree-Compare text o f g)

  pub name_let : (raw : Raw) (name : Span) (f body : Box Raw Global) → raw ≡ r.Let name f body → has_bad_name vs (raw_tree text raw) ≡ has_bad_name vs (raw_tree text f.value) || has_bad_name (letters text name ∷ vs) (raw_tree text body.value)
  name_let raw name f body e = ap (has_bad_name vs) (ap (raw_tree text) e ∙ tree-Let text name f body)

  pub name_apply : (raw : Raw) (word : Span) (xs : Vec Raw Global) → raw ≡ r.Apply word xs → has_bad_name vs (raw_tree text raw) ≡ has_bad_name vs (G.Raw.Apply (letters text word) (raws_of (plains text xs.items)))
  name_apply raw word xs e = ap (has_bad_name vs) (ap (raw_tree text) e ∙ tree-Apply text word xs)

  pub argument_next : (xs : List Raw) (i : ℕ) (d : Raw) → i < length xs → bad_name_in vs (raws_of (plains text (drop i xs))) ≡ has_bad_name vs (raw_tree text (get_or xs i d)) || bad_name_in vs (raws_of (plains text (drop (i + 1) xs)))
  argument_next xs i d h = at_drop_more (λ (ys : List Raw). bad_name_in vs (raws_of (plains text ys))) xs i d h

  pub argument_end : (xs : List Raw) (i : ℕ) → length xs ≤ i → bad_name_in vs (raws_of (plains text (drop i xs))) ≡ false
  argument_end xs i h = at_drop_all (λ (ys : List Raw). bad_name_in vs (raws_of (plains text ys))) xs i h

  pub operand_next : (xs : List (Op × Raw)) (i : ℕ) (d : Op × Raw) → i < length xs → bad_name_in_operands vs (links (pairs text (drop i xs))) ≡ has_bad_name vs (raw_tree text (get_or xs i d).1) || bad_name_in_operands vs (links (pairs text (drop (i + 1) xs)))
  operand_next xs i d h = at_drop_more (λ (ys : List (Op × Raw)). bad_name_in_operands vs (links (pairs text ys))) xs i d h

  pub operand_end : (xs : List (Op × Raw)) (i : ℕ) → length xs ≤ i → bad_name_in_operands vs (links (pairs text (drop i xs))) ≡ false
  operand_end xs i h = at_drop_all (λ (ys : List (Op × Raw)). bad_name_in_operands vs (links (pairs text ys))) xs i h

pub ruleset operand_rules = (operand_next, operand_end)

pub ruleset argument_rules = (argument_next, argument_end)

pub ruleset body_rules = scope_pushed

-- an answer that is another one
pub answer_is : (r : Result Bool NoMemory) (x y : Bool) → IfOk r (λ b. b ≡ x) → x ≡ y → IfOk r (λ b. b ≡ y)
answer_is (Ok b) x y h e = h ∙ e
answer_is (Err n) x y h e = tt
