-- What a word and its arguments are read as.
use Rattle.std.proofs.Common.{◌≡◌, ◌≢◌, ◌<◌, Bool, true, false, List, [], ◌∷◌, length, get_or, ap, sym, ◌∙◌, refl, arith}
use Rattle.std.specs.Prelude.{Some, None, slice_index_or, remove, if◌then◌else◌}
use Rattle.std.proofs.lemmas.List.{length-map}
use Rattle.gl_language.specs.Texts.Text.{Bytes}
use Rattle.gl_language.specs.Reading.Grammar.{is_let, applied}
use Rattle.gl_language.specs.Reading.Grammar as G
use Rattle.gl_parse.specs.declared.raw.Raw.{Raw}
use Rattle.gl_parse.specs.Raws.{raw_tree, raws_of, plains}
use Rattle.gl_parse.specs.Reading.{is_variable, bound_by}

-- ---- the variable that is bound

pub other_word_binds : (word : Bytes) (fs : List G.Raw) → is_let word ≡ false → bound_by word fs ≡ None
other_word_binds word (G.Raw.Var v ∷ f ∷ body ∷ []) h = ap (λ z. if z then Some v else None) h
other_word_binds word fs h = refl

other_length_binds : (word : Bytes) (fs : List G.Raw) → length fs ≢ 3 → bound_by word fs ≡ None
other_length_binds word (G.Raw.Var v ∷ f ∷ body ∷ []) h = absurd (h refl)
other_length_binds word fs h = refl

other_first_binds : (word : Bytes) (f : G.Raw) (fs : List G.Raw) → is_variable f ≡ false → bound_by word (f ∷ fs) ≡ None
other_first_binds word (G.Raw.Var v) fs h = cc
other_first_binds word f fs h = refl

-- the call by its arguments in the code
pub plain_length : (text : Bytes) (word : Bytes) (xs : List Raw) → length xs ≢ 3 → bound_by word (plains text xs) ≡ None
plain_length text word xs h = other_length_binds word (plains text xs) (λ e. h (sym (length-map xs (raw_tree text)) ∙ e))

pub plain_first : (text : Bytes) (word : Bytes) (xs : List Raw) (d : Raw) → 0 < length xs → is_variable (raw_tree text (get_or xs 0 d)) ≡ false → bound_by word (plains text xs) ≡ None
plain_first text word [] d h i = absurd (omega arith)
plain_first text word (x ∷ xs) d h i = other_first_binds word (raw_tree text x) (plains text xs) i

pub let_binds : (text : Bytes) (word : Bytes) (xs : List Raw) (d : Raw) (v : Bytes) → length xs ≡ 3 → is_let word ≡ true → raw_tree text (get_or xs 0 d) ≡ G.Raw.Var v → bound_by word (plains text xs) ≡ Some v
let_binds text word [] d v h i e = absurd (omega arith)
let_binds text word (x ∷ []) d v h i e = absurd (omega arith)
let_binds text word (x ∷ y ∷ []) d v h i e = absurd (omega arith)
let_binds text word (x ∷ y ∷ z ∷ []) d v h i e = ap (λ f. bound_by word (f ∷ raw_tree text y ∷ raw_tree text z ∷ [])) e ∙ ap (λ b. if b then Some v else None) i
let_binds text word (x ∷ y ∷ z ∷ u ∷ xs) d v h i e = absurd (omega arith)

pub ruleset binding_rules = (other_word_binds, plain_length, plain_first, let_binds)

bound_word : (x : Bool) (u v : Bytes) → (if x then Some u else None) ≡ Some v → (x ≡ true) × (u ≡ v)
bound_word true u v h = (refl, cc)
bound_word false u v h = cc

-- the arguments of a call that binds a variable
is_binding : (word : Bytes) (fs : List G.Raw) (v : Bytes) → bound_by word fs ≡ Some v → (is_let word ≡ true) × ((f : G.Raw) × (body : G.Raw) × (fs ≡ G.Raw.Var v ∷ f ∷ body ∷ []))
is_binding word (G.Raw.Var u ∷ f ∷ body ∷ []) v h = let p = bound_word (is_let word) u v h in (p.0, (f, body, ap (λ z. G.Raw.Var z ∷ f ∷ body ∷ []) p.1))
is_binding word fs v h = cc

record IsLet (text : Bytes) (word : Bytes) (xs : List Raw) (v : Bytes) (f body : Raw) : Type 0 where
  is_let : is_let word ≡ true
  arguments : plains text xs ≡ G.Raw.Var v ∷ raw_tree text f ∷ raw_tree text body ∷ []

let_by : (text : Bytes) (word : Bytes) (x y z : Raw) (v : Bytes) → (is_let word ≡ true) × ((f : G.Raw) × (body : G.Raw) × (plains text (x ∷ y ∷ z ∷ []) ≡ G.Raw.Var v ∷ f ∷ body ∷ [])) → IsLet text word (x ∷ y ∷ z ∷ []) v y z
let_by text word x y z v h =
    let k = h.1.2 in
    let e : raw_tree text x ≡ G.Raw.Var v = cc in
    record { is_let = h.0; arguments = ap (λ f. f ∷ raw_tree text y ∷ raw_tree text z ∷ []) e }

-- ---- the form

not_bound : (x : Bool) (v : Bytes) → (if x then Some v else None) ≡ None → x ≡ false
not_bound true v h = cc
not_bound false v h = refl

-- a call
pub plain_applied : (word : Bytes) (fs : List G.Raw) → bound_by word fs ≡ None → applied word (raws_of fs) ≡ G.Raw.Apply word (raws_of fs)
plain_applied word (G.Raw.Var v ∷ f ∷ body ∷ []) h = ap (λ z. if z then G.Raw.Let v f body else G.Raw.Apply word (raws_of (G.Raw.Var v ∷ f ∷ body ∷ []))) (not_bound (is_let word) v h)
plain_applied word fs h = refl

let_applied : (word : Bytes) (v : Bytes) (f body : G.Raw) → is_let word ≡ true → applied word (raws_of (G.Raw.Var v ∷ f ∷ body ∷ [])) ≡ G.Raw.Let v f body
let_applied word v f body h = ap (λ z. if z then G.Raw.Let v f body else G.Raw.Apply word (raws_of (G.Raw.Var v ∷ f ∷ body ∷ []))) h

-- LET, of the arguments as they are taken out of their list
pub let_taken : (text : Bytes) (word : Bytes) (xs ys : List Raw) (v : Bytes) (f body : Raw) → length xs ≡ 3 → bound_by word (plains text xs) ≡ Some v → f ≡ slice_index_or xs 1 f → ys ≡ remove xs 1 → body ≡ slice_index_or ys 1 body →
    G.Raw.Let v (raw_tree text f) (raw_tree text body) ≡ applied word (raws_of (plains text xs))
let_taken text word [] ys v f body h k m n o = absurd (omega arith)
let_taken text word (x ∷ []) ys v f body h k m n o = absurd (omega arith)
let_taken text word (x ∷ y ∷ []) ys v f body h k m n o = absurd (omega arith)
let_taken text word (x ∷ y ∷ z ∷ []) ys v f body h k m n o =
    let is = let_by text word x y z v (is_binding word (plains text (x ∷ y ∷ z ∷ [])) v k) in
    let e : body ≡ z = o ∙ ap (λ l. slice_index_or l 1 body) n in
    ap (λ g. G.Raw.Let v (raw_tree text g) (raw_tree text body)) m ∙ ap (λ g. G.Raw.Let v (raw_tree text y) (raw_tree text g)) e
    ∙ sym (ap (λ l. applied word (raws_of l)) is.arguments ∙ let_applied word v (raw_tree text y) (raw_tree text z) is.is_let)
let_taken text word (x ∷ y ∷ z ∷ u ∷ xs) ys v f body h k m n o = absurd (omega arith)
