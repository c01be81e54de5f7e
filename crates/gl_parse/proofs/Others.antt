-- The language's form of a form that is none of some kinds.
use Rattle.std.proofs.Common.{◌≡◌, Bool, false, List, ap, sym, subst, ◌∙◌}
use Rattle.std.specs.declared.alloc.Global.{Global}
use Rattle.std.specs.declared.boxed.Box.{Box}
use Rattle.std.specs.declared.vec.Vec.{Vec}
use Rattle.gl_calculus.specs.Grid.Grid.{Addr}
use Rattle.gl_language.specs.Texts.Text.{Bytes}
use Rattle.gl_language.specs.Reading.Grammar as G
use Rattle.gl_ast.specs.declared.Level.{Level}
use Rattle.gl_ast.specs.declared.Op.{Op}
use Rattle.gl_parse.specs.declared.raw.Span.{Span}
use Rattle.gl_parse.specs.declared.raw.Raw.{Raw, roll-Raw, out-Raw, roll-out-Raw, map-Raw}
use Rattle.gl_parse.specs.declared.raw.Raw.TheVariants as r
use Rattle.gl_parse.specs.declared.raw.Raw.TheOpen.{Raw-F}
use Rattle.gl_parse.specs.declared.raw.Raw.TheFolds.{fold-roll-Raw}
use Rattle.gl_parse.specs.Raws.{layer, raw_tree}
use Rattle.gl_parse.specs.Reading.{is_variable}

-- what holds of each form that is made of one level holds of every form
by_level : (P : Raw → Type 0) → ((l : Raw-F Raw) → P (roll-Raw l)) → (x : Raw) → P x
by_level P h x = subst P (roll-out-Raw x) (h (out-Raw x))

-- the language's form of one level
level_tree : (text : Bytes) (l : Raw-F Raw) → raw_tree text (roll-Raw l) ≡ layer text (map-Raw Raw G.Raw (raw_tree text) l)
unfolding raw_tree
level_tree text l = fold-roll-Raw G.Raw (layer text) l

-- that a form isn't of a kind
abbrev pub NotAt : Raw → Type 0
NotAt x = (a : Addr) → x ≡ r.At a → ⊥

abbrev pub NotCorners : Raw → Type 0
NotCorners x = (a b : Addr) → x ≡ r.Corners a b → ⊥

abbrev pub NotVar : Raw → Type 0
NotVar x = (name : Span) → x ≡ r.Var name → ⊥

abbrev pub NotNeg : Raw → Type 0
NotNeg x = (f : Box Raw Global) → x ≡ r.Neg f → ⊥

abbrev pub NotChain : Raw → Type 0
NotChain x = (l : Level) (f : Box Raw Global) (rest : Vec (Op × Raw) Global) → x ≡ r.Chain l f rest → ⊥

abbrev pub NotCompare : Raw → Type 0
NotCompare x = (op : Op) (f g : Box Raw Global) → x ≡ r.Compare op f g → ⊥

abbrev pub NotLet : Raw → Type 0
NotLet x = (name : Span) (f body : Box Raw Global) → x ≡ r.Let name f body → ⊥

abbrev pub NotApply : Raw → Type 0
NotApply x = (word : Span) (xs : Vec Raw Global) → x ≡ r.Apply word xs → ⊥

pub no_address : (text : Bytes) (x : Raw) → NotAt x → G.is_address (raw_tree text x) ≡ false
no_address text = by_level (λ x. NotAt x → G.is_address (raw_tree text x) ≡ false) levels
  where
    levels : (l : Raw-F Raw) → NotAt (roll-Raw l) → G.is_address (raw_tree text (roll-Raw l)) ≡ false
    levels (Raw-F.At a) h = absurd (h a (r.rolls-At a))
    levels l h = ap G.is_address (level_tree text l)

pub no_place : (text : Bytes) (x : Raw) → NotAt x → NotCorners x → G.is_place (raw_tree text x) ≡ false
no_place text = by_level (λ x. NotAt x → NotCorners x → G.is_place (raw_tree text x) ≡ false) levels
  where
    levels : (l : Raw-F Raw) → NotAt (roll-Raw l) → NotCorners (roll-Raw l) → G.is_place (raw_tree text (roll-Raw l)) ≡ false
    levels (Raw-F.At a) h k = absurd (h a (r.rolls-At a))
    levels (Raw-F.Corners a b) h k = absurd (k a b (r.rolls-Corners a b))
    levels l h k = ap G.is_place (level_tree text l)

pub no_variable : (text : Bytes) (x : Raw) → NotVar x → is_variable (raw_tree text x) ≡ false
no_variable text = by_level (λ x. NotVar x → is_variable (raw_tree text x) ≡ false) levels
  where
    levels : (l : Raw-F Raw) → NotVar (roll-Raw l) → is_variable (raw_tree text (roll-Raw l)) ≡ false
    levels (Raw-F.Var name) h = absurd (h name (r.rolls-Var name))
    levels l h = ap is_variable (level_tree text l)

pub no_range : (text : Bytes) (x : Raw) → NotCorners x → G.is_bad_range (raw_tree text x) ≡ false
no_range text = by_level (λ x. NotCorners x → G.is_bad_range (raw_tree text x) ≡ false) levels
  where
    levels : (l : Raw-F Raw) → NotCorners (roll-Raw l) → G.is_bad_range (raw_tree text (roll-Raw l)) ≡ false
    levels (Raw-F.Corners a b) h = absurd (h a b (r.rolls-Corners a b))
    levels l h = ap G.is_bad_range (level_tree text l)

pub no_call : (text : Bytes) (x : Raw) → NotApply x → G.is_bad_call (raw_tree text x) ≡ false
no_call text = by_level (λ x. NotApply x → G.is_bad_call (raw_tree text x) ≡ false) levels
  where
    levels : (l : Raw-F Raw) → NotApply (roll-Raw l) → G.is_bad_call (raw_tree text (roll-Raw l)) ≡ false
    levels (Raw-F.Apply word xs) h = absurd (h word xs (r.rolls-Apply word xs))
    levels l h = ap G.is_bad_call (level_tree text l)

-- a form without parts holds no form but itself
pub no_part : (text : Bytes) (test : G.Raw → Bool) (x : Raw) → NotNeg x → NotChain x → NotCompare x → NotLet x → NotApply x → G.some_form test (raw_tree text x) ≡ test (raw_tree text x)
no_part text test = by_level (λ x. NotNeg x → NotChain x → NotCompare x → NotLet x → NotApply x → G.some_form test (raw_tree text x) ≡ test (raw_tree text x)) levels
  where
    levels : (l : Raw-F Raw) → NotNeg (roll-Raw l) → NotChain (roll-Raw l) → NotCompare (roll-Raw l) → NotLet (roll-Raw l) → NotApply (roll-Raw l) → G.some_form test (raw_tree text (roll-Raw l)) ≡ test (raw_tree text (roll-Raw l))
    levels (Raw-F.Neg f) n c o b a = absurd (n f (r.rolls-Neg f))
    levels (Raw-F.Chain l f rest) n c o b a = absurd (c l f rest (r.rolls-Chain l f rest))
    levels (Raw-F.Compare op f g) n c o b a = absurd (o op f g (r.rolls-Compare op f g))
    levels (Raw-F.Let name f body) n c o b a = absurd (b name f body (r.rolls-Let name f body))
    levels (Raw-F.Apply word xs) n c o b a = absurd (a word xs (r.rolls-Apply word xs))
    levels l n c o b a = ap (G.some_form test) (level_tree text l) ∙ sym (ap test (level_tree text l))

-- nor does it hold a name, where it is no variable
pub no_name : (text : Bytes) (names : List Bytes) (x : Raw) → NotVar x → NotNeg x → NotChain x → NotCompare x → NotLet x → NotApply x → G.has_bad_name names (raw_tree text x) ≡ false
no_name text names = by_level (λ x. NotVar x → NotNeg x → NotChain x → NotCompare x → NotLet x → NotApply x → G.has_bad_name names (raw_tree text x) ≡ false) levels
  where
    levels : (l : Raw-F Raw) → NotVar (roll-Raw l) → NotNeg (roll-Raw l) → NotChain (roll-Raw l) → NotCompare (roll-Raw l) → NotLet (roll-Raw l) → NotApply (roll-Raw l) → G.has_bad_name names (raw_tree text (roll-Raw l)) ≡ false
    levels (Raw-F.Var name) v n c o b a = absurd (v name (r.rolls-Var name))
    levels (Raw-F.Neg f) v n c o b a = absurd (n f (r.rolls-Neg f))
    levels (Raw-F.Chain l f rest) v n c o b a = absurd (c l f rest (r.rolls-Chain l f rest))
    levels (Raw-F.Compare op f g) v n c o b a = absurd (o op f g (r.rolls-Compare op f g))
    levels (Raw-F.Let name f body) v n c o b a = absurd (b name f body (r.rolls-Let name f body))
    levels (Raw-F.Apply word xs) v n c o b a = absurd (a word xs (r.rolls-Apply word xs))
    levels l v n c o b a = ap (G.has_bad_name names) (level_tree text l)
