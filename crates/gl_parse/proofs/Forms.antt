-- The language's form of each form.
use Rattle.std.proofs.Common.{◌≡◌, ◌≢◌, ◌<◌, ℤ, Bool, List, [], ◌∷◌, ◌++◌, refl, length, ap, sym, ◌∙◌, arith}
use Rattle.std.proofs.lemmas.Simd.{map-map}
use Rattle.std.specs.declared.alloc.Global.{Global}
use Rattle.std.specs.declared.boxed.Box.{Box}
use Rattle.std.specs.declared.vec.Vec.{Vec}
use Rattle.std.specs.declared.rc.RcStr.{RcStr}
use Rattle.std.specs.Rc.{rc_str_bytes}
use Rattle.gl_calculus.specs.Grid.Grid.{Addr}
use Rattle.gl_calculus.specs.Formulas.Formula as F
use Rattle.gl_language.specs.Texts.Text.{Bytes}
use Rattle.gl_language.specs.Reading.Token as T
use Rattle.gl_language.specs.Reading.Token.{Signed}
use Rattle.gl_language.specs.Reading.Grammar.{Tokens, chained}
use Rattle.gl_language.specs.Reading.Grammar as G
use Rattle.gl_lex.specs.declared.Sign.{Sign}
use Rattle.gl_lex.specs.declared.Sign.TheVariants as s
use Rattle.gl_lex.specs.View.{number, sign_of}
use Rattle.gl_ast.specs.declared.Level.{Level}
use Rattle.gl_ast.specs.declared.Op.{Op}
use Rattle.gl_ast.specs.View.{level_tree, op_tree}
use Rattle.gl_parse.specs.declared.raw.Span.{Span}
use Rattle.gl_parse.specs.declared.raw.Raw.{Raw}
use Rattle.gl_parse.specs.declared.raw.Raw.TheVariants as r
use Rattle.gl_parse.specs.declared.raw.Raw.TheOpen.{Raw-F}
use Rattle.gl_parse.specs.declared.raw.Raw.TheFolds.{fold-roll-Raw}
use Rattle.gl_parse.specs.Raws.{layer, raw_tree, letters, links, raws_of, pairs, plains}

pub tree-Number : (text : Bytes) (n : ℤ) → raw_tree text (r.Number n) ≡ G.Raw.Number (number n)
unfolding raw_tree
tree-Number text n = ap (raw_tree text) (sym (r.rolls-Number n)) ∙ fold-roll-Raw G.Raw (layer text) (Raw-F.Number n)

pub tree-Text : (text : Bytes) (t : RcStr Global) → raw_tree text (r.Text t) ≡ G.Raw.Text (rc_str_bytes t)
unfolding raw_tree
tree-Text text t = ap (raw_tree text) (sym (r.rolls-Text t)) ∙ fold-roll-Raw G.Raw (layer text) (Raw-F.Text t)

pub tree-Bool : (text : Bytes) (b : Bool) → raw_tree text (r.Bool b) ≡ G.Raw.Boolean b
unfolding raw_tree
tree-Bool text b = ap (raw_tree text) (sym (r.rolls-Bool b)) ∙ fold-roll-Raw G.Raw (layer text) (Raw-F.Bool b)

pub tree-At : (text : Bytes) (a : Addr) → raw_tree text (r.At a) ≡ G.Raw.At a
unfolding raw_tree
tree-At text a = ap (raw_tree text) (sym (r.rolls-At a)) ∙ fold-roll-Raw G.Raw (layer text) (Raw-F.At a)

pub tree-Spill : (text : Bytes) (a : Addr) → raw_tree text (r.Spill a) ≡ G.Raw.Spill a
unfolding raw_tree
tree-Spill text a = ap (raw_tree text) (sym (r.rolls-Spill a)) ∙ fold-roll-Raw G.Raw (layer text) (Raw-F.Spill a)

pub tree-Corners : (text : Bytes) (a b : Addr) → raw_tree text (r.Corners a b) ≡ G.Raw.Corners a b
unfolding raw_tree
tree-Corners text a b = ap (raw_tree text) (sym (r.rolls-Corners a b)) ∙ fold-roll-Raw G.Raw (layer text) (Raw-F.Corners a b)

pub tree-Var : (text : Bytes) (v : Span) → raw_tree text (r.Var v) ≡ G.Raw.Var (letters text v)
unfolding raw_tree
tree-Var text v = ap (raw_tree text) (sym (r.rolls-Var v)) ∙ fold-roll-Raw G.Raw (layer text) (Raw-F.Var v)

pub tree-Neg : (text : Bytes) (f : Box Raw Global) → raw_tree text (r.Neg f) ≡ G.Raw.Neg (raw_tree text f.value)
unfolding raw_tree
tree-Neg text f = ap (raw_tree text) (sym (r.rolls-Neg f)) ∙ fold-roll-Raw G.Raw (layer text) (Raw-F.Neg f)

pub tree-Chain : (text : Bytes) (l : Level) (f : Box Raw Global) (rest : Vec (Op × Raw) Global) → raw_tree text (r.Chain l f rest) ≡ G.Raw.Chain (level_tree l) (raw_tree text f.value) (links (pairs text rest.items))
unfolding raw_tree
tree-Chain text l f rest =
    ap (raw_tree text) (sym (r.rolls-Chain l f rest)) ∙ fold-roll-Raw G.Raw (layer text) (Raw-F.Chain l f rest)
    ∙ ap (λ z. G.Raw.Chain (level_tree l) (raw_tree text f.value) (links z)) (map-map (λ (p : Op × G.Raw). (op_tree p.0, p.1)) (λ (p : Op × Raw). (p.0, raw_tree text p.1)) rest.items)

pub tree-Compare : (text : Bytes) (o : Op) (f g : Box Raw Global) → raw_tree text (r.Compare o f g) ≡ G.Raw.Compare (op_tree o) (raw_tree text f.value) (raw_tree text g.value)
unfolding raw_tree
tree-Compare text o f g = ap (raw_tree text) (sym (r.rolls-Compare o f g)) ∙ fold-roll-Raw G.Raw (layer text) (Raw-F.Compare o f g)

pub tree-Let : (text : Bytes) (name : Span) (f body : Box Raw Global) → raw_tree text (r.Let name f body) ≡ G.Raw.Let (letters text name) (raw_tree text f.value) (raw_tree text body.value)
unfolding raw_tree
tree-Let text name f body = ap (raw_tree text) (sym (r.rolls-Let name f body)) ∙ fold-roll-Raw G.Raw (layer text) (Raw-F.Let name f body)

pub tree-Apply : (text : Bytes) (word : Span) (xs : Vec Raw Global) → raw_tree text (r.Apply word xs) ≡ G.Raw.Apply (letters text word) (raws_of (plains text xs.items))
unfolding raw_tree
tree-Apply text word xs = ap (raw_tree text) (sym (r.rolls-Apply word xs)) ∙ fold-roll-Raw G.Raw (layer text) (Raw-F.Apply word xs)

-- ---- forms as they are made

pub text_is : (text : Bytes) (t : RcStr Global) (bs : Bytes) → rc_str_bytes t ≡ bs → raw_tree text (r.Text t) ≡ G.Raw.Text bs
text_is text t bs h = tree-Text text t ∙ ap G.Raw.Text h

pub neg_is : (text : Bytes) (f : Box Raw Global) (x : Raw) → f.value ≡ x → raw_tree text (r.Neg f) ≡ G.Raw.Neg (raw_tree text x)
neg_is text f x h = tree-Neg text f ∙ ap (λ z. G.Raw.Neg (raw_tree text z)) h

pub compare_is : (text : Bytes) (o : Op) (f g : Box Raw Global) (x y : Raw) → f.value ≡ x → g.value ≡ y → raw_tree text (r.Compare o f g) ≡ G.Raw.Compare (op_tree o) (raw_tree text x) (raw_tree text y)
compare_is text o f g x y h i = tree-Compare text o f g ∙ ap (λ z. G.Raw.Compare (op_tree o) (raw_tree text z) (raw_tree text g.value)) h ∙ ap (λ z. G.Raw.Compare (op_tree o) (raw_tree text x) (raw_tree text z)) i

pub let_is : (text : Bytes) (name : Span) (f body : Box Raw Global) (x y : Raw) → f.value ≡ x → body.value ≡ y → raw_tree text (r.Let name f body) ≡ G.Raw.Let (letters text name) (raw_tree text x) (raw_tree text y)
let_is text name f body x y h i = tree-Let text name f body ∙ ap (λ z. G.Raw.Let (letters text name) (raw_tree text z) (raw_tree text body.value)) h ∙ ap (λ z. G.Raw.Let (letters text name) (raw_tree text x) (raw_tree text z)) i

-- a repetition with an operator
chained_some : (text : Bytes) (z f : G.Raw) (l : F.Level) (items : List (Op × Raw)) → 0 < length items → z ≡ G.Raw.Chain l f (links (pairs text items)) → z ≡ chained l f (links (pairs text items))
chained_some text z f l [] h e = absurd (omega arith)
chained_some text z f l (p ∷ ps) h e = e

pub chain_is : (text : Bytes) (l : Level) (f : Box Raw Global) (v : Vec (Op × Raw) Global) (x : Raw) → f.value ≡ x → 0 < length v.items → raw_tree text (r.Chain l f v) ≡ chained (level_tree l) (raw_tree text x) (links (pairs text v.items))
chain_is text l f v x h i = chained_some text (raw_tree text (r.Chain l f v)) (raw_tree text x) (level_tree l) v.items i (tree-Chain text l f v ∙ ap (λ z. G.Raw.Chain (level_tree l) (raw_tree text z) (links (pairs text v.items))) h)

-- one without
pub chained_none : (text : Bytes) (x : Raw) (l : Level) (items : List (Op × Raw)) → length items ≡ 0 → raw_tree text x ≡ chained (level_tree l) (raw_tree text x) (links (pairs text items))
chained_none text x l [] h = refl
chained_none text x l (p ∷ ps) h = absurd (omega arith)

pairs_push : (text : Bytes) (items : List (Op × Raw)) (o : Op) (x : Raw) → pairs text (items ++ (o, x) ∷ []) ≡ pairs text items ++ (op_tree o, raw_tree text x) ∷ []
pairs_push text [] o x = refl
pairs_push text (p ∷ ps) o x = ap (λ z. (op_tree p.0, raw_tree text p.1) ∷ z) (pairs_push text ps o x)

pub pairs_pushed : (text : Bytes) (items longer : List (Op × Raw)) (o : Op) (x : Raw) → longer ≡ items ++ (o, x) ∷ [] → pairs text longer ≡ pairs text items ++ (op_tree o, raw_tree text x) ∷ []
pairs_pushed text items longer o x h = ap (pairs text) h ∙ pairs_push text items o x

plains_push : (text : Bytes) (items : List Raw) (x : Raw) → plains text (items ++ x ∷ []) ≡ plains text items ++ raw_tree text x ∷ []
plains_push text [] x = refl
plains_push text (p ∷ ps) x = ap (λ z. raw_tree text p ∷ z) (plains_push text ps x)

pub plains_pushed : (text : Bytes) (items longer : List Raw) (x : Raw) → longer ≡ items ++ x ∷ [] → plains text longer ≡ plains text items ++ raw_tree text x ∷ []
plains_pushed text items longer x h = ap (plains text) h ∙ plains_push text items x

-- ---- signs

abbrev sign_back : T.Sign → Sign
sign_back (T.Sign.Operator F.Op.Eq) = s.Eq
sign_back (T.Sign.Operator F.Op.Ne) = s.Ne
sign_back (T.Sign.Operator F.Op.Lt) = s.Lt
sign_back (T.Sign.Operator F.Op.Le) = s.Le
sign_back (T.Sign.Operator F.Op.Gt) = s.Gt
sign_back (T.Sign.Operator F.Op.Ge) = s.Ge
sign_back (T.Sign.Operator F.Op.Join) = s.Join
sign_back (T.Sign.Operator F.Op.Add) = s.Plus
sign_back (T.Sign.Operator F.Op.Sub) = s.Minus
sign_back (T.Sign.Operator F.Op.Mul) = s.Times
sign_back (T.Sign.Operator F.Op.Div) = s.Over
sign_back T.Sign.Hash = s.Hash
sign_back T.Sign.LeftParen = s.LeftParen
sign_back T.Sign.RightParen = s.RightParen
sign_back T.Sign.Comma = s.Comma
sign_back T.Sign.Colon = s.Colon

back_is : (a : Sign) → sign_back (sign_of a) ≡ a
back_is s.Eq = refl
back_is s.Ne = refl
back_is s.Lt = refl
back_is s.Le = refl
back_is s.Gt = refl
back_is s.Ge = refl
back_is s.Join = refl
back_is s.Plus = refl
back_is s.Minus = refl
back_is s.Times = refl
back_is s.Over = refl
back_is s.Hash = refl
back_is s.LeftParen = refl
back_is s.RightParen = refl
back_is s.Comma = refl
back_is s.Colon = refl

-- one sign in front is no other one
pub other_sign : (ts us vs : Tokens) (a b : Sign) → ts ≡ Signed (sign_of a) ∷ us → a ≢ b → ts ≡ Signed (sign_of b) ∷ vs → ⊥
other_sign ts us vs a b h d i =
    let e : sign_of a ≡ sign_of b = cc in
    d (sym (back_is a) ∙ ap sign_back e ∙ back_is b)
