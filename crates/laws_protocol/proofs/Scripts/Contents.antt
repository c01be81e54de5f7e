-- What is set or imported is a proper content.
use Rattle.std.specs.Prelude.{codes}
use Rattle.std.proofs.Common.{cond, ◌≡◌, ◌∙◌, ◌≤◌, nat_lt, nat_le, Bool, true, false, ◌&&◌, List, [], ◌∷◌, ◌++◌, length, Option, Some, None, refl, sym, subst, arith, IsTrue}
use Rattle.std.specs.Prelude.{ℤ, bytes_eq, ⊤}
use Rattle.std.specs.List.{list_all, AllByRecursion}
use Rattle.std.specs.Str.{IsUtf8, is_utf8}
use Rattle.std.proofs.lemmas.Str.{IsUtf8-from_is_utf8, is_utf8-from_IsUtf8}
use Rattle.std.proofs.lemmas.Bool.Decides.{nat_tests}
use Rattle.gl_calculus.specs.Grid.Limits.{max_text}
use Rattle.gl_calculus.specs.Grid.Grid.{Range, Addr, shifted}
use Rattle.gl_calculus.specs.Values.Operators.{exact}
use Rattle.gl_calculus.specs.Values.Value as V
use Rattle.gl_calculus.specs.Formulas.Formula.{Content, Const, Cells}
use Rattle.gl_language.specs.Texts.Text.{Bytes, truth_text}
use Rattle.gl_language.specs.Reading.Content.{IsProperContent}
use Rattle.gl_calculus.specs.Edits.Replicas.{Edit, is_stamp}
use Rattle.gl_protocol.specs.Scripts.Commands as C
use Rattle.gl_protocol.specs.Scripts.Commands.{Read, Is, Not, Request, ReadsContent, ReadsText, ReadsWords, ReadsLine, words_of, fields_of_record, fields, field_fault, contents, imported}
use Rattle.gl_language.specs.Texts.Plain.{signed_value, plain_scalar}
use Rattle.gl_script.proofs.Contents.{well_formed}
use Rattle.gl_script.proofs.Decoded.{decoded_text}
use Rattle.laws_protocol.proofs.Scripts.Texts.{text_of_set, text_of_edit, IsTextIn}

-- ---- plain texts

abbrev IsText : Bytes → Type 0
IsText t = IsTrue (is_utf8 t && nat_le (length t) max_text)

is_text : (t : Bytes) → is_utf8 t ≡ true → length t ≤ max_text → IsText t
is_text t u l =
    let m : nat_le (length t) max_text ≡ true = grind (arith, nat_tests) in
    rw (u, m) refl

abbrev PlainIsProper : Bytes → Type 0
PlainIsProper t = IsProperContent (Const (plain_scalar t))

number_plain : (t : Bytes) (n : ℤ) (x : V.Scalar) → signed_value t ≡ Some n → exact n ≡ x → IsText t → PlainIsProper t
number_plain t n (V.Scalar.Int m) h e p = rw (h, e) tt
number_plain t n V.Scalar.Blank h e p = rw (h, e) p
number_plain t n (V.Scalar.Bool b) h e p = rw (h, e) p
number_plain t n (V.Scalar.Text u) h e p = rw (h, e) p
number_plain t n (V.Scalar.Err k) h e p = rw (h, e) p
number_plain t n (V.Scalar.Sheet s) h e p = rw (h, e) p

word_plain : (t : Bytes) (u v : Bool) → signed_value t ≡ None → bytes_eq t (truth_text true) ≡ u → bytes_eq t (truth_text false) ≡ v → IsText t → PlainIsProper t
word_plain t true v h e f p = rw (h, e) tt
word_plain t false true h e f p = rw (h, e, f) tt
word_plain t false false h e f p = rw (h, e, f) p

plain_proper : (t : Bytes) → is_utf8 t ≡ true → length t ≤ max_text → PlainIsProper t
plain_proper t u l = by (signed_value t) refl
  where
    by : (o : Option ℤ) → signed_value t ≡ o → PlainIsProper t
    by (Some n) h = number_plain t n (exact n) h refl (is_text t u l)
    by None h = word_plain t (bytes_eq t (truth_text true)) (bytes_eq t (truth_text false)) h refl refl (is_text t u l)

-- ---- what is set

abbrev IfProper : Read Content → Type 0
IfProper (Is c) = IsProperContent c
IfProper (Not w) = ⊤

read_proper : {t : Bytes} {x : Read Content} → ReadsContent t x → IsUtf8 t → IfProper x
read_proper (C.ReadsContent.formula {t = t} {f = f} p) u = well_formed t f p
read_proper (C.ReadsContent.fault p) u = tt
read_proper (C.ReadsContent.literal {t = t} d l) u = is_text t (is_utf8-from_IsUtf8 t (decoded_text d u)) l
read_proper (C.ReadsContent.no_literal h) u = tt
read_proper (C.ReadsContent.plain {b = b} {t = t} p q l) u = plain_proper (b ∷ t) (is_utf8-from_IsUtf8 (b ∷ t) u) l
read_proper (C.ReadsContent.number p q l e) u = tt
read_proper (C.ReadsContent.long p q l h) u = tt

abbrev pub IsProperOption : Option Content → Type 0
IsProperOption (Some c) = IsProperContent c
IsProperOption None = ⊤

abbrev IfProperText : Read (Option Content) → Type 0
IfProperText (Is o) = IsProperOption o
IfProperText (Not w) = ⊤

text_proper : {o : Option Bytes} {x : Read (Option Content)} → ReadsText o x → IsTextIn o → IfProperText x
text_proper C.ReadsText.no_text u = tt
text_proper (C.ReadsText.text {r = Is c} r) u = read_proper r u
text_proper (C.ReadsText.text {r = Not w} r) u = tt

-- what is set is proper, and an edit has a stamp
abbrev IfSet : Read Request → Type 0
IfSet (Is (C.Request.Set a c)) = IsProperContent c
IfSet (Is (C.Request.Merge e)) = IsTrue (is_stamp e.stamp.time e.stamp.site) × IsProperOption e.content
IfSet x = ⊤

view_set : (b : Bool) (x : Range) → IfSet (cond b (Is (C.Request.View x)) (Not (codes "range")))
view_set true x = tt
view_set false x = tt

words_set : (l : Bytes) {ws : C.Words} {x : Read Request} → IsUtf8 l → words_of l ≡ Some ws → ReadsWords ws x → IfSet x
words_set l u h C.ReadsWords.list = tt
words_set l u h C.ReadsWords.calc = tt
words_set l u h C.ReadsWords.oracle = tt
words_set l u h C.ReadsWords.quit = tt
words_set l u h C.ReadsWords.export = tt
words_set l u h C.ReadsWords.undo = tt
words_set l u h C.ReadsWords.redo = tt
words_set l u h C.ReadsWords.flow = tt
words_set l u h C.ReadsWords.site = tt
words_set l u h (C.ReadsWords.edit {t = t} {n = n} {place = place} {text = o} {r = Is c} a k b r) = (b, text_proper r (text_of_edit l t n place o h u))
words_set l u h (C.ReadsWords.edit {r = Not w} a k b r) = tt
words_set l u h (C.ReadsWords.edit_stamp a k b) = tt
words_set l u h (C.ReadsWords.edit_place n) = tt
words_set l u h (C.ReadsWords.set {place = place} {t = t} {r = Is c} a k r) = read_proper r (text_of_set l place t h u)
words_set l u h (C.ReadsWords.set {r = Not w} a k r) = tt
words_set l u h (C.ReadsWords.set_place n) = tt
words_set l u h (C.ReadsWords.clear {r = Is x} r) = tt
words_set l u h (C.ReadsWords.clear {r = Not w} r) = tt
words_set l u h (C.ReadsWords.view {r = x} r) = view_set (C.is_viewable x) x
words_set l u h (C.ReadsWords.view_place r) = tt
words_set l u h (C.ReadsWords.show k) = tt
words_set l u h (C.ReadsWords.show_place n) = tt
words_set l u h (C.ReadsWords.get k) = tt
words_set l u h (C.ReadsWords.get_place n) = tt
words_set l u h (C.ReadsWords.why_of k) = tt
words_set l u h (C.ReadsWords.why_place n) = tt
words_set l u h (C.ReadsWords.explain k) = tt
words_set l u h (C.ReadsWords.explain_place n) = tt
words_set l u h (C.ReadsWords.payload k) = tt

line_set : {l : Bytes} {x : Read Request} → ReadsLine l x → IfSet x
line_set (C.ReadsLine.comment c) = tt
line_set (C.ReadsLine.utf8 n u) = tt
line_set (C.ReadsLine.command n u w) = tt
line_set {l = l} (C.ReadsLine.words n u w r) = words_set l (IsUtf8-from_is_utf8 l u) w r

-- what a line sets is proper
pub set_proper : (l : Bytes) (a : Addr) (c : Content) → ReadsLine l (Is (C.Request.Set a c)) → IsProperContent c
set_proper l a c h = line_set h

pub merged_proper : (l : Bytes) (e : Edit) → ReadsLine l (Is (C.Request.Merge e)) → IsTrue (is_stamp e.stamp.time e.stamp.site) × IsProperOption e.content
merged_proper l e h = line_set h

-- ---- what is imported

abbrev AllTexts : List (Addr × Bytes) → Type 0
AllTexts xs = AllByRecursion (λ x. IsTrue (is_utf8 x.1)) xs

both : (b c : Bool) → (b && c) ≡ true → (b ≡ true) × (c ≡ true)
both true c h = (refl, h)
both false c h = cc h

record_texts : (a : Addr) (ts : List Bytes) → list_all is_utf8 ts ≡ true → AllTexts (fields_of_record a ts)
record_texts a [] h = tt
record_texts a ([] ∷ ts) h = record_texts (shifted a 0 1) ts (both (is_utf8 []) (list_all is_utf8 ts) h).1
record_texts a ((b ∷ bs) ∷ ts) h = let p = both (is_utf8 (b ∷ bs)) (list_all is_utf8 ts) h in (p.0, record_texts (shifted a 0 1) ts p.1)

texts_append : (xs ys : List (Addr × Bytes)) → AllTexts xs → AllTexts ys → AllTexts (xs ++ ys)
texts_append [] ys h k = k
texts_append (x ∷ xs) ys h k = (h.0, texts_append xs ys h.1 k)

field_texts : (a : Addr) (rs : List (List Bytes)) → list_all (list_all is_utf8) rs ≡ true → AllTexts (fields a rs)
field_texts a [] h = tt
field_texts a (r ∷ rs) h =
    let p = both (list_all is_utf8 r) (list_all (list_all is_utf8) rs) h in
    texts_append (fields_of_record a r) (fields (shifted a 1 0) rs) (record_texts a r p.0) (field_texts (shifted a 1 0) rs p.1)

abbrev AllProper : Read Cells → Type 0
AllProper (Is cs) = AllByRecursion (λ x. IsProperContent x.1) cs
AllProper (Not w) = ⊤

field_short : (x : Addr × Bytes) → field_fault x ≡ None → length x.1 ≤ max_text
field_short x h = by (nat_lt max_text (length x.1)) refl
  where
    by : (b : Bool) → nat_lt max_text (length x.1) ≡ b → length x.1 ≤ max_text
    by true k = let e : field_fault x ≡ Some (codes "field") = rw k refl in let i : None ≡ Some (codes "field") = sym h ∙ e in cc i
    by false k = grind (arith, nat_tests, k)

contents_proper : (xs : List (Addr × Bytes)) → AllTexts xs → AllProper (contents xs)
contents_proper [] h = tt
contents_proper (x ∷ xs) h = by (field_fault x) (contents xs) refl refl (contents_proper xs h.1)
  where
    by : (o : Option Bytes) (r : Read Cells) → field_fault x ≡ o → contents xs ≡ r → AllProper r → AllProper (contents (x ∷ xs))
    by (Some w) r e k all = rw e tt
    by None (Is cs) e k all = rw (e, k) (plain_proper x.1 h.0 (field_short x e), all)
    by None (Not w) e k all = rw (e, k) tt

imported_all : (a : Addr) (rs : List (List Bytes)) → AllProper (imported a rs)
imported_all a rs = by (list_all (list_all is_utf8) rs) refl
  where
    by : (b : Bool) → list_all (list_all is_utf8) rs ≡ b → AllProper (imported a rs)
    by true h = rw h (contents_proper (fields a rs) (field_texts a rs h))
    by false h = rw h tt

-- what is imported is proper
pub imported_proper : (a : Addr) (rs : List (List Bytes)) (cs : Cells) → imported a rs ≡ Is cs → AllByRecursion (λ x. IsProperContent x.1) cs
imported_proper a rs cs h = subst AllProper h (imported_all a rs)
