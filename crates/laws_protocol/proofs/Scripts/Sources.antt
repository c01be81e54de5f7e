-- What a line sets, an edit brings or an import gives is at an address of the grid, and is read from its own text.
use Rattle.std.specs.Prelude.{codes}
use Rattle.std.proofs.Common.{◌≡◌, ◌∙◌, nat_lt, Bool, true, false, cond, List, [], ◌∷◌, length, Option, Some, None, refl, sym, ap, subst, IsTrue}
use Rattle.std.specs.Prelude.{⊤}
use Rattle.std.specs.List.{AllByRecursion, list_all}
use Rattle.std.specs.Str.{is_utf8}
use Rattle.gl_calculus.specs.Grid.Limits.{max_text}
use Rattle.gl_calculus.specs.Grid.Grid.{Range, Addr, grid, covers, same_addr}
use Rattle.gl_calculus.specs.Formulas.Formula.{Content, Cells, IsSheet, content}
use Rattle.gl_calculus.proofs.Tests.{addr_exact, addr_same}
use Rattle.gl_language.specs.Texts.Text.{Bytes, content_text}
use Rattle.gl_language.specs.Reading.Content.{IsProperContent}
use Rattle.gl_calculus.specs.Edits.Replicas.{Edit}
use Rattle.gl_protocol.specs.Scripts.Commands as C
use Rattle.gl_protocol.specs.Scripts.Commands.{Read, Is, Not, Request, ReadsContent, ReadsText, ReadsWords, ReadsLine, fields, field_fault, contents, imported}
use Rattle.laws_calculus.proofs.SheetEdits.SameSheets.{nothing_before}
use Rattle.laws_protocol.proofs.Scripts.Rising.{imported_rise}
use Rattle.gl_script.proofs.ReadsBack.{set_reads_back, import_reads_back}
use Rattle.laws_protocol.proofs.Scripts.Contents.{IsProperOption, set_proper, merged_proper, imported_proper}
use Rattle.laws_protocol.proofs.Scripts.Listed.{IsListed}
use Rattle.laws_protocol.proofs.Scripts.Carried.{Comes, HoldsOfAll}

-- ---- lines

abbrev IsBack : Content → Type 0
IsBack c = ReadsContent (content_text c) (Is c)

abbrev IsBackOption : Option Content → Type 0
IsBackOption (Some c) = IsBack c
IsBackOption None = ⊤

abbrev IfBackOption : Read (Option Content) → Type 0
IfBackOption (Is o) = IsBackOption o
IfBackOption (Not w) = ⊤

text_back : {o : Option Bytes} {x : Read (Option Content)} → ReadsText o x → IfBackOption x
text_back C.ReadsText.no_text = tt
text_back (C.ReadsText.text {t = t} {r = Is c} r) = set_reads_back t c r
text_back (C.ReadsText.text {r = Not w} r) = tt

-- what is set, or comes with an edit
abbrev IfSet : Read Request → Type 0
IfSet (Is (C.Request.Set a c)) = IsTrue (covers grid a) × IsBack c
IfSet (Is (C.Request.Merge e)) = IsTrue (covers grid e.place) × IsBackOption e.content
IfSet x = ⊤

view_set : (b : Bool) (x : Range) → IfSet (cond b (Is (C.Request.View x)) (Not (codes "range")))
view_set true x = tt
view_set false x = tt

words_set : {ws : C.Words} {x : Read Request} → ReadsWords ws x → IfSet x
words_set C.ReadsWords.list = tt
words_set C.ReadsWords.calc = tt
words_set C.ReadsWords.oracle = tt
words_set C.ReadsWords.quit = tt
words_set C.ReadsWords.export = tt
words_set C.ReadsWords.undo = tt
words_set C.ReadsWords.redo = tt
words_set C.ReadsWords.flow = tt
words_set C.ReadsWords.site = tt
words_set (C.ReadsWords.edit {r = Is c} a k b r) = (k.0, text_back r)
words_set (C.ReadsWords.edit {r = Not w} a k b r) = tt
words_set (C.ReadsWords.edit_stamp a k b) = tt
words_set (C.ReadsWords.edit_place n) = tt
words_set (C.ReadsWords.set {t = t} {r = Is c} a k r) = (k.0, set_reads_back t c r)
words_set (C.ReadsWords.set {r = Not w} a k r) = tt
words_set (C.ReadsWords.set_place n) = tt
words_set (C.ReadsWords.clear {r = Is x} r) = tt
words_set (C.ReadsWords.clear {r = Not w} r) = tt
words_set (C.ReadsWords.view {r = x} r) = view_set (C.is_viewable x) x
words_set (C.ReadsWords.view_place r) = tt
words_set (C.ReadsWords.show k) = tt
words_set (C.ReadsWords.show_place n) = tt
words_set (C.ReadsWords.get k) = tt
words_set (C.ReadsWords.get_place n) = tt
words_set (C.ReadsWords.why_of k) = tt
words_set (C.ReadsWords.why_place n) = tt
words_set (C.ReadsWords.explain k) = tt
words_set (C.ReadsWords.explain_place n) = tt
words_set (C.ReadsWords.payload k) = tt

line_set : {l : Bytes} {x : Read Request} → ReadsLine l x → IfSet x
line_set (C.ReadsLine.comment c) = tt
line_set (C.ReadsLine.utf8 n u) = tt
line_set (C.ReadsLine.command n u w) = tt
line_set (C.ReadsLine.words n u w r) = words_set r

set_listed : (l : Bytes) (a : Addr) (c : Content) → ReadsLine l (Is (C.Request.Set a c)) → IsListed (a, c)
set_listed l a c h = let k = line_set h in record { on = k.0; proper = set_proper l a c h; back = k.1 }

comes_by : (a : Addr) (o : Option Content) → IsTrue (covers grid a) → IsProperOption o → IsBackOption o → Comes IsListed a o
comes_by a (Some c) on p b = record { on = on; proper = p; back = b }
comes_by a None on p b = tt

merged_listed : (l : Bytes) (e : Edit) → ReadsLine l (Is (C.Request.Merge e)) → Comes IsListed e.place e.content
merged_listed l e h = let k = line_set h in comes_by e.place e.content k.0 (merged_proper l e h).1 k.1

-- ---- imports

abbrev AllOn : Cells → Type 0
AllOn cs = AllByRecursion (λ (x : Addr × Content). IsTrue (covers grid x.0)) cs

abbrev IfOn : Read Cells → Type 0
IfOn (Is cs) = AllOn cs
IfOn (Not w) = ⊤

field_on : (x : Addr × Bytes) → field_fault x ≡ None → IsTrue (covers grid x.0)
field_on x h = by (nat_lt max_text (length x.1)) (covers grid x.0) refl h
  where
    by : (u v : Bool) → covers grid x.0 ≡ v → cond u (Some (codes "field")) (cond v None (Some (codes "grid"))) ≡ None → IsTrue (covers grid x.0)
    by true v e k = cc k
    by false true e k = e
    by false false e k = cc k

contents_on : (xs : List (Addr × Bytes)) → IfOn (contents xs)
contents_on [] = tt
contents_on (x ∷ xs) = by (field_fault x) (contents xs) refl refl (contents_on xs)
  where
    by : (o : Option Bytes) (r : Read Cells) → field_fault x ≡ o → contents xs ≡ r → IfOn r → IfOn (contents (x ∷ xs))
    by (Some w) r e k all = rw e tt
    by None (Is cs) e k all = rw (e, k) (field_on x e, all)
    by None (Not w) e k all = rw (e, k) tt

imported_on : (a : Addr) (rs : List (List Bytes)) → IfOn (imported a rs)
imported_on a rs = by (list_all (list_all is_utf8) rs) refl
  where
    by : (b : Bool) → list_all (list_all is_utf8) rs ≡ b → IfOn (imported a rs)
    by true h = rw h (contents_on (fields a rs))
    by false h = rw h tt

-- each content of a sheet is what is found at its address
abbrev AreFound : Cells → Cells → Type 0
AreFound cs xs = AllByRecursion (λ (x : Addr × Content). content cs x.0 ≡ Some x.1) xs

none_or_some : (c : Content) → None ≡ Some c → ⊥
none_or_some c h = cc h

order_rest : (x : Addr × Content) (S : Cells) → IsSheet (x ∷ S) → IsSheet S
order_rest x [] o = tt
order_rest x (y ∷ S) o = o.1

still_found : (y : Addr × Content) (cs xs : Cells) → content cs y.0 ≡ None → AreFound cs xs → AreFound (y ∷ cs) xs
still_found y cs [] n h = tt
still_found y cs (x ∷ xs) n h = (by (same_addr x.0 y.0) refl, still_found y cs xs n h.1)
  where
    by : (t : Bool) → same_addr x.0 y.0 ≡ t → content (y ∷ cs) x.0 ≡ Some x.1
    by true e = absurd (none_or_some x.1 (sym n ∙ ap (content cs) (sym (addr_exact x.0 y.0 e)) ∙ h.0))
    by false e = ap (λ (t : Bool). cond t (Some y.1) (content cs x.0)) e ∙ h.0

all_found : (cs : Cells) → IsSheet cs → AreFound cs cs
all_found [] o = tt
all_found (y ∷ cs) o = (
  ap (λ (t : Bool). cond t (Some y.1) (content cs y.0)) (addr_same y.0),
  still_found y cs cs (nothing_before y.0 cs o) (all_found cs (order_rest y cs o)),
)

module _ (a : Addr) (rs : List (List Bytes)) (cs : Cells) (is : imported a rs ≡ Is cs) where
  all_listed : (xs : Cells) → AllOn xs → AllByRecursion (λ x. IsProperContent x.1) xs → AreFound cs xs → AllByRecursion IsListed xs
  all_listed [] on p f = tt
  all_listed (x ∷ xs) on p f = (record { on = on.0; proper = p.0; back = import_reads_back a x.0 rs cs x.1 is f.0 }, all_listed xs on.1 p.1 f.1)

  imported_listed : AllByRecursion IsListed cs
  imported_listed = all_listed cs (subst IfOn is (imported_on a rs)) (imported_proper a rs cs is) (all_found cs (imported_rise a rs cs is))

pub all_that_comes : HoldsOfAll IsListed
all_that_comes = record { sets = set_listed; merges = merged_listed; imports = imported_listed }
