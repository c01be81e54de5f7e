-- What a line asks, by its words.
use Rattle.std.proofs.Common.{◌≡◌, ◌≢◌, ◌∙◌, ℕ, ◌*◌, ◌<◌, ◌≤◌, Bool, true, false, cond, ◌&&◌, leb, ◌∷◌, length, Option, Some, None, Ok, Err, refl, sym, ap, subst, arith, IsTrue}
use Rattle.std.specs.Prelude.{option_map, MatchOption, IfSome, IfNone, IsFalse, bytes_eq, codes}
use Rattle.std.specs.Str.{is_utf8}
use Rattle.std.proofs.lemmas.Bool.Decides.{nat_tests}
use Rattle.gl_calculus.specs.Grid.Limits.{max_payload, max_cells}
use Rattle.gl_calculus.specs.Grid.Grid.{Addr, Range, addresses, extents}
use Rattle.gl_plane.proofs.Cells.{addresses_count}
use Rattle.gl_language.specs.Texts.Text.{Bytes}
use Rattle.gl_language.specs.Reading.Token.{digits_value}
use Rattle.gl_protocol.specs.Framing.Pieces.{is_number}
use Rattle.gl_protocol.specs.Framing.Header.{payload_len, count_of}
use Rattle.gl_protocol.specs.Scripts.Commands as C
use Rattle.gl_protocol.specs.Scripts.Commands.{Read, Is, Not, ReadsLine, ReadsWords, ReadsRange, SetWords, EditWords, SiteWords, ImportWords, ClearWords, ViewWords, IsAddress, NoAddress, is_viewable, is_text, words_of, is_comment}
use Rattle.gl_cells.specs.declared.content.Content.{Content}
use Rattle.gl_cells.specs.Content.{content_tree}
use Rattle.gl_script.specs.Asked.{asked_words, asked_request}
use Rattle.gl_script.specs.declared.requests.Asked.{Asked}
use Rattle.gl_script.specs.declared.requests.Asked.TheVariants as asked
use Rattle.gl_script.specs.declared.requests.CommandFault.{CommandFault}
use Rattle.gl_script.specs.declared.requests.CommandFault.TheVariants as f
use Rattle.gl_script.specs.declared.requests.Request.TheVariants as r
use Rattle.gl_calculus.specs.Edits.Replicas.{is_stamp}
use Rattle.gl_script.specs.Numbers.{is_site, pair_if, stamp_in}
use Rattle.gl_script.specs.Command.{Answers, Asks, IsHeader, GivesText, sets, edits, edit_of, is_version_line}
use Rattle.gl_script.specs.Parts.{HasWords, IsContent, IsText, IsRange}
use Rattle.gl_script.proofs.Cuts.{same_bytes}
use Rattle.gl_script.proofs.Says.{Says, says}

pub line_reads : (l : Bytes) (ws : C.Words) (x : Read C.Request) → HasWords l ws → ReadsWords ws x → ReadsLine l x
line_reads l ws x h r = C.ReadsLine.words h.no_comment h.text h.words r

other_words : (l : Bytes) (ws : C.Words) → HasWords l ws → ((place t : Bytes) → ws ≢ SetWords place t) → ((time site place t : Bytes) → ws ≢ EditWords time site place (Some t)) → (t : Bytes) → GivesText l t → ⊥
other_words l ws h n m t (sets place e) = n place t (let d : Some ws ≡ Some (SetWords place t) = sym h.words ∙ e in cc)
other_words l ws h n m t (edits time site place e) = m time site place t (let d : Some ws ≡ Some (EditWords time site place (Some t)) = sym h.words ∙ e in cc)

-- ---- the text of a line

-- a line that gives an address this text is refused as the text is
text_by : (l t : Bytes) (e : CommandFault) → ((u : Bytes) → t ≡ u → GivesText l u) → ((w : Bytes) → C.ReadsContent t (Not w) → ReadsLine l (Not w)) → IsContent t (Err e) → Answers l (Err e)
text_by l t (f.Parse e) gives not x = (subst (λ (o : Option Bytes). MatchOption o ⊥ (λ w. ReadsLine l (Not w))) (sym x.3.1) (not x.3.0 x.3.2), (x.0, gives (61 ∷ x.0) x.1, x.2))
text_by l t f.Text gives not x = (not (codes "text") x.2, (x.0, gives (34 ∷ x.0) x.1))
text_by l t f.Field gives not x = (not (codes "field") x, tt)
text_by l t f.NoMemory gives not x = tt
text_by l t f.Utf8 gives not x = absurd x
text_by l t f.Word gives not x = absurd x
text_by l t f.Payload gives not x = absurd x
text_by l t f.Address gives not x = absurd x
text_by l t f.Range gives not x = absurd x
text_by l t f.Stamp gives not x = absurd x

-- ---- `set`

text_some : (l place t : Bytes) → HasWords l (SetWords place t) → 0 < length t
text_some l place t h = subst (Says l) h.words (says l)

pub set_asks : (l place t : Bytes) (a : Addr) (c : Content) → HasWords l (SetWords place t) → IsAddress place a → (0 < length t → IsContent t (Ok c)) → Answers l (Ok (r.Set a c))
set_asks l place t a c h k g =
    let x = g (text_some l place t h) in
    (line_reads l (SetWords place t) (Is (C.Request.Set a (content_tree c))) h (C.ReadsWords.set {r = Is (content_tree c)} a k x.0), x.1)

set_gives : (l place t u : Bytes) → HasWords l (SetWords place t) → t ≡ u → GivesText l u
set_gives l place t u h e = sets place (h.words ∙ ap (λ (x : Bytes). Some (SetWords place x)) e)

pub set_refused : (l place t : Bytes) (a : Addr) (e : CommandFault) → HasWords l (SetWords place t) → IsAddress place a → (0 < length t → IsContent t (Err e)) → Answers l (Err e)
set_refused l place t a e h k g =
    text_by l t e (λ u q. set_gives l place t u h q) (λ w x. line_reads l (SetWords place t) (Not w) h (C.ReadsWords.set {r = Not w} a k x)) (g (text_some l place t h))

pub no_place : (l : Bytes) (ws : C.Words) → HasWords l ws → ReadsWords ws (Not (codes "address")) → Answers l (Err f.Address)
no_place l ws h x = (line_reads l ws (Not (codes "address")) h x, tt)

-- ---- what is asked of one address

pub asked_reads : (k : Asked) (place : Bytes) (a : Addr) → IsAddress place a → ReadsWords (asked_words k place) (Is (asked_request k a))
asked_reads asked.Show place a h = C.ReadsWords.show h
asked_reads asked.Get place a h = C.ReadsWords.get h
asked_reads asked.Why place a h = C.ReadsWords.why_of h
asked_reads asked.Explain place a h = C.ReadsWords.explain h

pub asked_nowhere : (k : Asked) (place : Bytes) → NoAddress place → ReadsWords (asked_words k place) (Not (codes "address"))
asked_nowhere asked.Show place h = C.ReadsWords.show_place h
asked_nowhere asked.Get place h = C.ReadsWords.get_place h
asked_nowhere asked.Why place h = C.ReadsWords.why_place h
asked_nowhere asked.Explain place h = C.ReadsWords.explain_place h

-- ---- `site` and `edit`

pub site_asks : (l digits : Bytes) (n : ℕ) → HasWords l (SiteWords digits) → Some n ≡ cond (is_site digits) (Some (digits_value digits)) None → ReadsLine l (Is (C.Request.Site n))
site_asks l digits n h e =
    let s : Says l (Some (SiteWords digits)) = subst (Says l) h.words (says l) in
    let d : Some n ≡ Some (digits_value digits) = rw s at e in
    let f : digits_value digits ≡ n = cc in
    subst (λ (k : ℕ). ReadsLine l (Is (C.Request.Site k))) f (line_reads l (SiteWords digits) (Is (C.Request.Site (digits_value digits))) h C.ReadsWords.site)

-- words with a site have a site
pub site_refused : (l digits : Bytes) → HasWords l (SiteWords digits) → None ≡ cond (is_site digits) (Some (digits_value digits)) None → Answers l (Err f.Word)
site_refused l digits h e =
    let s : Says l (Some (SiteWords digits)) = subst (Says l) h.words (says l) in
    let d : None ≡ Some (digits_value digits) = rw s at e in
    absurd (cc d)

abbrev IsStampOf : Option (ℕ × ℕ) → Bytes → Bytes → Type 0
IsStampOf o t n = IsTrue (is_number t && is_number n) → o ≡ stamp_in t n

module _ (l t n place : Bytes) (o : Option Bytes) (h : HasWords l (EditWords t n place o)) where
  edit_says : Says l (Some (EditWords t n place o))
  edit_says = subst (Says l) h.words (says l)

  pair_is : (x y : ℕ × ℕ) → Some x ≡ Some y → x ≡ y
  pair_is x y e = cc e

  stamped : (p q : ℕ) → IsStampOf (Some (p, q)) t n → IsTrue (is_stamp (digits_value t) (digits_value n)) × (digits_value t ≡ p) × (digits_value n ≡ q)
  stamped p q e = by (is_stamp (digits_value t) (digits_value n)) refl (e edit_says.0)
    where
      by : (b : Bool) → is_stamp (digits_value t) (digits_value n) ≡ b → pair_if true p q ≡ pair_if b (digits_value t) (digits_value n) → IsTrue (is_stamp (digits_value t) (digits_value n)) × (digits_value t ≡ p) × (digits_value n ≡ q)
      by true f g = let e = pair_is (p, q) (digits_value t, digits_value n) g in (f, sym (ap (λ (z : ℕ × ℕ). z.0) e), sym (ap (λ (z : ℕ × ℕ). z.1) e))
      by false f g = absurd (cc g)

  unstamped : IsStampOf None t n → IsFalse (is_stamp (digits_value t) (digits_value n))
  unstamped e = by (is_stamp (digits_value t) (digits_value n)) refl (e edit_says.0)
    where
      by : (b : Bool) → is_stamp (digits_value t) (digits_value n) ≡ b → None ≡ pair_if b (digits_value t) (digits_value n) → IsFalse (is_stamp (digits_value t) (digits_value n))
      by true f g = absurd (cc g)
      by false f g = f

  pub edit_asks : (a : Addr) (p q : ℕ) (c : Option Content) → IsAddress place a → IsStampOf (Some (p, q)) t n → (IsTrue (is_text o) → IsText o (Ok c)) → Asks l (r.Edit p q a c)
  edit_asks a p q c k e g =
      let s = stamped p q e in
      let x = g edit_says.1 in
      let now : Asks l (r.Edit (digits_value t) (digits_value n) a c) =
      (line_reads l (EditWords t n place o) (Is (C.Request.Merge (edit_of (digits_value t) (digits_value n) a c))) h (C.ReadsWords.edit {r = Is (option_map content_tree c)} a k s.0 x.0), s.0, x.1) in
      subst (λ (y : ℕ). Asks l (r.Edit p y a c)) s.2 (subst (λ (y : ℕ). Asks l (r.Edit y (digits_value n) a c)) s.1 now)

  pub edit_no_stamp : (a : Addr) → IsAddress place a → IsStampOf None t n → Answers l (Err f.Stamp)
  edit_no_stamp a k e = (line_reads l (EditWords t n place o) (Not (codes "stamp")) h (C.ReadsWords.edit_stamp a k (unstamped e)), tt)

  pub edit_refused : (a : Addr) (p q : ℕ) (e : CommandFault) → IsAddress place a → IsStampOf (Some (p, q)) t n → (IsTrue (is_text o) → IsText o (Err e)) → Answers l (Err e)
  edit_refused a p q e k m g =
      let x = g edit_says.1 in
      let s = stamped p q m in
      text_by l x.0 e (λ u d. edits t n place (h.words ∙ ap (λ (z : Option Bytes). Some (EditWords t n place z)) (x.1 ∙ ap (λ (z : Bytes). Some z) d)))
      (λ w y. line_reads l (EditWords t n place o) (Not w) h (C.ReadsWords.edit {r = Not w} a k s.0 (subst (λ (z : Option Bytes). C.ReadsText z (Not w)) (sym x.1) (C.ReadsText.text {r = Not w} y)))) x.2

-- ---- ranges

pub clear_refused : (l place : Bytes) (e : CommandFault) → HasWords l (ClearWords place) → IsRange place (Err e) → Answers l (Err e)
clear_refused l place f.Address h x = (line_reads l (ClearWords place) (Not (codes "address")) h (C.ReadsWords.clear {r = Not (codes "address")} x), tt)
clear_refused l place f.Range h x = (line_reads l (ClearWords place) (Not (codes "range")) h (C.ReadsWords.clear {r = Not (codes "range")} x), other_words l (ClearWords place) h (λ p t e. cc) (λ p q s t e. cc))
clear_refused l place f.Utf8 h x = absurd x
clear_refused l place f.Word h x = absurd x
clear_refused l place f.Payload h x = absurd x
clear_refused l place (f.Parse e) h x = absurd x
clear_refused l place f.Stamp h x = absurd x
clear_refused l place f.Text h x = absurd x
clear_refused l place f.Field h x = absurd x
clear_refused l place f.NoMemory h x = absurd x

pub view_refused : (l place : Bytes) (e : CommandFault) → HasWords l (ViewWords place) → IsRange place (Err e) → Answers l (Err e)
view_refused l place f.Address h x = (line_reads l (ViewWords place) (Not (codes "address")) h (C.ReadsWords.view_place x), tt)
view_refused l place f.Range h x = (line_reads l (ViewWords place) (Not (codes "range")) h (C.ReadsWords.view_place x), other_words l (ViewWords place) h (λ p t e. cc) (λ p q s t e. cc))
view_refused l place f.Utf8 h x = absurd x
view_refused l place f.Word h x = absurd x
view_refused l place f.Payload h x = absurd x
view_refused l place (f.Parse e) h x = absurd x
view_refused l place f.Stamp h x = absurd x
view_refused l place f.Text h x = absurd x
view_refused l place f.Field h x = absurd x
view_refused l place f.NoMemory h x = absurd x

pub view_asks : (l place : Bytes) (x : Range) → HasWords l (ViewWords place) → ReadsRange place (Is x) → is_viewable x ≡ true → ReadsLine l (Is (C.Request.View x))
view_asks l place x h k v = subst (λ (u : Bool). ReadsLine l (cond u (Is (C.Request.View x)) (Not (codes "range")))) v (line_reads l (ViewWords place) (cond (is_viewable x) (Is (C.Request.View x)) (Not (codes "range"))) h (C.ReadsWords.view k))

pub view_large : (l place : Bytes) (x : Range) → HasWords l (ViewWords place) → ReadsRange place (Is x) → is_viewable x ≡ false → Answers l (Err f.Range)
view_large l place x h k v = (subst (λ (u : Bool). ReadsLine l (cond u (Is (C.Request.View x)) (Not (codes "range")))) v (line_reads l (ViewWords place) (cond (is_viewable x) (Is (C.Request.View x)) (Not (codes "range"))) h (C.ReadsWords.view k)), other_words l (ViewWords place) h (λ p t e. cc) (λ p q s t e. cc))

-- ---- imports

pub import_asks : (l place count : Bytes) (o : Option Addr) (n : ℕ) → HasWords l (ImportWords place count) → Some n ≡ count_of count → MatchOption o (NoAddress place) (IsAddress place) → IsHeader l o n
unfolding payload_len
import_asks l place count o n h e k =
    let s : Says l (Some (ImportWords place count)) = subst (Says l) h.words (says l) in
    record { place = place; count = count; words = h.words; is_at = k; payload = rw h.text (s.1 ∙ sym e) }

too_many : (count : Bytes) → is_number count ≡ true → None ≡ count_of count → max_payload < digits_value count
too_many count h e = by (leb (digits_value count) max_payload) refl (rw h at e)
  where
    by : (b : Bool) → leb (digits_value count) max_payload ≡ b → None ≡ cond b (Some (digits_value count)) None → max_payload < digits_value count
    by true p q = absurd (cc q)
    by false p q = grind (arith, nat_tests)

pub import_refused : (l place count : Bytes) → HasWords l (ImportWords place count) → None ≡ count_of count → Answers l (Err f.Payload)
import_refused l place count h e =
    let s : Says l (Some (ImportWords place count)) = subst (Says l) h.words (says l) in
    (line_reads l (ImportWords place count) (Not (codes "payload")) h (C.ReadsWords.payload (too_many count s.0 e)), tt)

-- ---- whole lines

no_words_of_version : (l : Bytes) → bytes_eq l (codes "gridlet 2") ≡ true → words_of l ≡ None
no_words_of_version l h = subst (λ (x : Bytes). words_of x ≡ None) (sym (same_bytes l (codes "gridlet 2") h)) refl

pub version_is : (l : Bytes) → IsFalse (is_comment l) → IsTrue (is_utf8 l) → bytes_eq l (codes "gridlet 2") ≡ true → Asks l r.Version
version_is l n u h = (
  subst (λ (x : Bytes). IsTrue (is_version_line x)) (sym (same_bytes l (codes "gridlet 2") h)) refl,
  C.ReadsLine.command n u (no_words_of_version l h),
)

is_false : (b : Bool) → (b ≡ true → ⊥) → b ≡ false
is_false true h = absurd (h refl)
is_false false h = refl

pub version_is_not : (l : Bytes) → bytes_eq l (codes "gridlet 2") ≡ false → IsFalse (is_version_line l)
version_is_not l h = is_false (is_version_line l) (λ e. let d : codes "gridlet 2" ≡ l = same_bytes (codes "gridlet 2") l e in let k : bytes_eq l (codes "gridlet 2") ≡ true = subst (λ (x : Bytes). bytes_eq x (codes "gridlet 2") ≡ true) d refl in cc)

pub no_words : (l : Bytes) → IsFalse (is_comment l) → IsTrue (is_utf8 l) → None ≡ words_of l → bytes_eq l (codes "gridlet 2") ≡ false → Answers l (Err f.Word)
no_words l n u w v = (C.ReadsLine.command n u (sym w), version_is_not l v)

-- ---- views

pub viewable : (x : Range) (n : ℕ) → n ≡ length (addresses x) → n ≤ max_cells → is_viewable x ≡ true
viewable x n e l =
    let k : (extents x).rows * (extents x).cols ≤ max_cells = subst (λ (m : ℕ). m ≤ max_cells) (e ∙ addresses_count x) l in
    grind (arith, nat_tests)

pub not_viewable : (x : Range) (n : ℕ) → n ≡ length (addresses x) → max_cells < n → is_viewable x ≡ false
not_viewable x n e l =
    let k : max_cells < (extents x).rows * (extents x).cols = subst (λ (m : ℕ). max_cells < m) (e ∙ addresses_count x) l in
    grind (arith, nat_tests)

-- ---- options

pub option_cases : (P : Addr → Type 0) (Q : Type 0) (o : Option Addr) → IfSome o P → IfNone o Q → MatchOption o Q P
option_cases P Q None s n = n
option_cases P Q (Some a) s n = s
