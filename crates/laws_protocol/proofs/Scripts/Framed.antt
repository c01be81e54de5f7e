-- Lines that are clean, no longer than a line may be, no header and no `quit` are framed as they are.
use Rattle.std.proofs.Common.{◌≡◌, ◌∙◌, ℕ, zero, suc, ◌≤◌, Bool, true, false, cond, ◌==◌, ◌-◌, List, [], ◌∷◌, ◌++◌, length, take, map, get_or, length-append, Option, Some, None, refl, ap, arith}
use Rattle.std.specs.Prelude.{flat_map, codes, nat_lt}
use Rattle.std.specs.List.{AllByRecursion}
use Rattle.std.proofs.lemmas.Bool.Decides.{nat_tests}
use Rattle.gl_calculus.specs.Grid.Limits.{max_line}
use Rattle.gl_calculus.specs.Formulas.Formula.{Content, Cells}
use Rattle.gl_calculus.specs.Grid.Grid.{Addr}
use Rattle.gl_language.specs.Texts.Text.{Bytes}
use Rattle.gl_protocol.specs.Framing.Header.{payload_len, is_quit_line}
use Rattle.gl_protocol.specs.Framing.Framing.{Item, Line, plain, kind_of, drop_cr, has_lf, first_line, after_line, first_item, last_items, is_quit, go_on, items_within, items}
use Rattle.gl_protocol.specs.Replies.Tables.{line, set_text}
use Rattle.laws_protocol.proofs.Items.Lines.{has_lf-more, first_line-more, after_line-more, has_lf-push, first_line-push, after_line-push}
use Rattle.gl_script.proofs.Headers.{len_of_other}
use Rattle.laws_protocol.proofs.Scripts.Clean.{NoControl, visible_lacks}
use Rattle.laws_protocol.proofs.Scripts.Listed.{IsListed, behind_word, set_is, set_clean, set_short}

-- ---- a line

-- it holds no LF, ends with no CR, is no header, and isn't too long
pub record IsAlone (l : Bytes) : Type 0 where
  pub one : has_lf l ≡ false
  pub whole : drop_cr l ≡ l
  pub kind : kind_of l ≡ plain
  pub stays : is_quit (Line l) ≡ false

pub no_lf : (l : Bytes) → NoControl l → has_lf l ≡ false
no_lf [] h = refl
no_lf (b ∷ l) h = let e : (b == 10) ≡ false = grind (arith, nat_tests, h.0) in rw e (no_lf l h.1)

no_cr : (l : Bytes) → NoControl l → (i : ℕ) → (get_or l i 0 == 13) ≡ false
no_cr [] h i = refl
no_cr (b ∷ l) h zero = grind (arith, nat_tests, h.0)
no_cr (b ∷ l) h (suc i) = no_cr l h.1 i

whole_line : (l : Bytes) → NoControl l → drop_cr l ≡ l
whole_line l h = ap (λ (t : Bool). cond t (take (length l - 1) l) l) (no_cr l h (length l - 1))

kind_plain : (l : Bytes) → length l ≤ max_line → payload_len l ≡ None → kind_of l ≡ plain
unfolding kind_of
kind_plain l h n =
    let e : nat_lt max_line (length l) ≡ false = grind (arith, nat_tests, h) in
    rw (e, n) refl

pub alone : (l : Bytes) → NoControl l → length l ≤ max_line → payload_len l ≡ None → is_quit (Line l) ≡ false → IsAlone l
alone l h s n q = record { one = no_lf l h; whole = whole_line l h; kind = kind_plain l s n; stays = q }

no_quit : (x : Addr × Content) → is_quit (Line (set_text x)) ≡ false
unfolding is_quit_line
no_quit x = refl

pub set_alone : (x : Addr × Content) → IsListed x → IsAlone (set_text x)
set_alone x h =
    let none : payload_len (set_text x) ≡ None = ap payload_len (set_is x) ∙ len_of_other (codes "set") (behind_word x) (visible_lacks (codes "set") (refl, (refl, (refl, tt)))) refl in
    alone (set_text x) (set_clean x h).plain (omega (arith, set_short x h)) none (no_quit x)

version_word : NoControl (codes "gridlet 2")
version_word = (refl, (refl, (refl, (refl, (refl, (refl, (refl, (refl, (refl, tt)))))))))

version_stays : is_quit (Line (codes "gridlet 2")) ≡ false
unfolding is_quit_line
version_stays = refl

pub version_alone : IsAlone (codes "gridlet 2")
version_alone =
    let lacks = visible_lacks (codes "gridlet") (refl, (refl, (refl, (refl, (refl, (refl, (refl, tt))))))) in
    alone (codes "gridlet 2") version_word (omega arith) (len_of_other (codes "gridlet") (codes "2") lacks refl) version_stays

-- ---- the first line

pub first_ends : (l rest : Bytes) → has_lf l ≡ false → after_line (line l ++ rest) ≡ rest
first_ends l rest h = after_line-more (line l) rest (has_lf-push l 10 h) ∙ ap (λ (z : Bytes). z ++ rest) (after_line-push l h)

first_is : (l rest : Bytes) → IsAlone l → first_item (line l ++ rest) ≡ Some (Line l, rest)
first_is l rest h =
    let lf : has_lf (line l ++ rest) ≡ true = has_lf-more (line l) rest (has_lf-push l 10 h.one) in
    let front : first_line (line l ++ rest) ≡ l = first_line-more (line l) rest (has_lf-push l 10 h.one) ∙ first_line-push l h.one in
    rw (lf, front, h.whole, h.kind, first_ends l rest h.one) refl

-- ---- all lines

abbrev pub text_of : List Bytes → Bytes
text_of ls = flat_map line ls

abbrev pub line_items : List Bytes → List Item
line_items ls = map (λ l. Line l) ls

abbrev pub AreAlone : List Bytes → Type 0
AreAlone ls = AllByRecursion IsAlone ls

items_by : (ls : List Bytes) (n : ℕ) → AreAlone ls → length (text_of ls) ≤ n → items_within last_items n (text_of ls) ≡ line_items ls
items_by [] zero h k = refl
items_by [] (suc n) h k = refl
items_by (l ∷ ls) zero h k = absurd (omega (arith, k, length-append (line l) (text_of ls), length-append l (10 ∷ [])))
items_by (l ∷ ls) (suc n) h k =
    let rest = text_of ls in
    let less : length rest ≤ n = omega (arith, k, length-append (line l) rest, length-append l (10 ∷ [])) in
    ap (λ (o : Option (Item × Bytes)). go_on o (items_within last_items n) (last_items (line l ++ rest))) (first_is l rest h.0)
    ∙ ap (λ (t : Bool). Line l ∷ cond t [] (items_within last_items n rest)) h.0.stays
    ∙ ap (λ (is : List Item). Line l ∷ is) (items_by ls n h.1 less)

pub items_are : (ls : List Bytes) → AreAlone ls → items (text_of ls) ≡ line_items ls
unfolding items
items_are ls h = items_by ls (length (text_of ls)) h (omega arith)

pub sets_alone : (S : Cells) → AllByRecursion IsListed S → AreAlone (map set_text S)
sets_alone [] h = tt
sets_alone (x ∷ S) h = (set_alone x h.0, sets_alone S h.1)
