-- A header is read in one way.
use Rattle.std.proofs.Common.{◌≡◌, ◌∙◌, ℕ, ◌<◌, Bool, true, false, cond, leb, List, [], ◌∷◌, length, Option, Some, None, refl, sym, ap, subst, arith}
use Rattle.std.specs.Prelude.{MatchOption, ◌==◌}
use Rattle.std.specs.Str.{is_utf8}
use Rattle.std.proofs.lemmas.Bool.Decides.{nat_tests}
use Rattle.gl_calculus.specs.Grid.Grid.{Addr}
use Rattle.gl_calculus.specs.Grid.Limits.{max_payload}
use Rattle.gl_language.specs.Texts.Text.{Bytes}
use Rattle.gl_language.specs.Reading.Token.{digits_value}
use Rattle.gl_protocol.specs.Framing.Pieces.{pieces, is_number}
use Rattle.gl_protocol.specs.Framing.Header.{payload_len, count_of, count_by}
use Rattle.gl_protocol.specs.Scripts.Commands as C
use Rattle.gl_protocol.specs.Scripts.Commands.{Read, ReadsLine, ReadsWords, IsAddress, NoAddress, ImportWords, words_of, words_of_pieces, is_comment}
use Rattle.gl_script.specs.Command.{IsHeader}
use Rattle.gl_script.proofs.Headers.{first_piece}
use Rattle.gl_script.proofs.Says.{Says, says}
use Rattle.gl_script.proofs.Once.{same_place}

-- ---- a comment has no words

none_by : (b : Bool) (o : Option C.Words) → o ≡ None → cond b None o ≡ None
none_by true o e = refl
none_by false o e = e

comment_pieces : (p : Bytes) (ps : List Bytes) → words_of_pieces ((59 ∷ p) ∷ ps) ≡ None
comment_pieces p [] = refl
comment_pieces p (place ∷ []) = none_by (length place == 0) None refl
comment_pieces p (place ∷ n ∷ []) = refl
comment_pieces p (place ∷ n ∷ m ∷ ps) = refl

comment_words : (bs : Bytes) → words_of (59 ∷ bs) ≡ None
comment_words bs =
    let f = first_piece bs in
    rw f.2 (comment_pieces f.0 f.1)

no_comment : (l : Bytes) (ws : C.Words) → words_of l ≡ Some ws → is_comment l ≡ true → ⊥
no_comment [] ws e h = let f : None ≡ Some ws = e in cc
no_comment (b ∷ bs) ws e h =
    let q : b ≡ 59 = grind (arith, nat_tests) in
    let f : None ≡ Some ws = sym (comment_words bs) ∙ subst (λ (x : ℕ). words_of (x ∷ bs) ≡ Some ws) q e in
    cc

-- ---- the count

no_text : (l : Bytes) (n : ℕ) → payload_len l ≡ Some n → is_utf8 l ≡ false → ⊥
unfolding payload_len
no_text l n e f = let g : None ≡ Some n = rw f at e in cc

counted : (l : Bytes) (n : ℕ) → payload_len l ≡ Some n → count_by (pieces 32 l) ≡ Some n
unfolding payload_len
counted l n e = by (is_utf8 l) e
  where
    by : (b : Bool) → cond b (count_by (pieces 32 l)) None ≡ Some n → count_by (pieces 32 l) ≡ Some n
    by true h = h
    by false h = absurd (cc h)

few : (count : Bytes) (n : ℕ) → is_number count ≡ true → count_of count ≡ Some n → max_payload < digits_value count → ⊥
few count n d e l =
    let t : leb (digits_value count) max_payload ≡ false = grind (arith, nat_tests) in
    let g : None ≡ Some n = rw (d, t) at e in
    cc

-- ---- headers

some_place : (place : Bytes) (a b : Option Addr) → MatchOption a (NoAddress place) (IsAddress place) → MatchOption b (NoAddress place) (IsAddress place) → a ≡ b
some_place place None None h k = refl
some_place place None (Some b) h k = absurd (h b k)
some_place place (Some a) None h k = absurd (k a h)
some_place place (Some a) (Some b) h k = ap (λ (x : Addr). Some x) (same_place place a b h k)

pub one_header : (l : Bytes) (a b : Option Addr) (m n : ℕ) → IsHeader l a m → IsHeader l b n → (a ≡ b) × (m ≡ n)
one_header l a b m n h k =
    let w : Some (ImportWords h.place h.count) ≡ Some (ImportWords k.place k.count) = sym h.words ∙ k.words in
    let p : h.place ≡ k.place = cc in
    let c : Some m ≡ Some n = sym h.payload ∙ k.payload in
    let e : m ≡ n = cc in
    (some_place k.place a b (subst (λ (x : Bytes). MatchOption a (NoAddress x) (IsAddress x)) p h.is_at) k.is_at, e)

header_words : (l : Bytes) (n : ℕ) (place count : Bytes) (x : Read C.Request) → words_of l ≡ Some (ImportWords place count) → payload_len l ≡ Some n → ReadsWords (ImportWords place count) x → ⊥
header_words l n place count x w e (C.ReadsWords.payload big) =
    let s : Says l (Some (ImportWords place count)) = subst (Says l) w (says l) in
    few count n s.0 (sym s.1 ∙ counted l n e) big

pub header_alone : (l : Bytes) (a : Option Addr) (n : ℕ) (x : Read C.Request) → IsHeader l a n → ReadsLine l x → ⊥
header_alone l a n x h (C.ReadsLine.comment c) = no_comment l (ImportWords h.place h.count) h.words c
header_alone l a n x h (C.ReadsLine.utf8 c u) = no_text l n h.payload u
header_alone l a n x h (C.ReadsLine.command c u w) = let f : None ≡ Some (ImportWords h.place h.count) = sym w ∙ h.words in cc
header_alone l a n x h (C.ReadsLine.words {ws = ws} c u w r) =
    let f : Some ws ≡ Some (ImportWords h.place h.count) = sym w ∙ h.words in
    let e : ws ≡ ImportWords h.place h.count = cc in
    header_words l n h.place h.count x h.words h.payload (subst (λ (z : C.Words). ReadsWords z x) e r)
