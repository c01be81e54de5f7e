-- A content that is read from its own text, on the grid: the line that sets it is clean, is no longer than a line may be, and is read as this request.
use Rattle.std.proofs.Common.{◌≡◌, ◌≢◌, ◌∙◌, ℕ, ◌+◌, ◌*◌, ◌^◌, ◌<◌, ◌≤◌, suc, ℤ, pos, negsuc, Bool, true, false, ◌&&◌, ◌==◌, [], ◌∷◌, ◌++◌, length, get_or, append_assoc, length-append, Option, Some, None, refl, sym, ap, subst, arith, IsTrue}
use Rattle.std.specs.Prelude.{neg_ℤ, int_le, int_lt, nat_le, codes, bytes_eq, ⊤}
use Rattle.std.specs.Fmt.{decimal, signed_decimal}
use Rattle.std.specs.Str.{IsUtf8, is_utf8}
use Rattle.std.proofs.lemmas.Bool.Decides.{nat_tests}
use Rattle.std.proofs.lemmas.Fmt.{length-decimal-le, decimal_nonempty}
use Rattle.std.proofs.lemmas.Str.{IsUtf8-from_is_utf8, IsUtf8-nil, is_utf8-from_IsUtf8}
use Rattle.gl_calculus.specs.Grid.Limits.{max_text}
use Rattle.gl_calculus.specs.Values.ErrKind.{ErrKind}
use Rattle.gl_calculus.specs.Grid.Grid.{Addr, grid, covers}
use Rattle.gl_calculus.specs.Grid.Notation.{column_text, address_text}
use Rattle.gl_calculus.specs.Values.Operators.{exact}
use Rattle.gl_calculus.specs.Values.Value as V
use Rattle.gl_calculus.specs.Formulas.Formula.{Content, Const, Form, Formula}
use Rattle.gl_language.specs.Texts.Text.{Bytes, truth_text, literal_text, content_text}
use Rattle.gl_language.specs.Reading.Token.{Decodes}
use Rattle.gl_language.specs.Reading.Grammar.{Parses}
use Rattle.gl_language.specs.Reading.Content.{IsProperContent}
use Rattle.gl_lex.proofs.Starts.{on_grid}
use Rattle.gl_protocol.specs.Replies.Tables.{set_text}
use Rattle.gl_protocol.specs.Scripts.Commands as C
use Rattle.gl_protocol.specs.Scripts.Commands.{Read, Is, Not, ReadsContent, ReadsLine, SetWords, words_of}
use Rattle.gl_language.specs.Texts.Plain.{signed_value, plain_scalar}
use Rattle.gl_script.proofs.Cuts.{words-set, set-both}
use Rattle.laws_protocol.proofs.Scripts.Clean.{IsClean, clean_append, visible_clean, visible_lacks, space_clean, decimal_visible, address_visible}
use Rattle.laws_protocol.proofs.Scripts.Spelled.{literal_clean, literal_size, truth_clean, reads_clean}

-- A proper content at an address of the grid whose text is read as it.
pub record IsListed (x : Addr × Content) : Type 0 where
  pub on : IsTrue (covers grid x.0)
  pub proper : IsProperContent x.1
  pub back : ReadsContent (content_text x.1) (Is x.1)

-- ---- a number that was read is exact

exact_is : (m n : ℤ) → exact m ≡ V.Scalar.Int n → exact n ≡ V.Scalar.Int n
exact_is m n e = by (int_le (neg_ℤ (pos (2 ^ 63))) m && int_lt m (pos (2 ^ 63))) refl
  where
    by : (b : Bool) → (int_le (neg_ℤ (pos (2 ^ 63))) m && int_lt m (pos (2 ^ 63))) ≡ b → exact n ≡ V.Scalar.Int n
    by true h =
        let k : exact m ≡ V.Scalar.Int m = rw h refl in
        let i : V.Scalar.Int m ≡ V.Scalar.Int n = sym k ∙ e in
        let j : m ≡ n = cc i in
        subst (λ (z : ℤ). exact z ≡ V.Scalar.Int z) j k
    by false h =
        let k : exact m ≡ V.Scalar.Err ErrKind.Num = rw h refl in
        let i : V.Scalar.Err ErrKind.Num ≡ V.Scalar.Int n = sym k ∙ e in
        cc i

-- what a plain text with such a value is
abbrev IfNumber : V.Scalar → Type 0
IfNumber (V.Scalar.Int n) = exact n ≡ V.Scalar.Int n
IfNumber x = ⊤

number_by : (t : Bytes) (m : ℤ) (x : V.Scalar) → signed_value t ≡ Some m → exact m ≡ x → IfNumber (plain_scalar t)
number_by t m (V.Scalar.Int n) h e = rw (h, e) (exact_is m n e)
number_by t m V.Scalar.Blank h e = rw (h, e) tt
number_by t m (V.Scalar.Bool b) h e = rw (h, e) tt
number_by t m (V.Scalar.Text u) h e = rw (h, e) tt
number_by t m (V.Scalar.Err k) h e = rw (h, e) tt
number_by t m (V.Scalar.Sheet s) h e = rw (h, e) tt

word_by : (t : Bytes) (u v : Bool) → signed_value t ≡ None → bytes_eq t (truth_text true) ≡ u → bytes_eq t (truth_text false) ≡ v → IfNumber (plain_scalar t)
word_by t true v h p q = rw (h, p) tt
word_by t false true h p q = rw (h, p, q) tt
word_by t false false h p q = rw (h, p, q) tt

if_number : (t : Bytes) → IfNumber (plain_scalar t)
if_number t = by (signed_value t) refl
  where
    by : (o : Option ℤ) → signed_value t ≡ o → IfNumber (plain_scalar t)
    by (Some m) h = number_by t m (exact m) h refl
    by None h = word_by t (bytes_eq t (truth_text true)) (bytes_eq t (truth_text false)) h refl refl

-- ---- what the text of a content is

abbrev IsTextOf : Bytes → Content → Type 0
IsTextOf text (Form f) = (t : Bytes) × (text ≡ 61 ∷ t) × Parses t f
IsTextOf text (Const (V.Scalar.Int n)) = exact n ≡ V.Scalar.Int n
IsTextOf text (Const (V.Scalar.Text t)) = get_or text 0 0 ≡ 34 → (s : Bytes) × (text ≡ 34 ∷ s ++ 34 ∷ []) × Decodes s t × (length t ≤ max_text)
IsTextOf text (Const x) = ⊤

abbrev IfText : Bytes → Read Content → Type 0
IfText text (Is c) = IsTextOf text c
IfText text (Not w) = ⊤

plain_text : (b : ℕ) (t : Bytes) (x : V.Scalar) → b ≢ 34 → IfNumber x → IsTextOf (b ∷ t) (Const x)
plain_text b t (V.Scalar.Int n) q i = i
plain_text b t (V.Scalar.Text u) q i = λ e. absurd (q e)
plain_text b t V.Scalar.Blank q i = tt
plain_text b t (V.Scalar.Bool v) q i = tt
plain_text b t (V.Scalar.Err k) q i = tt
plain_text b t (V.Scalar.Sheet s) q i = tt

text_of : {text : Bytes} {x : Read Content} → ReadsContent text x → IfText text x
text_of (C.ReadsContent.formula {t = t} p) = (t, refl, p)
text_of (C.ReadsContent.fault p) = tt
text_of (C.ReadsContent.literal {s = s} d l) = λ e. (s, refl, d, l)
text_of (C.ReadsContent.no_literal h) = tt
text_of (C.ReadsContent.plain {b = b} {t = t} p q l) = plain_text b t (plain_scalar (b ∷ t)) q (if_number (b ∷ t))
text_of (C.ReadsContent.number {b = b} {t = t} {n = n} p q l e) = subst IfNumber e (if_number (b ∷ t))
text_of (C.ReadsContent.long p q l h) = tt

-- ---- the texts are clean and short

-- clean, not empty, and no longer than the longest literal
pub record IsWritten (bs : Bytes) : Type 0 where
  pub clean : IsClean bs
  pub some : 0 < length bs
  pub short : length bs ≤ 4 * max_text + 2

not_far : (n : ℕ) → exact (pos n) ≡ V.Scalar.Int (pos n) → n < 2 ^ 64
not_far n e = grind (arith, nat_tests, e)

not_far_below : (n : ℕ) → exact (negsuc n) ≡ V.Scalar.Int (negsuc n) → suc n < 2 ^ 64
not_far_below n e = grind (arith, nat_tests, e)

decimal_short : (n : ℕ) → n < 2 ^ 64 → length (decimal n) ≤ 20
decimal_short n h = length-decimal-le 20 n (omega arith) (omega (arith, h)) h

number_written : (n : ℤ) → exact n ≡ V.Scalar.Int n → IsWritten (signed_decimal n)
number_written (pos n) e =
    let h = not_far n e in
    record { clean = visible_clean (decimal n) (decimal_visible n h); some = decimal_nonempty n h; short = omega (arith, decimal_short n h) }
number_written (negsuc n) e =
    let h = not_far_below n e in
    record { clean = visible_clean (45 ∷ decimal (suc n)) (refl, decimal_visible (suc n) h); some = omega arith; short = omega (arith, decimal_short (suc n) h) }

text_utf8 : (t : Bytes) → IsProperContent (Const (V.Scalar.Text t)) → IsUtf8 t
text_utf8 t p = by (is_utf8 t) refl p
  where
    by : (b : Bool) → is_utf8 t ≡ b → IsTrue (b && nat_le (length t) max_text) → IsUtf8 t
    by true e k = IsUtf8-from_is_utf8 t e
    by false e k = absurd (cc k)

literal_written : (text s t : Bytes) → text ≡ 34 ∷ s ++ 34 ∷ [] → Decodes s t → length t ≤ max_text → IsUtf8 t → IsWritten text
literal_written text s t e d l u = subst IsWritten (sym e) (record {
  clean = literal_clean d u;
  some = omega arith;
  short = omega (arith, length-append s (34 ∷ []), literal_size d, l);
})

nothing_clean : IsClean []
nothing_clean = record { utf8 = IsUtf8-nil; plain = tt }

formula_written : (text t : Bytes) (f : Formula) → text ≡ 61 ∷ t → Parses t f → IsWritten text
formula_written text t f e p = subst IsWritten (sym e) (record {
  clean = clean_append (61 ∷ []) t (visible_clean (61 ∷ []) (refl, tt)) (reads_clean p.lexes nothing_clean);
  some = omega arith;
  short = omega (arith, p.short);
})

written_by : (c : Content) → IsProperContent c → IsTextOf (content_text c) c → IsWritten (content_text c)
written_by (Form f) p r = formula_written (content_text (Form f)) r.0 f r.1 r.2
written_by (Const (V.Scalar.Int n)) p r = number_written n r
written_by (Const (V.Scalar.Bool true)) p r = record { clean = truth_clean true; some = omega arith; short = omega arith }
written_by (Const (V.Scalar.Bool false)) p r = record { clean = truth_clean false; some = omega arith; short = omega arith }
written_by (Const (V.Scalar.Text t)) p r = let q = r refl in literal_written (literal_text t) q.0 t q.1 q.2 q.3 (text_utf8 t p)
written_by (Const V.Scalar.Blank) p r = absurd p
written_by (Const (V.Scalar.Err k)) p r = absurd p
written_by (Const (V.Scalar.Sheet s)) p r = absurd p

pub content_written : (x : Addr × Content) → IsListed x → IsWritten (content_text x.1)
content_written x h = written_by x.1 h.proper (text_of h.back)

-- ---- the line that sets a content

column_size : (c : ℕ) (b : Bool) → nat_le c 26 ≡ b → length (column_text c) ≤ 2
column_size c true e = rw e (omega arith)
column_size c false e = rw e (omega arith)

address_short : (a : Addr) → IsTrue (covers grid a) → length (address_text a) ≤ 22
address_short a on =
    let g = on_grid a on in
    omega (arith, length-append (column_text a.col) (decimal a.row), column_size a.col (nat_le a.col 26) refl, decimal_short a.row (omega (arith, g.3)))

column_some : (c : ℕ) (b : Bool) → nat_le c 26 ≡ b → 0 < length (column_text c)
column_some c true e = rw e (omega arith)
column_some c false e = rw e (omega arith)

address_some : (a : Addr) → 0 < length (address_text a)
address_some a = omega (arith, length-append (column_text a.col) (decimal a.row), column_some a.col (nat_le a.col 26) refl)

-- what stands behind its first word
abbrev pub behind_word : Addr × Content → Bytes
behind_word x = address_text x.0 ++ 32 ∷ content_text x.1

pub set_is : (x : Addr × Content) → set_text x ≡ codes "set" ++ 32 ∷ behind_word x
set_is x = ap (λ (z : Bytes). 115 ∷ 101 ∷ 116 ∷ 32 ∷ z) (append_assoc (address_text x.0) (32 ∷ []) (content_text x.1))

pub set_clean : (x : Addr × Content) → IsListed x → IsClean (set_text x)
set_clean x h =
    let word : IsClean (codes "set" ++ 32 ∷ []) = clean_append (codes "set") (32 ∷ []) (visible_clean (codes "set") (refl, (refl, (refl, tt)))) space_clean in
    let place = visible_clean (address_text x.0) (address_visible x.0 h.on) in
    let content = clean_append (32 ∷ []) (content_text x.1) space_clean (content_written x h).clean in
    subst IsClean (sym (set_is x)) (clean_append (codes "set" ++ 32 ∷ []) (behind_word x) word (clean_append (address_text x.0) (32 ∷ content_text x.1) place content))

pub set_short : (x : Addr × Content) → IsListed x → length (set_text x) ≤ 4 * max_text + 29
set_short x h = omega (arith, ap length (set_is x), length-append (address_text x.0) (32 ∷ content_text x.1), address_short x.0 h.on, (content_written x h).short)

is_some : (bs : Bytes) → 0 < length bs → (length bs == 0) ≡ false
is_some bs h = grind (arith, nat_tests)

set_says : (x : Addr × Content) → IsListed x → words_of (set_text x) ≡ Some (SetWords (address_text x.0) (content_text x.1))
set_says x h =
    ap words_of (set_is x)
    ∙ words-set (codes "set") (behind_word x) (visible_lacks (codes "set") (refl, (refl, (refl, tt)))) refl
    ∙ set-both (address_text x.0) (content_text x.1) (visible_lacks (address_text x.0) (address_visible x.0 h.on)) (is_some (address_text x.0) (address_some x.0)) (is_some (content_text x.1) (content_written x h).some)

-- it asks to set this content
pub set_reads : (x : Addr × Content) → IsListed x → ReadsLine (set_text x) (Is (C.Request.Set x.0 x.1))
set_reads x h =
    C.ReadsLine.words {ws = SetWords (address_text x.0) (content_text x.1)} refl (is_utf8-from_IsUtf8 (set_text x) (set_clean x h).utf8) (set_says x h) (C.ReadsWords.set {r = Is x.1} x.0 (h.on, refl) h.back)
