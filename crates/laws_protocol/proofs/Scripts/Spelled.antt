-- The text of tokens is clean, and a literal is at most four times as long as what it stands for.
use Rattle.gl_calculus.specs.Formulas.Formula as F
use Rattle.std.proofs.Common.{◌≡◌, ℕ, ◌+◌, ◌*◌, ◌<◌, ◌≤◌, Bool, true, false, ◌⊎◌, inl, inr, List, [], ◌∷◌, ◌++◌, length, refl, sym, subst, arith, append_assoc}
use Rattle.std.specs.Prelude.{nat_lt}
use Rattle.std.specs.Str.{IsUtf8}
use Rattle.std.proofs.lemmas.Bool.Decides.{nat_tests}
use Rattle.std.proofs.lemmas.Str.{IsUtf8-append, IsUtf8-from_is_utf8}
use Rattle.gl_calculus.specs.Grid.Notation.{address_text}
use Rattle.gl_language.specs.Texts.Text.{Bytes, is_control, hex_digit, truth_text}
use Rattle.gl_language.specs.Reading.Token as T
use Rattle.gl_language.specs.Reading.Token.{Token, Sign, IsHexDigit, Decodes, Spells, Reads, sign_text, no_more, space, token, integer, quoted, address, truth, word, variable, signed}
use Rattle.gl_lex.proofs.Rows.{AllPass}
use Rattle.gl_script.proofs.Decoded.{before_ascii, after_ascii}
use Rattle.laws_protocol.proofs.Scripts.Clean.{NoControl, IsClean, is_ascii, is_visible, ascii_utf8, visible_clean, clean_append, space_clean, digits_visible, uppers_visible, lowers_visible, address_visible}

-- ---- what stands between quotes

itself_small : (b : ℕ) → (b ≡ 92) ⊎ (b ≡ 34) → b < 128
itself_small b (inl e) = omega (arith, e)
itself_small b (inr e) = omega (arith, e)

itself_plain : (b : ℕ) → (b ≡ 92) ⊎ (b ≡ 34) → is_control b ≡ false
itself_plain b (inl e) = subst (λ (x : ℕ). is_control x ≡ false) (sym e) refl
itself_plain b (inr e) = subst (λ (x : ℕ). is_control x ≡ false) (sym e) refl

hex_by : (n : ℕ) (t : Bool) → nat_lt n 10 ≡ t → n < 16 → is_visible (hex_digit n) ≡ true
hex_by n true e h = rw e (grind (arith, nat_tests))
hex_by n false e h = rw e (grind (arith, nat_tests))

lower_hex : (n : ℕ) → 10 ≤ n → n < 16 → is_visible (n + 87) ≡ true
lower_hex n h k = grind (arith, nat_tests)

hex_visible : (b n : ℕ) → IsHexDigit b n → is_visible b ≡ true
hex_visible b n h = elim h.1 as (λ _. is_visible b ≡ true) [
  | inl e ↦ subst (λ (x : ℕ). is_visible x ≡ true) (sym e) (hex_by n (nat_lt n 10) refl h.0)
  | inr p ↦ subst (λ (x : ℕ). is_visible x ≡ true) (sym p.1) (lower_hex n p.0 h.0)
]

seen_plain : (b : ℕ) → is_visible b ≡ true → is_control b ≡ false
seen_plain b h = grind (arith, nat_tests, h)

seen_ascii : (b : ℕ) → is_visible b ≡ true → is_ascii b ≡ true
seen_ascii b h = grind (arith, nat_tests, h)

small_ascii : (b : ℕ) → b < 128 → is_ascii b ≡ true
small_ascii b h = grind (arith, nat_tests)

literal_plain : {s t : Bytes} → Decodes s t → NoControl s
literal_plain T.end = tt
literal_plain (T.plain m n c d) = (c, literal_plain d)
literal_plain (T.itself {b = b} e d) = (refl, (itself_plain b e, literal_plain d))
literal_plain (T.newline d) = (refl, (refl, literal_plain d))
literal_plain (T.return d) = (refl, (refl, literal_plain d))
literal_plain (T.tab d) = (refl, (refl, literal_plain d))
literal_plain (T.hex {h = h} {l = l} {m = m} {n = n} x y k d) = (refl, (refl, (seen_plain h (hex_visible h m x), (seen_plain l (hex_visible l n y), literal_plain d))))

-- a front, an escape of ASCII, and more
escaped_utf8 : (front mark s : Bytes) → IsUtf8 front → AllPass is_ascii mark → IsUtf8 s → IsUtf8 (front ++ (mark ++ s))
escaped_utf8 front mark s u a v = IsUtf8-append front (mark ++ s) u (IsUtf8-append mark s (ascii_utf8 mark a) v)

-- behind a front of characters that may be cut
literal_behind : {s t : Bytes} → Decodes s t → (front : Bytes) → IsUtf8 (front ++ t) → IsUtf8 (front ++ s)
literal_behind T.end front u = u
literal_behind (T.plain {b = b} {s = s} {t = t} m n c d) front u =
    subst IsUtf8 (append_assoc front (b ∷ []) s) (literal_behind d (front ++ b ∷ []) (subst IsUtf8 (sym (append_assoc front (b ∷ []) t)) u))
literal_behind (T.itself {b = b} {s = s} {t = t} e d) front u =
    let l = itself_small b e in
    escaped_utf8 front (92 ∷ b ∷ []) s (before_ascii front t b u l) (refl, (small_ascii b l, tt)) (literal_behind d [] (after_ascii front t b u l))
literal_behind (T.newline {s = s} {t = t} d) front u =
    escaped_utf8 front (92 ∷ 110 ∷ []) s (before_ascii front t 10 u (omega arith)) (refl, (refl, tt)) (literal_behind d [] (after_ascii front t 10 u (omega arith)))
literal_behind (T.return {s = s} {t = t} d) front u =
    escaped_utf8 front (92 ∷ 114 ∷ []) s (before_ascii front t 13 u (omega arith)) (refl, (refl, tt)) (literal_behind d [] (after_ascii front t 13 u (omega arith)))
literal_behind (T.tab {s = s} {t = t} d) front u =
    escaped_utf8 front (92 ∷ 116 ∷ []) s (before_ascii front t 9 u (omega arith)) (refl, (refl, tt)) (literal_behind d [] (after_ascii front t 9 u (omega arith)))
literal_behind (T.hex {h = h} {l = l} {m = m} {n = n} {s = s} {t = t} x y k d) front u =
    let b = 16 * m + n in
    let small : b < 128 = omega (arith, k, y.0) in
    escaped_utf8 front (92 ∷ 120 ∷ h ∷ l ∷ []) s (before_ascii front t b u small) (refl, (refl, (seen_ascii h (hex_visible h m x), (seen_ascii l (hex_visible l n y), tt))))
    (literal_behind d [] (after_ascii front t b u small))

quote_clean : IsClean (34 ∷ [])
quote_clean = visible_clean (34 ∷ []) (refl, tt)

pub literal_clean : {s t : Bytes} → Decodes s t → IsUtf8 t → IsClean (34 ∷ s ++ 34 ∷ [])
literal_clean {s = s} d u =
    let inside : IsClean s = record { utf8 = literal_behind d [] u; plain = literal_plain d } in
    clean_append (34 ∷ []) (s ++ 34 ∷ []) quote_clean (clean_append s (34 ∷ []) inside quote_clean)

pub literal_size : {s t : Bytes} → Decodes s t → length s ≤ 4 * length t
literal_size T.end = omega arith
literal_size (T.plain m n c d) = omega (arith, literal_size d)
literal_size (T.itself e d) = omega (arith, literal_size d)
literal_size (T.newline d) = omega (arith, literal_size d)
literal_size (T.return d) = omega (arith, literal_size d)
literal_size (T.tab d) = omega (arith, literal_size d)
literal_size (T.hex x y k d) = omega (arith, literal_size d)

-- ---- tokens

pub truth_clean : (b : Bool) → IsClean (truth_text b)
truth_clean true = visible_clean (truth_text true) (refl, (refl, (refl, (refl, tt))))
truth_clean false = visible_clean (truth_text false) (refl, (refl, (refl, (refl, (refl, tt)))))

sign_visible : (s : Sign) → AllPass is_visible (sign_text s)
sign_visible (T.Sign.Operator F.Op.Eq) = (refl, tt)
sign_visible (T.Sign.Operator F.Op.Ne) = (refl, (refl, tt))
sign_visible (T.Sign.Operator F.Op.Lt) = (refl, tt)
sign_visible (T.Sign.Operator F.Op.Le) = (refl, (refl, tt))
sign_visible (T.Sign.Operator F.Op.Gt) = (refl, tt)
sign_visible (T.Sign.Operator F.Op.Ge) = (refl, (refl, tt))
sign_visible (T.Sign.Operator F.Op.Join) = (refl, tt)
sign_visible (T.Sign.Operator F.Op.Add) = (refl, tt)
sign_visible (T.Sign.Operator F.Op.Sub) = (refl, tt)
sign_visible (T.Sign.Operator F.Op.Mul) = (refl, tt)
sign_visible (T.Sign.Operator F.Op.Div) = (refl, tt)
sign_visible T.Sign.Hash = (refl, tt)
sign_visible T.Sign.LeftParen = (refl, tt)
sign_visible T.Sign.RightParen = (refl, tt)
sign_visible T.Sign.Comma = (refl, tt)
sign_visible T.Sign.Colon = (refl, tt)

spells_clean : {t : Token} {bs : Bytes} → Spells t bs → IsClean bs
spells_clean (integer {bs = bs} row small) = visible_clean bs (digits_visible bs row.1)
spells_clean (quoted {t = t} d u l) = literal_clean d (IsUtf8-from_is_utf8 t u)
spells_clean (address {a = a} on) = visible_clean (address_text a) (address_visible a on)
spells_clean (truth {b = b}) = truth_clean b
spells_clean (word {bs = bs} row m n) = visible_clean bs (uppers_visible bs row.1)
spells_clean (variable {bs = bs} row) = visible_clean bs (lowers_visible bs row.1)
spells_clean (signed {s = s}) = visible_clean (sign_text s) (sign_visible s)

-- what is read as tokens, up to a clean rest
pub reads_clean : {text rest : Bytes} {ts : List Token} → Reads text ts rest → IsClean rest → IsClean text
reads_clean no_more c = c
reads_clean (space {text = text} r) c = clean_append (32 ∷ []) text space_clean (reads_clean r c)
reads_clean (token {more = more} (bs, e, s, ends) r) c = subst IsClean (sym e) (clean_append bs more (spells_clean s) (reads_clean r c))
