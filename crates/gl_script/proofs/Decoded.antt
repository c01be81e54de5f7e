-- What a literal stands for is UTF-8 where the literal is.
use Rattle.std.proofs.Common.{◌≡◌, ◌∙◌, ℕ, zero, suc, ◌+◌, ◌*◌, ◌<◌, Bool, nat_le, [], ◌∷◌, ◌++◌, length, get_or, take, drop, ◌⊎◌, inl, inr, refl, sym, ap, subst, arith, append_assoc, length-append}
use Rattle.std.specs.Str.{IsUtf8, IsAscii}
use Rattle.std.proofs.lemmas.Bool.Decides.{nat_tests}
use Rattle.std.proofs.lemmas.Str.{IsUtf8-take, IsUtf8-drop, IsCharBoundary-before_ascii, IsCharBoundary-after_ascii, IsUtf8-append, IsUtf8-from_ascii}
use Rattle.gl_language.specs.Texts.Text.{Bytes, hex_digit}
use Rattle.gl_language.specs.Reading.Token.{IsHexDigit, Decodes}
use Rattle.gl_language.specs.Reading.Token as T

-- ---- cuts beside an ASCII byte

at_length : (xs ys : Bytes) (b : ℕ) → get_or (xs ++ b ∷ ys) (length xs) 0 ≡ b
at_length [] ys b = refl
at_length (x ∷ xs) ys b = at_length xs ys b

take_length : (xs ys : Bytes) → take (length xs) (xs ++ ys) ≡ xs
take_length [] ys = refl
take_length (x ∷ xs) ys = ap (λ (zs : Bytes). x ∷ zs) (take_length xs ys)

drop_length : (xs ys : Bytes) → drop (length xs) (xs ++ ys) ≡ ys
drop_length [] ys = refl
drop_length (x ∷ xs) ys = drop_length xs ys

drop_more : (xs ys : Bytes) (b : ℕ) → drop (suc (length xs)) (xs ++ b ∷ ys) ≡ ys
drop_more [] ys b = refl
drop_more (x ∷ xs) ys b = drop_more xs ys b

pub before_ascii : (xs ys : Bytes) (b : ℕ) → IsUtf8 (xs ++ b ∷ ys) → b < 128 → IsUtf8 xs
before_ascii xs ys b u h =
    let l : length xs < length (xs ++ b ∷ ys) = rw length-append (omega arith) in
    let a : get_or (xs ++ b ∷ ys) (length xs) 0 < 128 = rw (at_length xs ys b) h in
    subst IsUtf8 (take_length xs (b ∷ ys)) (IsUtf8-take (xs ++ b ∷ ys) (length xs) u (IsCharBoundary-before_ascii (xs ++ b ∷ ys) (length xs) l a))

pub after_ascii : (xs ys : Bytes) (b : ℕ) → IsUtf8 (xs ++ b ∷ ys) → b < 128 → IsUtf8 ys
after_ascii xs ys b u h =
    let l : length xs < length (xs ++ b ∷ ys) = rw length-append (omega arith) in
    let a : get_or (xs ++ b ∷ ys) (length xs) 0 < 128 = rw (at_length xs ys b) h in
    let e : length xs + 1 ≡ suc (length xs) = omega arith in
    let d : drop (length xs + 1) (xs ++ b ∷ ys) ≡ ys = ap (λ (n : ℕ). drop n (xs ++ b ∷ ys)) e ∙ drop_more xs ys b in
    subst IsUtf8 d (IsUtf8-drop (xs ++ b ∷ ys) (length xs + 1) u (IsCharBoundary-after_ascii (xs ++ b ∷ ys) (length xs) u l a))

one_ascii : (b : ℕ) → b < 128 → IsUtf8 (b ∷ [])
one_ascii b h = IsUtf8-from_ascii (b ∷ []) (below b h)
  where
    below : (c : ℕ) → c < 128 → IsAscii (c ∷ [])
    below c k zero = k
    below c k (suc i) = omega arith

-- a front, one ASCII byte, and more
joined : (xs ys : Bytes) (b : ℕ) → IsUtf8 xs → b < 128 → IsUtf8 ys → IsUtf8 (xs ++ b ∷ ys)
joined xs ys b u h v = IsUtf8-append xs (b ∷ ys) u (IsUtf8-append (b ∷ []) ys (one_ascii b h) v)

-- ---- escapes

hex_by : (n : ℕ) (t : Bool) → nat_le n 9 ≡ t → n < 16 → hex_digit n < 128
hex_by n t e h = grind (arith, nat_tests)

ascii_hex : (b n : ℕ) → IsHexDigit b n → b < 128
ascii_hex b n h = elim h.1 as (λ _. b < 128) [
  | inl e ↦ let d = hex_by n (nat_le n 9) refl h.0 in omega (arith, e)
  | inr p ↦ omega (arith, p.1, h.0)
]

itself_ascii : (b : ℕ) → (b ≡ 92) ⊎ (b ≡ 34) → b < 128
itself_ascii b (inl e) = omega (arith, e)
itself_ascii b (inr e) = omega (arith, e)

-- behind a front of characters that may be cut
pub decoded_behind : {s t : Bytes} → Decodes s t → (front : Bytes) → IsUtf8 (front ++ s) → IsUtf8 (front ++ t)
decoded_behind T.end front u = u
decoded_behind (T.plain {b = b} {s = s} {t = t} n q c d) front u =
    subst IsUtf8 (append_assoc front (b ∷ []) t) (decoded_behind d (front ++ b ∷ []) (subst IsUtf8 (sym (append_assoc front (b ∷ []) s)) u))
decoded_behind (T.itself {b = b} {s = s} {t = t} q d) front u =
    let l = itself_ascii b q in
    let rest = after_ascii [] s b (after_ascii front (b ∷ s) 92 u (omega arith)) l in
    joined front t b (before_ascii front (b ∷ s) 92 u (omega arith)) l (decoded_behind d [] rest)
decoded_behind (T.newline {s = s} {t = t} d) front u =
    let rest = after_ascii [] s 110 (after_ascii front (110 ∷ s) 92 u (omega arith)) (omega arith) in
    joined front t 10 (before_ascii front (110 ∷ s) 92 u (omega arith)) (omega arith) (decoded_behind d [] rest)
decoded_behind (T.return {s = s} {t = t} d) front u =
    let rest = after_ascii [] s 114 (after_ascii front (114 ∷ s) 92 u (omega arith)) (omega arith) in
    joined front t 13 (before_ascii front (114 ∷ s) 92 u (omega arith)) (omega arith) (decoded_behind d [] rest)
decoded_behind (T.tab {s = s} {t = t} d) front u =
    let rest = after_ascii [] s 116 (after_ascii front (116 ∷ s) 92 u (omega arith)) (omega arith) in
    joined front t 9 (before_ascii front (116 ∷ s) 92 u (omega arith)) (omega arith) (decoded_behind d [] rest)
decoded_behind (T.hex {h = h} {l = l} {m = m} {n = n} {s = s} {t = t} x y k d) front u =
    let behind_mark = after_ascii front (120 ∷ h ∷ l ∷ s) 92 u (omega arith) in
    let digits = after_ascii [] (h ∷ l ∷ s) 120 behind_mark (omega arith) in
    let last = after_ascii [] (l ∷ s) h digits (ascii_hex h m x) in
    let rest = after_ascii [] s l last (ascii_hex l n y) in
    joined front t (16 * m + n) (before_ascii front (120 ∷ h ∷ l ∷ s) 92 u (omega arith)) (omega (arith, k, y.0)) (decoded_behind d [] rest)

-- what the quotes of a text enclose
pub decoded_text : {s t : Bytes} → Decodes s t → IsUtf8 (34 ∷ s ++ 34 ∷ []) → IsUtf8 t
decoded_text {s = s} d u = decoded_behind d [] (before_ascii s [] 34 (after_ascii [] (s ++ 34 ∷ []) 34 u (omega arith)) (omega arith))
