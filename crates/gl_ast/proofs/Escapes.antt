-- Escapes of characters.
use Rattle.std.proofs.Common.{◌≡◌, ◌≢◌, ℕ, suc, ◌+◌, ◌/◌, ◌%◌, ◌<◌, ◌≤◌, true, false, List, [], ◌∷◌, ◌++◌, length, drop, get_or, refl, ap, sym, ◌∙◌, arith, append_assoc, append-nil, inl, inr}
use Rattle.std.specs.Prelude.{flat_map}
use Rattle.std.specs.Str.{chars, IsUtf8}
use Rattle.std.proofs.lemmas.Bool.{cases_lt}
use Rattle.std.proofs.lemmas.Bool.Decides.{nat_tests}
use Rattle.std.proofs.lemmas.Grind.{flat_map-append}
use Rattle.std.proofs.lemmas.List.{at_drop_more, at_drop_all}
use Rattle.std.proofs.lemmas.Str.{encode_ascii, encodes-chars, inside_one}
use lib.Utf8.{encode, encodes}
use Rattle.gl_language.specs.Texts.Text.{escaped, is_control, hex_digit}

-- a character below 128 is one byte
small_char : (c : ℕ) → c < 128 → flat_map escaped (encode c) ≡ escaped c
small_char c h = ap (flat_map escaped) (encode_ascii c h) ∙ append-nil (escaped c)

plain_byte : (b : ℕ) → b ≢ 92 → b ≢ 34 → b ≢ 10 → b ≢ 13 → b ≢ 9 → is_control b ≡ false → escaped b ≡ b ∷ []
plain_byte b h k l m n e = grind (arith, nat_tests, h, k, l, m, n, e)

control_byte : (b : ℕ) → b ≢ 10 → b ≢ 13 → b ≢ 9 → is_control b ≡ true → escaped b ≡ 92 ∷ 120 ∷ hex_digit (b / 16) ∷ hex_digit (b % 16) ∷ []
control_byte b l m n e = grind (arith, nat_tests, l, m, n, e)

all_high : (xs : List ℕ) → ((k : ℕ) → k < length xs → 128 ≤ get_or xs k 0) → flat_map escaped xs ≡ xs
all_high [] h = refl
all_high (x ∷ xs) h =
    let high : 128 ≤ x = h 0 (omega arith) in
    let one : escaped x ≡ x ∷ [] = plain_byte x (λ e. omega (arith, e, high)) (λ e. omega (arith, e, high)) (λ e. omega (arith, e, high)) (λ e. omega (arith, e, high)) (λ e. omega (arith, e, high)) (grind (arith, nat_tests, high)) in
    ap (λ z. z ++ flat_map escaped xs) one ∙ ap (λ z. x ∷ z) (all_high xs (λ k below. h (suc k) (omega (arith, below))))

big_char : (c : ℕ) → 128 ≤ c → flat_map escaped (encode c) ≡ encode c
big_char c big = all_high (encode c) (λ k below. elim (cases_lt (get_or (encode c) k 0) 128) [
  | inl low ↦ absurd (omega (arith, inside_one c [] (encode c) k (sym (append-nil _)) below low))
  | inr h ↦ h
])

plain_char : (c : ℕ) → c ≢ 92 → c ≢ 34 → c ≢ 10 → c ≢ 13 → c ≢ 9 → is_control c ≡ false → flat_map escaped (encode c) ≡ encode c
plain_char c h k l m n e = elim (cases_lt c 128) [
  | inl small ↦ small_char c small ∙ plain_byte c h k l m n e ∙ sym (encode_ascii c small)
  | inr big ↦ big_char c big
]

-- as the code comes to them
pub put_plain : (a b : List ℕ) (c : ℕ) → c ≢ 92 → c ≢ 34 → c ≢ 10 → c ≢ 13 → c ≢ 9 → 32 ≤ c → c ≢ 127 → b ≡ a ++ encode c → b ≡ a ++ flat_map escaped (encode c)
put_plain a b c h k l m n p q e = e ∙ ap (λ z. a ++ z) (sym (plain_char c h k l m n (grind (arith, nat_tests, p, q))))

pub put_control : (a b : List ℕ) (c : ℕ) → c ≢ 10 → c ≢ 13 → c ≢ 9 → is_control c ≡ true → b ≡ a ++ (92 ∷ 120 ∷ hex_digit (c / 16) ∷ hex_digit (c % 16) ∷ []) → b ≡ a ++ flat_map escaped (encode c)
put_control a b c l m n e p =
    let small : c < 128 = grind (arith, nat_tests, e) in
    p ∙ ap (λ z. a ++ z) (sym (small_char c small ∙ control_byte c l m n e))

pub put_own : (a b x : List ℕ) (c : ℕ) → c < 128 → escaped c ≡ x → b ≡ a ++ x → b ≡ a ++ flat_map escaped (encode c)
put_own a b x c h e p = p ∙ ap (λ z. a ++ z) (sym (small_char c h ∙ e))

pub ruleset char_rules = (put_own)

pub ruleset other_rules = (put_plain, put_control)

-- ---- all characters of a text

abbrev pub escapes : List ℕ → List ℕ
escapes cs = flat_map escaped (encodes cs)

pub escapes_start : (t : List ℕ) → IsUtf8 t → escapes (chars t) ≡ flat_map escaped t
escapes_start t u = ap (flat_map escaped) (encodes-chars t u)

pub escapes_step : (a b : List ℕ) (cs : List ℕ) (k c : ℕ) → k < length cs → c ≡ get_or cs k c → b ≡ a ++ flat_map escaped (encode c) → b ++ escapes (drop (k + 1) cs) ≡ a ++ escapes (drop k cs)
escapes_step a b cs k c h is e =
    let rest = drop (k + 1) cs in
    let m : escapes (drop k cs) ≡ escapes (c ∷ rest) = at_drop_more escapes cs k c h ∙ ap (λ z. escapes (z ∷ rest)) (sym is) in
    let n : escapes (c ∷ rest) ≡ flat_map escaped (encode c) ++ escapes rest = flat_map-append escaped (encode c) (encodes rest) in
    ap (λ z. z ++ escapes rest) e ∙ append_assoc a (flat_map escaped (encode c)) (escapes rest) ∙ ap (λ z. a ++ z) (sym (m ∙ n))

pub escapes_end : (a : List ℕ) (cs : List ℕ) (k : ℕ) → length cs ≤ k → a ++ escapes (drop k cs) ≡ a
escapes_end a cs k h = ap (λ z. a ++ z) (at_drop_all escapes cs k h) ∙ append-nil a
