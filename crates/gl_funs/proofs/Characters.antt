-- The characters of plain texts.
use Rattle.std.proofs.Common.{◌≡◌, ℕ, zero, suc, ◌+◌, ◌-◌, ◌*◌, ◌^◌, ◌/◌, ◌%◌, ◌<◌, ◌≤◌, ℤ, pos, List, [], ◌∷◌, ◌++◌, length, take, drop, true, false, refl, arith, FitsSigned, IsTrue, length-append, take-append-drop, encode_utf8_all}
use Rattle.std.proofs.lemmas.Fmt.{decimal_by_steps, IsAscii-signed, length_signed_le}
use Rattle.std.proofs.lemmas.Nat.{le-div, div_below}
use Rattle.std.proofs.lemmas.Str.{chars-nil, chars-IsAscii, encodes-append, encodes-chars}
use Rattle.std.specs.Fmt.{decimal, signed_decimal}
use Rattle.std.specs.Int.{w64}
use Rattle.std.specs.Str.{IsUtf8, chars}
use Rattle.std.proofs.lemmas.Bool.{le-leb}
use native.Mathlib.Numerals.{unary_clauses}
use Rattle.gl_calculus.specs.Values.Functions as F
use Rattle.gl_calculus.specs.Evaluation.Sound.{is_sound_scalar}
use Rattle.gl_calculus.specs.Values.Value as V
use Rattle.gl_value.specs.Sound.{text_sound}
use Rattle.gl_funs.specs.Rules.{cut}
use Rattle.gl_funs.specs.declared.texts.Side.{Side}
use Rattle.gl_funs.specs.declared.texts.Side.TheVariants.{First, Last}

-- ---- digits

Counted : ℕ → List ℕ → Type 0
Counted n ds = (k : ℕ) → 10 ^ k ≤ n → n < 10 * 10 ^ k → length ds ≡ k + 1

ten_pos : (k : ℕ) → 0 < 10 ^ k
ten_pos zero = omega arith
ten_pos (suc k) = simp unary_clauses (omega (arith, ten_pos k))

one_digit : (n : ℕ) → n < 10 → Counted n ((48 + n) ∷ [])
unfolding Counted
one_digit n h zero p q = refl
one_digit n h (suc k) p q = absurd (omega (arith, simp unary_clauses at p, ten_pos k))

more_digits : (n : ℕ) (ds : List ℕ) → 10 ≤ n → Counted (n / 10) ds → Counted n (ds ++ ((48 + n % 10) ∷ []))
unfolding Counted
more_digits n ds h s zero p q = absurd (omega arith)
more_digits n ds h s (suc k) p q =
    let low : 10 ^ k * 10 ≤ n = simp unary_clauses at p in
    let high : n < 10 * (10 ^ k * 10) = simp unary_clauses at q in
    let e : length ds ≡ k + 1 = s k (le-div (10 ^ k) n 10 (omega arith) low) (div_below n 10 (10 * 10 ^ k) (omega arith) (omega (arith, high))) in
    omega (arith, e, length-append ds ((48 + n % 10) ∷ []))

pub digits_are : (n k : ℕ) → n < 2 ^ 64 → 10 ^ k ≤ n → n < 10 * 10 ^ k → length (decimal n) ≡ k + 1
unfolding Counted
digits_are n k h p q = decimal_by_steps Counted one_digit more_digits n h k p q

-- ---- characters

chars_signed : (n : ℤ) → FitsSigned w64 n → chars (signed_decimal n) ≡ signed_decimal n
chars_signed n h = chars-IsAscii (signed_decimal n) (IsAscii-signed n h.sfits)

pub len_int : (n : ℤ) → FitsSigned w64 n → V.Scalar.Int (pos (length (signed_decimal n))) ≡ F.text_length (V.Scalar.Int n)
len_int n h = rw (chars_signed n h) refl

pub len_blank : V.Scalar.Int (pos 0) ≡ F.text_length V.Scalar.Blank
len_blank = rw chars-nil refl

pub len_true : V.Scalar.Int (pos 4) ≡ F.text_length (V.Scalar.Bool true)
unfolding chars
len_true = refl

pub len_false : V.Scalar.Int (pos 5) ≡ F.text_length (V.Scalar.Bool false)
unfolding chars
len_false = refl

-- ---- parts

both_le : (cs ds : List ℕ) → (length (encode_utf8_all cs) ≤ length (encode_utf8_all (cs ++ ds))) × (length (encode_utf8_all ds) ≤ length (encode_utf8_all (cs ++ ds)))
both_le cs ds = rw (encodes-append cs ds) (omega (arith, length-append (encode_utf8_all cs) (encode_utf8_all ds)), omega (arith, length-append (encode_utf8_all cs) (encode_utf8_all ds)))

taken_le : (n : ℕ) (cs : List ℕ) → length (encode_utf8_all (take n cs)) ≤ length (encode_utf8_all cs)
taken_le n cs = let b = (both_le (take n cs) (drop n cs)).0 in rw (take-append-drop n cs) at b

dropped_le : (n : ℕ) (cs : List ℕ) → length (encode_utf8_all (drop n cs)) ≤ length (encode_utf8_all cs)
dropped_le n cs = let b = (both_le (take n cs) (drop n cs)).1 in rw (take-append-drop n cs) at b

-- a part of a text that is short enough is sound
part_sound : (part : List ℕ → List ℕ) (bs ds : List ℕ) → ((cs : List ℕ) → length (encode_utf8_all (part cs)) ≤ length (encode_utf8_all cs)) → IsUtf8 bs → length bs ≤ 4096 → IsUtf8 ds → ds ≡ encode_utf8_all (part (chars bs)) → IsTrue (is_sound_scalar (V.Scalar.Text ds))
part_sound part bs ds less u h w e =
    let l : length (encode_utf8_all (part (chars bs))) ≤ length (encode_utf8_all (chars bs)) = less (chars bs) in
    let m : length ds ≤ 4096 = omega (arith, rw (encodes-chars bs u, ← e) at l) in
    rw (← text_sound ds w) (le-leb (length ds) 4096 m)

first_sound : (n : ℕ) (bs ds : List ℕ) → IsUtf8 bs → length bs ≤ 4096 → IsUtf8 ds → ds ≡ encode_utf8_all (take n (chars bs)) → IsTrue (is_sound_scalar (V.Scalar.Text ds))
first_sound n bs ds = part_sound (take n) bs ds (taken_le n)

last_sound : (n : ℕ) (bs ds : List ℕ) → IsUtf8 bs → length bs ≤ 4096 → IsUtf8 ds → ds ≡ encode_utf8_all (F.take_last n (chars bs)) → IsTrue (is_sound_scalar (V.Scalar.Text ds))
last_sound n bs ds = part_sound (F.take_last n) bs ds (λ cs. dropped_le (length cs - n) cs)

pub cut_sound : (side : Side) (n : ℕ) (bs ds : List ℕ) → IsUtf8 bs → length bs ≤ 4096 → IsUtf8 ds → ds ≡ encode_utf8_all (cut side n (chars bs)) → IsTrue (is_sound_scalar (V.Scalar.Text ds))
cut_sound First = first_sound
cut_sound Last = last_sound

pub signed_short : (n : ℤ) → FitsSigned w64 n → length (signed_decimal n) ≤ 4096
signed_short n h = omega (arith, length_signed_le 19 n (omega (arith, h.sfits)) h.sfits)
