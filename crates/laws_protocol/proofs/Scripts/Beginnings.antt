-- Which replies begin as an `error` line.
use Rattle.std.proofs.Common.{◌≡◌, ◌≢◌, ℕ, zero, suc, ◌+◌, ◌-◌, ◌/◌, ◌%◌, ◌<◌, ◌==◌, nat_lt, Bool, true, false, cond, List, [], ◌∷◌, ◌++◌, length, map, take, replicate, refl, arith, IsTrue}
use Rattle.std.specs.Prelude.{ℤ, pos, negsuc, codes, flat_map, encode_utf8_all}
use Rattle.std.specs.Fmt.{decimal, signed_decimal, digits, digits_onto, digit_glyph}
use Rattle.std.specs.List.{join_with_byte, AllByRecursion}
use Rattle.std.specs.Str.{chars, chars_after}
use Rattle.std.proofs.lemmas.Str.{encode_ascii}
use Rattle.std.proofs.lemmas.Bool.Decides.{nat_tests}
use Rattle.gl_calculus.specs.Values.ErrKind.{ErrKind}
use Rattle.gl_calculus.specs.Values.Value as V
use Rattle.gl_calculus.specs.Calculation.Calculation.{Shown, Cycle}
use Rattle.gl_calculus.specs.Formulas.Formula.{Content, Const, Form}
use Rattle.gl_language.specs.Texts.Text.{Bytes, scalar_text, shown_text, content_text, truth_text}
use Rattle.gl_protocol.specs.Replies.Tables.{line, cell_text, widths, aligned, table_text}
use Rattle.gl_protocol.specs.Scripts.Output.{is_refusal}

-- the text is empty, or begins with an ASCII byte that isn't an `e`
pub data Begins : Bytes → Type 0 where
  empty : Begins []
  by : {b : ℕ} {t : Bytes} → b < 128 → b ≢ 101 → Begins (b ∷ t)

pub no_refusal : {t : Bytes} → Begins t → IsTrue (is_refusal t) → ⊥
no_refusal empty h = cc h
no_refusal (by {b = b} {t = t} l n) h = other (b == 101) refl h
  where
    other : (c : Bool) → (b == 101) ≡ c → IsTrue (is_refusal (b ∷ t)) → ⊥
    other true e k = n (grind (arith, nat_tests, e))
    other false e k = let m = rw e at k in cc m

pub append : {s t : Bytes} → Begins s → Begins t → Begins (s ++ t)
append empty h = h
append (by l n) h = by l n

take_begins : (n : ℕ) {t : Bytes} → Begins t → Begins (take n t)
take_begins zero h = empty
take_begins (suc n) empty = empty
take_begins (suc n) (by l m) = by l m

-- ---- numbers

digit_begins : (d : ℕ) (c : Bool) (t : Bytes) → nat_lt d 10 ≡ c → d < 10 → Begins (cond c (48 + d) (87 + d) ∷ t)
digit_begins d true t e l = by (omega (arith, l)) (λ h. omega (arith, l, h))
digit_begins d false t e l = absurd (grind (arith, nat_tests, e, l))

digits_begin : (k n : ℕ) (t : Bytes) → Begins t → Begins (digits_onto k 10 false n t)
digits_begin zero n t h = h
digits_begin (suc k) n t h = elim (n / 10 == 0) as (λ c. Begins (cond c (digit_glyph false (n % 10) ∷ t) (digits_onto k 10 false (n / 10) (digit_glyph false (n % 10) ∷ t)))) [
  | true ↦ digit_begins (n % 10) (nat_lt (n % 10) 10) t refl (omega arith)
  | false ↦ digits_begin k (n / 10) (digit_glyph false (n % 10) ∷ t) (digit_begins (n % 10) (nat_lt (n % 10) 10) t refl (omega arith))
]

decimal_begins : (n : ℕ) → Begins (decimal n)
unfolding digits
decimal_begins n = digits_begin 64 n [] empty

number_begins : (n : ℤ) → Begins (signed_decimal n)
number_begins (pos n) = decimal_begins n
number_begins (negsuc n) = by (omega arith) (λ h. omega (arith, h))

-- ---- texts of values and contents

truth_begins : (b : Bool) → Begins (truth_text b)
truth_begins true = by (omega arith) (λ h. omega (arith, h))
truth_begins false = by (omega arith) (λ h. omega (arith, h))

error_begins : (k : ErrKind) → Begins (scalar_text (V.Scalar.Err k))
error_begins ErrKind.Ref = by (omega arith) (λ h. omega (arith, h))
error_begins ErrKind.Value = by (omega arith) (λ h. omega (arith, h))
error_begins ErrKind.Div0 = by (omega arith) (λ h. omega (arith, h))
error_begins ErrKind.Num = by (omega arith) (λ h. omega (arith, h))
error_begins ErrKind.Na = by (omega arith) (λ h. omega (arith, h))
error_begins ErrKind.Spill = by (omega arith) (λ h. omega (arith, h))
error_begins ErrKind.Size = by (omega arith) (λ h. omega (arith, h))

scalar_begins : (x : V.Scalar) → Begins (scalar_text x)
scalar_begins V.Scalar.Blank = by (omega arith) (λ h. omega (arith, h))
scalar_begins (V.Scalar.Int n) = number_begins n
scalar_begins (V.Scalar.Bool b) = truth_begins b
scalar_begins (V.Scalar.Text t) = by (omega arith) (λ h. omega (arith, h))
scalar_begins (V.Scalar.Err k) = error_begins k
scalar_begins (V.Scalar.Sheet s) = by (omega arith) (λ h. omega (arith, h))

pub shown_begins : (x : Shown) → Begins (shown_text x)
shown_begins Cycle = by (omega arith) (λ h. omega (arith, h))
shown_begins (Shown.Value x) = scalar_begins x

pub content_begins : (c : Content) → Begins (content_text c)
content_begins (Const x) = scalar_begins x
content_begins (Form f) = by (omega arith) (λ h. omega (arith, h))

pub line_begins : {t : Bytes} → Begins t → Begins (line t)
line_begins h = append h (by (omega arith) (λ e. omega (arith, e)))

-- ---- tables

first_char : (b : ℕ) (t : Bytes) → b < 128 → b ≢ 101 → Begins (chars_after 0 b t)
first_char b [] l n = by l n
first_char b (c ∷ t) l n = by l n

chars_begin : {t : Bytes} → Begins t → Begins (chars t)
unfolding chars
chars_begin empty = empty
chars_begin (by {b = b} {t = t} l n) =
    let e : nat_lt b 128 ≡ true = grind (arith, nat_tests, l) in
    rw e (first_char b t l n)

encoded_begins : {cs : Bytes} → Begins cs → Begins (encode_utf8_all cs)
encoded_begins empty = empty
encoded_begins (by {b = b} {t = t} l n) = rw (encode_ascii b l) (by l n)

cell_begins : (t : Bytes) → Begins t → Begins (cell_text t)
cell_begins t h = elim (nat_lt 24 (length (chars t))) as (λ c. Begins (cond c (encode_utf8_all (take 23 (chars t)) ++ codes "~") t)) [
  | true ↦ append (encoded_begins (take_begins 23 (chars_begin h))) (by (omega arith) (λ e. omega (arith, e)))
  | false ↦ h
]

spaces_begin : (n : ℕ) → Begins (replicate n 32)
spaces_begin zero = empty
spaces_begin (suc n) = by (omega arith) (λ e. omega (arith, e))

-- each of the texts begins so
abbrev AllBegin : List Bytes → Type 0
AllBegin ts = AllByRecursion Begins ts

aligned_begin : (ns : List ℕ) (ts : List Bytes) → AllBegin ts → AllBegin (aligned ns ts)
aligned_begin [] ts h = tt
aligned_begin (n ∷ ns) [] h = tt
aligned_begin (n ∷ ns) (t ∷ ts) h = (append (spaces_begin (n - length (chars t))) h.0, aligned_begin ns ts h.1)

joined_begins : (ts : List Bytes) → AllBegin ts → Begins (join_with_byte 32 ts)
joined_begins [] h = empty
joined_begins (t ∷ []) h = h.0
joined_begins (t ∷ u ∷ ts) h = append h.0 (by (omega arith) (λ e. omega (arith, e)))

cells_begin : (xs : List Shown) → AllBegin (map (λ x. cell_text (shown_text x)) xs)
cells_begin [] = tt
cells_begin (x ∷ xs) = (cell_begins (shown_text x) (shown_begins x), cells_begin xs)

rows_begin : (ns : List ℕ) (rows : List (List Shown)) → Begins (flat_map (λ row. line (join_with_byte 32 (aligned ns row))) (map (map (λ x. cell_text (shown_text x))) rows))
rows_begin ns [] = empty
rows_begin ns (xs ∷ rows) = append (line_begins (joined_begins (aligned ns (map (λ x. cell_text (shown_text x)) xs)) (aligned_begin ns (map (λ x. cell_text (shown_text x)) xs) (cells_begin xs)))) (rows_begin ns rows)

pub table_begins : (cols : ℕ) (rows : List (List Shown)) → Begins (table_text cols rows)
table_begins cols rows = rows_begin (widths (replicate cols 0) (map (map (λ x. cell_text (shown_text x))) rows)) rows
