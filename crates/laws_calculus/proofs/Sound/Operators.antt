-- The operators and the functions on scalars give sound scalars.
use Rattle.std.proofs.Common.{◌≡◌, ℕ, zero, suc, ◌+◌, ◌^◌, ◌<◌, ◌≤◌, ◌==◌, ◌/◌, ◌%◌, nat_lt, nat_le, ℤ, pos, negsuc, ◌+ℤ◌, neg_ℤ, int_lt, int_le, int_div, Bool, true, false, ◌&&◌, List, [], ◌∷◌, ◌++◌, length, take, drop, Option, Some, None, refl, ap, ◌∙◌, sym, arith, if◌then◌else◌, int_rem, ◌||◌, ◌-ℤ◌, ◌*ℤ◌}
use Rattle.std.specs.Str.{is_utf8, IsUtf8, IsAscii, chars, all_scalars}
use Rattle.std.specs.List.{AllByRecursion}
use Rattle.std.specs.Prelude.{encode_utf8_all, codes}
use Rattle.std.specs.Fmt.{signed_decimal, decimal, digits, digits_onto, digit_glyph}
use Rattle.std.proofs.lemmas.Bool.{and_parts, and_from, leb-true, le-leb, ltb-false}
use Rattle.std.proofs.lemmas.Str.{IsUtf8-append, IsUtf8-nil, IsUtf8-from_is_utf8, is_utf8-from_IsUtf8, encodes-chars, scalars-chars, encodes-append, IsUtf8-from_ascii}
use Rattle.std.proofs.lemmas.List.{length-append, take-append-drop}
use Rattle.gl_calculus.specs.Grid.Limits.{max_text}
use Rattle.gl_calculus.specs.Values.ErrKind.{ErrKind}
use Rattle.gl_calculus.specs.Values.Value.{Scalar}
use Rattle.gl_calculus.specs.Values.Same.{same_int, same_bool}
use Rattle.gl_calculus.specs.Formulas.Formula.{Op}
use Rattle.gl_calculus.specs.Formulas.Formula as F
use Rattle.gl_calculus.specs.Values.Operators.{exact, strict, amount, on_amounts, numeric, quotient, modulo, on_amount, negate, magnitude, comparison, filled, compare, text, plain, join_text, operate}
use Rattle.laws_calculus.proofs.Sound.Values.{IsSound, either}

-- ---- numbers

pub exact_sound : (n : ℤ) → IsSound (exact n)
exact_sound n = either (int_le (neg_ℤ (pos (2 ^ 63))) n && int_lt n (pos (2 ^ 63))) (Scalar.Int n) (Scalar.Err ErrKind.Num) refl refl

pub strict_sound : (f : Scalar → Scalar → Scalar) → ((x y : Scalar) → IsSound x → IsSound y → IsSound (f x y)) → (x y : Scalar) → IsSound x → IsSound y → IsSound (strict f x y)
strict_sound f g (Scalar.Err k) y h l = refl
strict_sound f g x (Scalar.Err k) h l = refl
strict_sound f g (Scalar.Sheet s) y h l = refl
strict_sound f g x (Scalar.Sheet s) h l = refl
strict_sound f g x y h l = g x y h l

amounts_sound : (f : ℤ → ℤ → Scalar) → ((m n : ℤ) → IsSound (f m n)) → (m n : Option ℤ) → IsSound (on_amounts f m n)
amounts_sound f g (Some m) (Some n) = g m n
amounts_sound f g None n = refl
amounts_sound f g (Some m) None = refl

pub numeric_sound : (f : ℤ → ℤ → Scalar) → ((m n : ℤ) → IsSound (f m n)) → (x y : Scalar) → IsSound x → IsSound y → IsSound (numeric f x y)
numeric_sound f g = strict_sound (λ x y. on_amounts f (amount x) (amount y)) (λ x y h l. amounts_sound f g (amount x) (amount y))

quotient_sound : (m n : ℤ) → IsSound (quotient m n)
quotient_sound m n = either (same_int n (pos 0)) (Scalar.Err ErrKind.Div0) (exact (int_div m n)) refl (exact_sound (int_div m n))

pub modulo_sound : (m n : ℤ) → IsSound (modulo m n)
modulo_sound m n =
    let r = int_rem m n in
    let same = same_int r (pos 0) || same_bool (int_lt r (pos 0)) (int_lt n (pos 0)) in
    either (same_int n (pos 0)) (Scalar.Err ErrKind.Div0) (if same then exact r else exact (r +ℤ n)) refl (either same (exact r) (exact (r +ℤ n)) (exact_sound r) (exact_sound (r +ℤ n)))

amount_sound : (f : ℤ → Scalar) → ((n : ℤ) → IsSound (f n)) → (x : Scalar) → IsSound (on_amount f x)
amount_sound f g Scalar.Blank = g (pos 0)
amount_sound f g (Scalar.Int n) = g n
amount_sound f g (Scalar.Err k) = refl
amount_sound f g (Scalar.Bool b) = refl
amount_sound f g (Scalar.Text t) = refl
amount_sound f g (Scalar.Sheet s) = refl

pub negate_sound : (x : Scalar) → IsSound (negate x)
negate_sound x = amount_sound (λ n. exact (neg_ℤ n)) (λ n. exact_sound (neg_ℤ n)) x

pub magnitude_sound : (x : Scalar) → IsSound (magnitude x)
magnitude_sound x = amount_sound (λ n. exact (if int_lt n (pos 0) then neg_ℤ n else n)) (λ n. exact_sound (if int_lt n (pos 0) then neg_ℤ n else n)) x

pub compare_sound : (op : Op) (x y : Scalar) → IsSound x → IsSound y → IsSound (compare op x y)
compare_sound op = strict_sound (λ x y. Scalar.Bool (comparison op (filled x y) (filled y x))) (λ x y h l. refl)

-- ---- texts

text_parts : (t : List ℕ) → IsSound (Scalar.Text t) → IsUtf8 t × (length t ≤ max_text)
text_parts t h = let p = and_parts (is_utf8 t) (nat_le (length t) max_text) h in (IsUtf8-from_is_utf8 t p.0, leb-true (length t) max_text p.1)

text_from : (t : List ℕ) → IsUtf8 t → length t ≤ max_text → IsSound (Scalar.Text t)
text_from t h l = and_from (is_utf8 t) (nat_le (length t) max_text) (is_utf8-from_IsUtf8 t h) (le-leb (length t) max_text l)

text_step : (b : Bool) (t : List ℕ) → nat_lt max_text (length t) ≡ b → IsUtf8 t → IsSound (if b then Scalar.Err ErrKind.Size else Scalar.Text t)
text_step true t e h = refl
text_step false t e h = text_from t h (ltb-false max_text (length t) e)

text_sound : (t : List ℕ) → IsUtf8 t → IsSound (text t)
text_sound t h = text_step (nat_lt max_text (length t)) t refl h

-- at most 64 digits are written, whatever the number
choice_short : (b : Bool) (xs ys : List ℕ) (n : ℕ) → length xs ≤ n → length ys ≤ n → length (if b then xs else ys) ≤ n
choice_short true xs ys n h k = h
choice_short false xs ys n h k = k

digits_short : (k n : ℕ) (acc : List ℕ) → length (digits_onto k 10 false n acc) ≤ k + length acc
digits_short zero n acc = omega arith
digits_short (suc k) n acc =
    choice_short (n / 10 == 0) (digit_glyph false (n % 10) ∷ acc) (digits_onto k 10 false (n / 10) (digit_glyph false (n % 10) ∷ acc)) (suc k + length acc) (omega arith)
    (omega (arith, digits_short k (n / 10) (digit_glyph false (n % 10) ∷ acc)))

decimal_short : (n : ℕ) → length (decimal n) ≤ 64
unfolding digits
decimal_short n = digits_short 64 n []

byte_utf8 : (b : ℕ) → b < 128 → IsUtf8 (b ∷ [])
byte_utf8 b h = IsUtf8-from_ascii (b ∷ []) (below b h)
  where
    below : (b : ℕ) → b < 128 → IsAscii (b ∷ [])
    below b h zero = h
    below b h (suc i) = omega arith

glyph_utf8 : (d : ℕ) → d < 10 → IsUtf8 (digit_glyph false d ∷ [])
glyph_utf8 d h = by (nat_lt d 10)
  where
    by : (b : Bool) → IsUtf8 ((if b then 48 + d else (if false then 55 + d else 87 + d)) ∷ [])
    by true = byte_utf8 (48 + d) (omega arith)
    by false = byte_utf8 (87 + d) (omega arith)

choice_utf8 : (b : Bool) (xs ys : List ℕ) → IsUtf8 xs → IsUtf8 ys → IsUtf8 (if b then xs else ys)
choice_utf8 true xs ys h k = h
choice_utf8 false xs ys h k = k

digits_utf8 : (k n : ℕ) (acc : List ℕ) → IsUtf8 acc → IsUtf8 (digits_onto k 10 false n acc)
digits_utf8 zero n acc h = h
digits_utf8 (suc k) n acc h =
    let more = IsUtf8-append (digit_glyph false (n % 10) ∷ []) acc (glyph_utf8 (n % 10) (omega arith)) h in
    choice_utf8 (n / 10 == 0) (digit_glyph false (n % 10) ∷ acc) (digits_onto k 10 false (n / 10) (digit_glyph false (n % 10) ∷ acc)) more (digits_utf8 k (n / 10) (digit_glyph false (n % 10) ∷ acc) more)

decimal_utf8 : (n : ℕ) → IsUtf8 (decimal n)
unfolding digits
decimal_utf8 n = digits_utf8 64 n [] IsUtf8-nil

signed_short : (n : ℤ) → length (signed_decimal n) ≤ max_text
signed_short (pos n) = omega (arith, decimal_short n)
signed_short (negsuc n) = omega (arith, decimal_short (suc n))

below_utf8 : (bs : List ℕ) → AllByRecursion (λ b. b < 128) bs → IsUtf8 bs
below_utf8 [] h = IsUtf8-nil
below_utf8 (b ∷ bs) h = IsUtf8-append (b ∷ []) bs (byte_utf8 b h.0) (below_utf8 bs h.1)

signed_utf8 : (n : ℤ) → IsUtf8 (signed_decimal n)
signed_utf8 (pos n) = decimal_utf8 n
signed_utf8 (negsuc n) = IsUtf8-append (45 ∷ []) (decimal (suc n)) (byte_utf8 45 (omega arith)) (decimal_utf8 (suc n))

true_utf8 : IsUtf8 (codes "TRUE")
true_utf8 = below_utf8 (codes "TRUE") (omega arith, (omega arith, (omega arith, (omega arith, tt))))

false_utf8 : IsUtf8 (codes "FALSE")
false_utf8 = below_utf8 (codes "FALSE") (omega arith, (omega arith, (omega arith, (omega arith, (omega arith, tt)))))

plain_utf8 : (x : Scalar) → IsSound x → IsUtf8 (plain x)
plain_utf8 (Scalar.Int n) h = signed_utf8 n
plain_utf8 (Scalar.Bool true) h = true_utf8
plain_utf8 (Scalar.Bool false) h = false_utf8
plain_utf8 (Scalar.Text t) h = (text_parts t h).0
plain_utf8 x h = IsUtf8-nil

plain_short : (x : Scalar) → IsSound x → length (plain x) ≤ max_text
plain_short (Scalar.Int n) h = signed_short n
plain_short (Scalar.Bool true) h = omega arith
plain_short (Scalar.Bool false) h = omega arith
plain_short (Scalar.Text t) h = (text_parts t h).1
plain_short x h = omega arith

join_sound : (x y : Scalar) → IsSound x → IsSound y → IsSound (join_text x y)
join_sound = strict_sound (λ x y. text (plain x ++ plain y)) (λ x y h l. text_sound (plain x ++ plain y) (IsUtf8-append (plain x) (plain y) (plain_utf8 x h) (plain_utf8 y l)))

pub operate_sound : (op : Op) (x y : Scalar) → IsSound x → IsSound y → IsSound (operate op x y)
operate_sound F.Op.Add = numeric_sound (λ m n. exact (m +ℤ n)) (λ m n. exact_sound (m +ℤ n))
operate_sound F.Op.Sub = numeric_sound (λ m n. exact (m -ℤ n)) (λ m n. exact_sound (m -ℤ n))
operate_sound F.Op.Mul = numeric_sound (λ m n. exact (m *ℤ n)) (λ m n. exact_sound (m *ℤ n))
operate_sound F.Op.Div = numeric_sound quotient quotient_sound
operate_sound F.Op.Join = join_sound
operate_sound F.Op.Eq = compare_sound F.Op.Eq
operate_sound F.Op.Ne = compare_sound F.Op.Ne
operate_sound F.Op.Lt = compare_sound F.Op.Lt
operate_sound F.Op.Le = compare_sound F.Op.Le
operate_sound F.Op.Gt = compare_sound F.Op.Gt
operate_sound F.Op.Ge = compare_sound F.Op.Ge

-- ---- parts of texts

-- the characters of a text are cut into a first part and a rest
take_scalars : (n : ℕ) (cs : List ℕ) → all_scalars cs ≡ true → all_scalars (take n cs) ≡ true
take_scalars zero cs h = refl
take_scalars (suc n) [] h = refl
take_scalars (suc n) (c ∷ cs) h = let p = and_parts _ (all_scalars cs) h in and_from _ (all_scalars (take n cs)) p.0 (take_scalars n cs p.1)

drop_scalars : (n : ℕ) (cs : List ℕ) → all_scalars cs ≡ true → all_scalars (drop n cs) ≡ true
drop_scalars zero cs h = h
drop_scalars (suc n) [] h = refl
drop_scalars (suc n) (c ∷ cs) h = drop_scalars n cs (and_parts _ (all_scalars cs) h).1

both_parts : (n : ℕ) (cs : List ℕ) → length (encode_utf8_all (take n cs)) + length (encode_utf8_all (drop n cs)) ≡ length (encode_utf8_all cs)
both_parts n cs =
    sym (length-append (encode_utf8_all (take n cs)) (encode_utf8_all (drop n cs)))
    ∙ ap length (sym (encodes-append (take n cs) (drop n cs)))
    ∙ ap (λ t. length (encode_utf8_all t)) (take-append-drop n cs)

chars_bytes : (x : Scalar) → IsSound x → length (encode_utf8_all (chars (plain x))) ≤ max_text
chars_bytes x h = omega (arith, ap length (encodes-chars (plain x) (plain_utf8 x h)), plain_short x h)

pub first_chars : (n : ℕ) (x : Scalar) → IsSound x → IsSound (Scalar.Text (encode_utf8_all (take n (chars (plain x)))))
first_chars n x h =
    text_from (encode_utf8_all (take n (chars (plain x)))) (take n (chars (plain x)), (take_scalars n (chars (plain x)) (scalars-chars (plain x) (plain_utf8 x h)), refl))
    (omega (arith, both_parts n (chars (plain x)), chars_bytes x h))

pub last_chars : (n : ℕ) (x : Scalar) → IsSound x → IsSound (Scalar.Text (encode_utf8_all (drop n (chars (plain x)))))
last_chars n x h =
    text_from (encode_utf8_all (drop n (chars (plain x)))) (drop n (chars (plain x)), (drop_scalars n (chars (plain x)) (scalars-chars (plain x) (plain_utf8 x h)), refl))
    (omega (arith, both_parts n (chars (plain x)), chars_bytes x h))
