-- The length of a text and of its tokens: the canonical spelling of a token is the shortest, and the canonical text of a formula is its tokens' spellings.
use Rattle.std.proofs.Common.{◌≡◌, ◌≢◌, ℕ, ◌+◌, ◌-◌, ◌*◌, ◌/◌, ◌%◌, ◌^◌, ◌<◌, ◌≤◌, pos, negsuc, Bool, true, false, ◌==◌, ◌⊎◌, inl, inr, [], ◌∷◌, ◌++◌, length, refl, ap, arith, IsTrue, IsFalse}
use Rattle.std.specs.Prelude.{codes, flat_map}
use Rattle.std.specs.Fmt.{decimal}
use Rattle.std.specs.List.{AllByRecursion, join_with_byte}
use Rattle.std.proofs.lemmas.Bool.{cases_lt}
use Rattle.std.proofs.lemmas.Bool.Decides.{nat_tests}
use Rattle.std.proofs.lemmas.Fmt.{decimal_digit, decimal_step}
use Rattle.std.proofs.lemmas.List.{length-append, length_push}
use Rattle.gl_calculus.specs.Grid.Notation.{address_text}
use Rattle.gl_calculus.specs.Formulas.Formula.{Op, Formula, Formulas, Operands}
use Rattle.gl_calculus.specs.Formulas.Formula as F
use Rattle.gl_language.specs.Texts.Text.{Bytes, escaped, is_control, literal_text, truth_text, op_text, fun_text, level_place, one_more, minus_of, in_parens, needs_parens, text_behind, operands_text, texts}
use Rattle.gl_language.specs.Reading.Token as T
use Rattle.gl_language.specs.Reading.Token.{Token, Sign, is_digit, IsRow, Decodes, Spells, Reads, no_more, space, token, integer, quoted, address, truth, word, variable, signed, Lexes, sign_text}
use Rattle.gl_language.specs.Texts.Canonical.{in_place, Tokens, op_sign, tokens_in_place, tokens_behind, operands_tokens, arguments_tokens, more_tokens, HasTokens, HaveTokens, AllHaveTokens}
use Rattle.gl_lex.specs.Front.{value_from}
use Rattle.gl_lex.proofs.Values.{value_grows}

-- the length of a token's canonical spelling
abbrev pub token_size : Token → ℕ
token_size (T.Integer n) = length (decimal n)
token_size (T.Quoted t) = length (literal_text t)
token_size (T.Address a) = length (address_text a)
token_size (T.Truth b) = length (truth_text b)
token_size (T.Word w) = length w
token_size (T.Variable v) = length v
token_size (T.Signed s) = length (sign_text s)

abbrev pub size : Tokens → ℕ
size [] = 0
size (t ∷ ts) = token_size t + size ts

pub size-append : (ts us : Tokens) → size (ts ++ us) ≡ size ts + size us
size-append [] us = omega arith
size-append (t ∷ ts) us = omega (arith, size-append ts us)

-- ---- integers

one_digit_more : (n d : ℕ) → d < 10 → 10 * n + d < 2 ^ 64 → length (decimal (10 * n + d)) ≤ length (decimal n) + 1
one_digit_more n d h small = by (cases_lt (10 * n + d) 10)
  where
    by : (10 * n + d < 10) ⊎ (10 ≤ 10 * n + d) → length (decimal (10 * n + d)) ≤ length (decimal n) + 1
    by (inl k) = omega (arith, ap length (decimal_digit (10 * n + d) k))
    by (inr k) =
        let e : (10 * n + d) / 10 ≡ n = omega (arith, h) in
        let f : length (decimal (10 * n + d)) ≡ length (decimal ((10 * n + d) / 10) ++ ((48 + (10 * n + d) % 10) ∷ [])) = ap length (decimal_step (10 * n + d) k small) in
        omega (arith, f, length_push (decimal ((10 * n + d) / 10)) (48 + (10 * n + d) % 10), ap (λ z. length (decimal z)) e)

digit_small : (b : ℕ) → IsTrue (is_digit b) → b - 48 < 10
digit_small b h = grind (arith, nat_tests, h)

digits_size : (n : ℕ) (bs : Bytes) → AllByRecursion (λ b. IsTrue (is_digit b)) bs → value_from n bs < 2 ^ 64 → length (decimal (value_from n bs)) ≤ length (decimal n) + length bs
digits_size n [] h small = omega arith
digits_size n (b ∷ bs) h small =
    let d = b - 48 in
    let l = one_digit_more n d (digit_small b h.0) (omega (arith, value_grows (10 * n + d) bs, small)) in
    omega (arith, l, digits_size (10 * n + d) bs h.1 small)

integer_size : (bs : Bytes) → IsRow is_digit bs → T.digits_value bs < 2 ^ 63 → length (decimal (T.digits_value bs)) ≤ length bs
integer_size [] h small = absurd (omega (arith, h.0))
integer_size (b ∷ bs) h small =
    let d = b - 48 in
    let e : length (decimal (10 * 0 + d)) ≡ 1 = ap length (decimal_digit (10 * 0 + d) (omega (arith, digit_small b h.1.0))) in
    omega (arith, e, digits_size (10 * 0 + d) bs h.1.1 (omega (arith, small)))

-- ---- texts

escaped_by : (b : ℕ) (u v w x y z : Bool) → (b == 92) ≡ u → (b == 34) ≡ v → (b == 10) ≡ w → (b == 13) ≡ x → (b == 9) ≡ y → is_control b ≡ z → length (escaped b) ≤ 4
escaped_by b true v w x y z p q r i j k = rw p (omega arith)
escaped_by b false true w x y z p q r i j k = rw (p, q) (omega arith)
escaped_by b false false true x y z p q r i j k = rw (p, q, r) (omega arith)
escaped_by b false false false true y z p q r i j k = rw (p, q, r, i) (omega arith)
escaped_by b false false false false true z p q r i j k = rw (p, q, r, i, j) (omega arith)
escaped_by b false false false false false true p q r i j k = rw (p, q, r, i, j, k) (omega arith)
escaped_by b false false false false false false p q r i j k = rw (p, q, r, i, j, k) (omega arith)

escaped_size : (b : ℕ) → length (escaped b) ≤ 4
escaped_size b = escaped_by b (b == 92) (b == 34) (b == 10) (b == 13) (b == 9) (is_control b) refl refl refl refl refl refl

plain_size : (b : ℕ) → b ≢ 92 → b ≢ 34 → IsFalse (is_control b) → length (escaped b) ≡ 1
plain_size b m n k =
    let p : (b == 92) ≡ false = grind (arith, nat_tests, m) in
    let q : (b == 34) ≡ false = grind (arith, nat_tests, n) in
    let r : (b == 10) ≡ false = grind (arith, nat_tests, k) in
    let i : (b == 13) ≡ false = grind (arith, nat_tests, k) in
    let j : (b == 9) ≡ false = grind (arith, nat_tests, k) in
    rw (p, q, r, i, j, k) refl

itself_size : (b : ℕ) → (b ≡ 92) ⊎ (b ≡ 34) → length (escaped b) ≡ 2
itself_size b (inl e) = ap (λ z. length (escaped z)) e
itself_size b (inr e) = ap (λ z. length (escaped z)) e

pub decodes_size : {s t : Bytes} → Decodes s t → length (flat_map escaped t) ≤ length s
decodes_size T.end = omega arith
decodes_size (T.plain {b = b} {s = s} {t = t} m n k d) = omega (arith, length-append (escaped b) (flat_map escaped t), plain_size b m n k, decodes_size d)
decodes_size (T.itself {b = b} {s = s} {t = t} e d) = omega (arith, length-append (escaped b) (flat_map escaped t), itself_size b e, decodes_size d)
decodes_size (T.newline d) = omega (arith, decodes_size d)
decodes_size (T.return d) = omega (arith, decodes_size d)
decodes_size (T.tab d) = omega (arith, decodes_size d)
decodes_size (T.hex {m = m} {n = n} {s = s} {t = t} h l small d) = omega (arith, length-append (escaped (16 * m + n)) (flat_map escaped t), escaped_size (16 * m + n), decodes_size d)

-- ---- tokens

pub spells_size : {t : Token} {bs : Bytes} → Spells t bs → token_size t ≤ length bs
spells_size (integer {bs = bs} row small) = integer_size bs row small
spells_size (quoted {s = s} {t = t} d u l) = omega (arith, length_push (34 ∷ flat_map escaped t) 34, length_push (34 ∷ s) 34, decodes_size d)
spells_size (address on) = omega arith
spells_size truth = omega arith
spells_size (word row m n) = omega arith
spells_size (variable row) = omega arith
spells_size signed = omega arith

pub reads_size : {text rest : Bytes} {ts : Tokens} → Reads text ts rest → size ts + length rest ≤ length text
reads_size no_more = omega arith
reads_size (space r) = omega (arith, reads_size r)
reads_size (token {more = more} (bs, e, s, ends) r) = omega (arith, ap length e, length-append bs more, spells_size s, reads_size r)

pub lexes_size : (text : Bytes) (ts : Tokens) → Lexes text ts → size ts ≤ length text
lexes_size text ts r = omega (arith, reads_size r)

-- ---- formulas

op_size : (op : Op) → length (op_text op) ≡ length (sign_text (op_sign op))
op_size F.Op.Eq = refl
op_size F.Op.Ne = refl
op_size F.Op.Lt = refl
op_size F.Op.Le = refl
op_size F.Op.Gt = refl
op_size F.Op.Ge = refl
op_size F.Op.Join = refl
op_size F.Op.Add = refl
op_size F.Op.Sub = refl
op_size F.Op.Mul = refl
op_size F.Op.Div = refl

parens_size : (x : Bytes) (ts : Tokens) → length x ≡ size ts → length (in_parens x) ≡ size (T.Signed T.Sign.LeftParen ∷ (ts ++ T.Signed T.Sign.RightParen ∷ []))
parens_size x ts h = omega (arith, h, length_push (40 ∷ x) 41, size-append ts (T.Signed T.Sign.RightParen ∷ []))

place_size : (b : Bool) (text : ℕ → Bytes) (ts : ℕ → Tokens) → ((m : ℕ) → length (text m) ≡ size (ts m)) → (m : ℕ) → length (in_place b text m) ≡ size (tokens_in_place b ts m)
place_size true text ts h m = parens_size (text 0) (ts 0) (h 0)
place_size false text ts h m = h m

mutual
  pub text_size : (f : Formula) → HasTokens f → (m : ℕ) → length (text_behind m f) ≡ size (tokens_behind m f)
  text_size (F.Formula.Int (pos n)) h m = omega arith
  text_size (F.Formula.Int (negsuc n)) h m = absurd h
  text_size (F.Formula.Text t) h m = omega arith
  text_size (F.Formula.Bool b) h m = omega arith
  text_size (F.Formula.At a) h m = omega arith
  text_size (F.Formula.Spill a) h m = omega (arith, length-append (address_text a) (codes "#"))
  text_size (F.Formula.Area r) h m = omega (arith, length-append (address_text r.first ++ codes ":") (address_text r.last), length-append (address_text r.first) (codes ":"))
  text_size (F.Formula.Var v) h m = omega arith
  text_size (F.Formula.Neg f) h m = omega (arith, place_size (needs_parens (one_more m) 4 f) (λ k. text_behind k f) (λ k. tokens_behind k f) (λ k. text_size f h k) (one_more m))
  text_size (F.Formula.Chain level f os) h m =
      let p = level_place level + 1 in
      let x = in_place (needs_parens m p f) (λ k. text_behind k f) m in
      let xs = tokens_in_place (needs_parens m p f) (λ k. tokens_behind k f) m in
      omega (arith, length-append x (operands_text p os), size-append xs (operands_tokens p os), place_size (needs_parens m p f) (λ k. text_behind k f) (λ k. tokens_behind k f) (λ k. text_size f h.0 k) m, operands_size p os h.1)
  text_size (F.Formula.Compare op f g) h m =
      let x = in_place (needs_parens m 1 f) (λ k. text_behind k f) m in
      let xs = tokens_in_place (needs_parens m 1 f) (λ k. tokens_behind k f) m in
      let y = in_place (needs_parens 0 1 g) (λ k. text_behind k g) 0 in
      let ys = tokens_in_place (needs_parens 0 1 g) (λ k. tokens_behind k g) 0 in
      omega (arith, length-append (x ++ op_text op) y, length-append x (op_text op), op_size op, size-append xs (T.Signed (op_sign op) ∷ ys), place_size (needs_parens m 1 f) (λ k. text_behind k f) (λ k. tokens_behind k f) (λ k. text_size f h.0 k) m, place_size (needs_parens 0 1 g) (λ k. text_behind k g) (λ k. tokens_behind k g) (λ k. text_size g h.1 k) 0)
  text_size (F.Formula.Call f xs) h m =
      let x = join_with_byte 44 (texts xs) in
      omega (arith, length-append (fun_text f) (in_parens x), parens_size x (arguments_tokens xs) (arguments_size xs h))
  text_size (F.Formula.Let v f body) h m =
      let x = text_behind 0 f in
      let y = text_behind 0 body in
      let all = v ++ (44 ∷ (x ++ (44 ∷ y))) in
      let close = T.Signed T.Sign.RightParen ∷ [] in
      let bs = tokens_behind 0 body in
      omega (arith, length_push (40 ∷ all) 41, length-append v (44 ∷ (x ++ (44 ∷ y))), length-append x (44 ∷ y), size-append (tokens_behind 0 f) (T.Signed T.Sign.Comma ∷ (bs ++ close)), size-append bs close, text_size f h.1.0 0, text_size body h.1.1 0)

  operands_size : (p : ℕ) (os : Operands) → HaveTokens os → length (operands_text p os) ≡ size (operands_tokens p os)
  operands_size p F.Operands.no_operand h = refl
  operands_size p (F.Operands.operand_and op f os) h =
      let k = minus_of op in
      let x = in_place (needs_parens k p f) (λ m. text_behind m f) k in
      let xs = tokens_in_place (needs_parens k p f) (λ m. tokens_behind m f) k in
      omega (arith, length-append (op_text op ++ x) (operands_text p os), length-append (op_text op) x, op_size op, size-append xs (operands_tokens p os), place_size (needs_parens k p f) (λ m. text_behind m f) (λ m. tokens_behind m f) (λ m. text_size f h.0 m) k, operands_size p os h.1)

  arguments_size : (fs : Formulas) → AllHaveTokens fs → length (join_with_byte 44 (texts fs)) ≡ size (arguments_tokens fs)
  arguments_size F.Formulas.no_formula h = refl
  arguments_size (F.Formulas.formula_and f fs) h = omega (arith, more_size fs h.1 (text_behind 0 f), text_size f h.0 0, size-append (tokens_behind 0 f) (more_tokens fs))

  more_size : (fs : Formulas) → AllHaveTokens fs → (x : Bytes) → length (join_with_byte 44 (x ∷ texts fs)) ≡ length x + size (more_tokens fs)
  more_size F.Formulas.no_formula h x = omega arith
  more_size (F.Formulas.formula_and f fs) h x =
      let y = join_with_byte 44 (text_behind 0 f ∷ texts fs) in
      omega (arith, length-append x (44 ∷ y), more_size fs h.1 (text_behind 0 f), text_size f h.0 0, size-append (tokens_behind 0 f) (more_tokens fs))
