-- What stands in front of a text that begins with a digit or a letter.
use Rattle.std.proofs.Common.{◌≡◌, ℕ, ◌^◌, ◌<◌, ◌≤◌, ℤ, pos, Bool, true, ◌++◌, take, drop, length, get_or, ap, sym, ◌∙◌, arith}
use Rattle.std.specs.List.{prefix_len}
use Rattle.std.proofs.lemmas.List.{length-take-le}
use Rattle.std.proofs.lemmas.List.Sums.{prefix_len-le-length}
use Rattle.std.proofs.Math.Seq.{take-append_seam, drop-append_seam}
use Rattle.gl_language.specs.Texts.Text.{Bytes}
use Rattle.gl_language.specs.Reading.Token as T
use Rattle.gl_language.specs.Reading.Token.{is_digit, is_lower, IsRow, NotBefore, Takes, digits_value, integer, quoted, address, truth, word, variable, signed}
use Rattle.gl_lex.specs.declared.Kind.TheVariants as k
use Rattle.gl_lex.specs.declared.scan.Bad.TheVariants as bad
use Rattle.gl_lex.specs.declared.scan.Class.TheVariants.{Digit, Lower}
use Rattle.gl_lex.specs.Front.{row, IsFront, Refuses}
use Rattle.gl_lex.proofs.Rows.{AllPass, row_passes, row_stops, row_is, row_first}
use Rattle.gl_lex.proofs.Starts.{starts, takes_starts, apart_digit_upper, apart_digit_lower, apart_digit_quote, apart_digit_other, apart_upper_lower, apart_lower_quote, apart_lower_other}

-- the first byte
abbrev pub first : Bytes → ℕ
first bytes = get_or bytes 0 0

-- a token and what follows it, cut at a place of the text
pub record CutAt (bytes : Bytes) (n : ℕ) (bs rest : Bytes) : Type 0 where
  pub front : take n bytes ≡ bs
  pub behind : drop n bytes ≡ rest

pub cut_at : (bytes bs rest : Bytes) (n : ℕ) → bytes ≡ bs ++ rest → n ≡ length bs → CutAt bytes n bs rest
cut_at bytes bs rest n e h = record {
  front = ap (take n) e ∙ ap (λ m. take m (bs ++ rest)) h ∙ take-append_seam bs rest;
  behind = ap (drop n) e ∙ ap (λ m. drop m (bs ++ rest)) h ∙ drop-append_seam bs rest;
}

-- a row that is the token
pub row_cut : (p : ℕ → Bool) (bytes bs rest : Bytes) → bytes ≡ bs ++ rest → AllPass p bs → NotBefore p rest → CutAt bytes (prefix_len p bytes) bs rest
row_cut p bytes bs rest e a n = cut_at bytes bs rest (prefix_len p bytes) e (ap (prefix_len p) e ∙ row_is p bs rest a n)

-- ---- digits

pub record IsNumber (bytes : Bytes) (t : T.Token) (rest : Bytes) : Type 0 where
  pub token : t ≡ T.Integer (digits_value (take (prefix_len is_digit bytes) bytes))
  pub small : digits_value (take (prefix_len is_digit bytes) bytes) < 2 ^ 63
  pub behind : drop (prefix_len is_digit bytes) bytes ≡ rest

pub digit_front : (bytes : Bytes) (t : T.Token) (rest : Bytes) → Takes bytes t rest → is_digit (first bytes) ≡ true → IsNumber bytes t rest
digit_front bytes t rest takes h = by takes (takes_starts bytes t rest takes)
  where
    by : {t : T.Token} → Takes bytes t rest → starts t (first bytes) ≡ true → IsNumber bytes t rest
    by (bs, e, integer row small, ends) s =
        let c = row_cut is_digit bytes bs rest e row.1 ends in
        record { token = ap (λ z. T.Integer (digits_value z)) (sym c.front); small = rw c.front small; behind = c.behind }
    by (bs, e, quoted d u l, ends) s = absurd (apart_digit_quote (first bytes) h s)
    by (bs, e, address a, ends) s = absurd (apart_digit_upper (first bytes) h s)
    by (bs, e, truth, ends) s = absurd (apart_digit_upper (first bytes) h s)
    by (bs, e, word row m n, ends) s = absurd (apart_digit_upper (first bytes) h s)
    by (bs, e, variable row, ends) s = absurd (apart_digit_lower (first bytes) h s)
    by (bs, e, signed, ends) s = absurd (apart_digit_other (first bytes) h s)

module _ (bytes : Bytes) (some : 0 < length bytes) where
  pub row_of_front : (p : ℕ → Bool) → p (first bytes) ≡ true → IsRow p (take (prefix_len p bytes) bytes)
  row_of_front p h = (rw (length-take-le (prefix_len p bytes) bytes (prefix_len-le-length p bytes)) (row_first p bytes h some), row_passes p bytes)

  pub number_front : is_digit (first bytes) ≡ true → digits_value (take (row Digit bytes) bytes) < 2 ^ 63 → IsFront bytes (k.Integer (pos (digits_value (take (row Digit bytes) bytes)))) (row Digit bytes)
  unfolding row
  number_front h small = record { spells = integer (row_of_front is_digit h) small; ends = row_stops is_digit bytes; some = row_first is_digit bytes h some; within = prefix_len-le-length is_digit bytes }

  pub number_refused : is_digit (first bytes) ≡ true → 2 ^ 63 ≤ digits_value (take (row Digit bytes) bytes) → Refuses bytes bad.Number
  unfolding row
  number_refused h large = (λ t more takes. omega (arith, large, (digit_front bytes t more takes h).small), grind (arith, h))

-- ---- lower case letters

pub record IsVariable (bytes : Bytes) (t : T.Token) (rest : Bytes) : Type 0 where
  pub token : t ≡ T.Variable (take (prefix_len is_lower bytes) bytes)
  pub behind : drop (prefix_len is_lower bytes) bytes ≡ rest

pub lower_front : (bytes : Bytes) (t : T.Token) (rest : Bytes) → Takes bytes t rest → is_lower (first bytes) ≡ true → IsVariable bytes t rest
lower_front bytes t rest takes h = by takes (takes_starts bytes t rest takes)
  where
    by : {t : T.Token} → Takes bytes t rest → starts t (first bytes) ≡ true → IsVariable bytes t rest
    by (bs, e, variable row, ends) s =
        let c = row_cut is_lower bytes bs rest e row.1 ends in
        record { token = ap T.Variable (sym c.front); behind = c.behind }
    by (bs, e, integer row small, ends) s = absurd (apart_digit_lower (first bytes) s h)
    by (bs, e, quoted d u l, ends) s = absurd (apart_lower_quote (first bytes) h s)
    by (bs, e, address a, ends) s = absurd (apart_upper_lower (first bytes) s h)
    by (bs, e, truth, ends) s = absurd (apart_upper_lower (first bytes) s h)
    by (bs, e, word row m n, ends) s = absurd (apart_upper_lower (first bytes) s h)
    by (bs, e, signed, ends) s = absurd (apart_lower_other (first bytes) h s)

pub variable_front : (bytes : Bytes) → 0 < length bytes → is_lower (first bytes) ≡ true → IsFront bytes k.Variable (row Lower bytes)
unfolding row
variable_front bytes some h = record { spells = variable (row_of_front bytes some is_lower h); ends = row_stops is_lower bytes; some = row_first is_lower bytes h some; within = prefix_len-le-length is_lower bytes }

-- as the code comes to them
pub number_is : (bytes : Bytes) (n : ℕ) (v : ℤ) → 0 < length bytes → is_digit (first bytes) ≡ true → n ≡ row Digit bytes → v ≡ pos (digits_value (take n bytes)) → digits_value (take n bytes) < 2 ^ 63 → IsFront bytes (k.Integer v) n
number_is bytes n v some h e is small =
    let f : IsFront bytes (k.Integer (pos (digits_value (take (row Digit bytes) bytes)))) (row Digit bytes) = number_front bytes some h (rw (sym e) small) in
    rw (is, e) f

pub number_is_not : (bytes : Bytes) (n : ℕ) → 0 < length bytes → is_digit (first bytes) ≡ true → n ≡ row Digit bytes → 2 ^ 63 ≤ digits_value (take n bytes) → Refuses bytes bad.Number
number_is_not bytes n some h e large = number_refused bytes some h (rw (sym e) large)

pub variable_is : (bytes : Bytes) (n : ℕ) → 0 < length bytes → is_lower (first bytes) ≡ true → n ≡ row Lower bytes → IsFront bytes k.Variable n
variable_is bytes n some h e = rw e (variable_front bytes some h)
