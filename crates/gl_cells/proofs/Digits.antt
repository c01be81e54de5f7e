-- The numbers of rows of digits.
use Rattle.std.proofs.Common.{◌≡◌, ◌∙◌, ℕ, ◌+◌, ◌-◌, ◌*◌, ◌^◌, ◌<◌, ◌≤◌, nat_lt, Bool, true, false, ◌&&◌, [], ◌∷◌, length, drop, get_or, fold, Some, None, refl, sym, ap, subst, arith, if◌then◌else◌}
use Rattle.std.specs.List.{list_all}
use Rattle.std.proofs.lemmas.Bool.Decides.{nat_tests}
use Rattle.std.proofs.lemmas.List.{drop_more}
use Rattle.std.proofs.Math.Seq.{drop-length}
use Rattle.gl_language.specs.Texts.Text.{Bytes}
use Rattle.gl_language.specs.Reading.Token.{is_digit, digits_value}
use Rattle.gl_cells.specs.Plain.{digits_number}

abbrev pub more : ℕ → ℕ → ℕ
more n d = 10 * n + (d - 48)

-- the number of further digits behind a number
abbrev pub value_after : ℕ → Bytes → ℕ
value_after n bs = fold more n bs

pub at_least : (n : ℕ) (bs : Bytes) → n ≤ value_after n bs
at_least n [] = omega arith
at_least n (b ∷ bs) = let h = at_least (more n b) bs in omega (arith, h)

-- what the loop keeps: the digits so far, and their number
pub record Read (bs : Bytes) (n i : ℕ) : Type 0 where
  pub digits : list_all is_digit bs ≡ list_all is_digit (drop i bs)
  pub value : digits_value bs ≡ value_after n (drop i bs)
  pub some : 0 < length bs
  pub fits : n < 2 ^ 64

number_if : (a b c : Bool) (n : ℕ) → a ≡ true → b ≡ true → c ≡ true → (if a && b && c then Some n else None) ≡ Some n
number_if a b c n h i j = rw (h, i, j) refl

no_digits : (a b c : Bool) (n : ℕ) → b ≡ false → (if a && b && c then Some n else None) ≡ None
no_digits true b c n h = rw h refl
no_digits false b c n h = refl

too_great : (a b c : Bool) (n : ℕ) → c ≡ false → (if a && b && c then Some n else None) ≡ None
too_great true true c n h = rw h refl
too_great true false c n h = refl
too_great false b c n h = refl

lt_true : (m n : ℕ) → m < n → nat_lt m n ≡ true
lt_true m n h = grind (arith, nat_tests)

lt_false : (m n : ℕ) → n ≤ m → nat_lt m n ≡ false
lt_false m n h = grind (arith, nat_tests)

pub read_all : (bs : Bytes) (n : ℕ) → Read bs n (length bs) → Some n ≡ digits_number bs
read_all bs n h =
    let v : digits_value bs ≡ n = h.value ∙ ap (value_after n) (drop-length bs) in
    let g : list_all is_digit bs ≡ true = h.digits ∙ ap (list_all is_digit) (drop-length bs) in
    ap Some (sym v) ∙ sym (number_if (nat_lt 0 (length bs)) (list_all is_digit bs) (nat_lt (digits_value bs) (2 ^ 64)) (digits_value bs) (lt_true 0 (length bs) h.some) g (lt_true (digits_value bs) (2 ^ 64) (subst (λ k. k < 2 ^ 64) (sym v) h.fits)))

pub read_more : (bs : Bytes) (n i m : ℕ) → Read bs n i → i < length bs → is_digit (get_or bs i 0) ≡ true → m ≡ more n (get_or bs i 0) → m < 2 ^ 64 → Read bs m (i + 1)
read_more bs n i m h l d e fits = record {
  digits = h.digits ∙ ap (list_all is_digit) (drop_more bs i 0 l) ∙ ap (λ t. t && list_all is_digit (drop (i + 1) bs)) d;
  value = h.value ∙ ap (value_after n) (drop_more bs i 0 l) ∙ sym (ap (λ k. value_after k (drop (i + 1) bs)) e);
  some = h.some;
  fits = fits;
}

pub read_stops : (bs : Bytes) (n i : ℕ) → Read bs n i → i < length bs → ((is_digit (get_or bs i 0) ≡ true) × (more n (get_or bs i 0) < 2 ^ 64) → ⊥) → None ≡ digits_number bs
read_stops bs n i h l never =
    (elim (is_digit (get_or bs i 0)) as (λ t. is_digit (get_or bs i 0) ≡ t → None ≡ digits_number bs) [
      | false ↦ λ d.
          let g : list_all is_digit bs ≡ false = h.digits ∙ ap (list_all is_digit) (drop_more bs i 0 l) ∙ ap (λ t. t && list_all is_digit (drop (i + 1) bs)) d in
          sym (no_digits (nat_lt 0 (length bs)) (list_all is_digit bs) (nat_lt (digits_value bs) (2 ^ 64)) (digits_value bs) g)
      | true ↦ λ d.
          let far : 2 ^ 64 ≤ more n (get_or bs i 0) = (elim (nat_lt (more n (get_or bs i 0)) (2 ^ 64)) as (λ t. nat_lt (more n (get_or bs i 0)) (2 ^ 64) ≡ t → 2 ^ 64 ≤ more n (get_or bs i 0)) [
            | true ↦ λ t. absurd (never (d, grind (arith, nat_tests)))
            | false ↦ λ t. grind (arith, nat_tests)
          ]) refl in
          let all : digits_value bs ≡ value_after (more n (get_or bs i 0)) (drop (i + 1) bs) = h.value ∙ ap (value_after n) (drop_more bs i 0 l) in
          let least = at_least (more n (get_or bs i 0)) (drop (i + 1) bs) in
          sym (too_great (nat_lt 0 (length bs)) (list_all is_digit bs) (nat_lt (digits_value bs) (2 ^ 64)) (digits_value bs) (lt_false (digits_value bs) (2 ^ 64) (omega (arith, far, all, least))))
    ]) refl
