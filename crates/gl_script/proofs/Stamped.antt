-- The sites and times that digits write.
use Rattle.std.proofs.Common.{◌≡◌, ◌∙◌, ℕ, ◌<◌, ◌^◌, Bool, true, false, cond, ◌&&◌, ltb, leb, Option, Some, None, Result, Ok, Err, refl, ap, arith}
use Rattle.std.proofs.lemmas.Bool.Decides.{nat_tests}
use Rattle.std.proofs.lemmas.Result.{OkIff-at_ok}
use Rattle.std.specs.Str.Parse.{ParsesUnsigned}
use Rattle.std.specs.Result.{result_ok}
use Rattle.gl_language.specs.Texts.Text.{Bytes}
use Rattle.gl_language.specs.Reading.Token.{digits_value}
use Rattle.gl_calculus.specs.Edits.Limits.{max_time, max_site}
use Rattle.gl_protocol.specs.Framing.Pieces.{is_number}
use Rattle.gl_protocol.specs.Scripts.Commands as C
use Rattle.gl_script.specs.Parts.{some_words}
use Rattle.gl_script.specs.Numbers.{is_site, is_time, pair_if, stamp_in}
use Rattle.gl_script.proofs.Headers.{counted, some_digit}

-- ---- sites

pub site_off : (bs : Bytes) → is_number bs ≡ false → None ≡ cond (is_site bs) (Some (digits_value bs)) None
site_off bs e = rw e refl

site_read : {E : Type 0} (bs : Bytes) (r : Result ℕ E) (n : ℕ) → ParsesUnsigned 16 10 bs r → r ≡ Ok n → is_number bs ≡ true → Some n ≡ cond (is_site bs) (Some (digits_value bs)) None
site_read bs r n h ok e =
    let c = OkIff-at_ok r _ (digits_value bs) n (counted 16 bs r h e) ok in
    let l : digits_value bs < 2 ^ 16 = c.0.1 in
    let f : leb (digits_value bs) max_site ≡ true = grind (arith, nat_tests) in
    rw (e, f) (ap (λ (k : ℕ). Some k) c.1)

site_past : {E : Type 0} (bs : Bytes) (x : E) → ParsesUnsigned 16 10 bs (Err x) → is_number bs ≡ true → None ≡ cond (is_site bs) (Some (digits_value bs)) None
site_past bs x h e = rw e (by (leb (digits_value bs) max_site) refl)
  where
    by : (b : Bool) → leb (digits_value bs) max_site ≡ b → None ≡ cond b (Some (digits_value bs)) None
    by true f = let l : digits_value bs < 2 ^ 16 = grind (arith, nat_tests) in absurd (counted 16 bs (Err x) h e (some_digit bs e, l))
    by false f = refl

pub site_is : {E : Type 0} (bs : Bytes) (r : Result ℕ E) (o : Option ℕ) → ParsesUnsigned 16 10 bs r → o ≡ result_ok r → is_number bs ≡ true → o ≡ cond (is_site bs) (Some (digits_value bs)) None
site_is {E} bs (Ok n) o h e k = e ∙ site_read {E = E} bs (Ok n) n h refl k
site_is {E} bs (Err x) o h e k = e ∙ site_past {E = E} bs x h k

-- ---- times

pub time_off : (bs : Bytes) → is_number bs ≡ false → None ≡ cond (is_time bs) (Some (digits_value bs)) None
time_off bs e = rw e refl

abbrev in_times : ℕ → Option ℕ
in_times n = cond (ltb 0 n && leb n max_time) (Some n) None

pub time_read : {E : Type 0} (bs : Bytes) (r : Result ℕ E) (n : ℕ) (o : Option ℕ) → ParsesUnsigned 64 10 bs r → r ≡ Ok n → is_number bs ≡ true → o ≡ in_times n → o ≡ cond (is_time bs) (Some (digits_value bs)) None
time_read bs r n o h ok e g =
    let c = OkIff-at_ok r _ (digits_value bs) n (counted 64 bs r h e) ok in
    g ∙ ap in_times c.1 ∙ rw e refl

pub time_past : {E : Type 0} (bs : Bytes) (x : E) → ParsesUnsigned 64 10 bs (Err x) → is_number bs ≡ true → None ≡ cond (is_time bs) (Some (digits_value bs)) None
time_past bs x h e = rw e (by (ltb 0 (digits_value bs)) (leb (digits_value bs) max_time) refl)
  where
    by : (a b : Bool) → leb (digits_value bs) max_time ≡ b → None ≡ cond (a && b) (Some (digits_value bs)) None
    by true true f = let l : digits_value bs < 2 ^ 64 = grind (arith, nat_tests) in absurd (counted 64 bs (Err x) h e (some_digit bs e, l))
    by true false f = refl
    by false b f = refl

-- ---- stamps

module _ (t n : Bytes) (numbers : (is_number t && is_number n) ≡ true) where
  both : (is_number t ≡ true) × (is_number n ≡ true)
  both = by (is_number t) (is_number n) refl refl numbers
    where
      by : (a b : Bool) → is_number t ≡ a → is_number n ≡ b → (a && b) ≡ true → (is_number t ≡ true) × (is_number n ≡ true)
      by true true e f h = (e, f)
      by true false e f h = absurd (cc h)
      by false b e f h = absurd (cc h)

  abbrev within : Bool
  within = ltb 0 (digits_value t) && leb (digits_value t) max_time

  pub stamp_no_time : None ≡ cond (is_time t) (Some (digits_value t)) None → None ≡ stamp_in t n
  stamp_no_time h = by within (leb (digits_value n) max_site) (rw (both.0) at h)
    where
      by : (a b : Bool) → None ≡ cond a (Some (digits_value t)) None → None ≡ pair_if (a && b) (digits_value t) (digits_value n)
      by true b k = absurd (cc k)
      by false b k = refl

  pub stamp_no_site : None ≡ cond (is_site n) (Some (digits_value n)) None → None ≡ stamp_in t n
  stamp_no_site h = by within (leb (digits_value n) max_site) (rw (both.1) at h)
    where
      by : (a b : Bool) → None ≡ cond b (Some (digits_value n)) None → None ≡ pair_if (a && b) (digits_value t) (digits_value n)
      by true true k = absurd (cc k)
      by true false k = refl
      by false b k = refl

  pub stamp_read : (p q : ℕ) → Some p ≡ cond (is_time t) (Some (digits_value t)) None → Some q ≡ cond (is_site n) (Some (digits_value n)) None → pair_if true p q ≡ stamp_in t n
  stamp_read p q h k = by within (leb (digits_value n) max_site) (rw (both.0) at h) (rw (both.1) at k)
    where
      by : (a b : Bool) → Some p ≡ cond a (Some (digits_value t)) None → Some q ≡ cond b (Some (digits_value n)) None → pair_if true p q ≡ pair_if (a && b) (digits_value t) (digits_value n)
      by true true f g = let e : p ≡ digits_value t = cc in let d : q ≡ digits_value n = cc in λ i. Some (e i, d i)
      by true false f g = absurd (cc g)
      by false b f g = absurd (cc f)

-- ---- the words of `site`

pub site_words_none : (digits : Bytes) → None ≡ cond (is_site digits) (Some (digits_value digits)) None → None ≡ some_words (is_site digits) (C.SiteWords digits)
site_words_none digits h = by (is_site digits) h
  where
    by : (b : Bool) → None ≡ cond b (Some (digits_value digits)) None → None ≡ some_words b (C.SiteWords digits)
    by true k = absurd (cc k)
    by false k = refl

pub site_words_some : (digits : Bytes) (n : ℕ) → Some n ≡ cond (is_site digits) (Some (digits_value digits)) None → Some (C.SiteWords digits) ≡ some_words (is_site digits) (C.SiteWords digits)
site_words_some digits n h = by (is_site digits) h
  where
    by : (b : Bool) → Some n ≡ cond b (Some (digits_value digits)) None → Some (C.SiteWords digits) ≡ some_words b (C.SiteWords digits)
    by true k = refl
    by false k = absurd (cc k)
