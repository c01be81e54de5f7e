-- The number of rows that a word writes, by what `parse` reads of it.
use Rattle.std.proofs.Common.{◌≡◌, ◌≢◌, ◌∙◌, ℕ, ◌-◌, ◌+◌, ◌*◌, ◌^◌, ◌<◌, Bool, true, false, cond, ◌&&◌, ◌||◌, ◌==◌, leb, ltb, [], ◌∷◌, length, get_or, fold, Option, Some, None, Result, Ok, Err, refl, sym, subst, arith, rules}
use Rattle.std.specs.List.{list_all}
use Rattle.std.specs.Result.{OkIff}
use Rattle.std.specs.Str.Parse.{ParsesUnsigned}
use Rattle.std.proofs.lemmas.Bool.Decides.{nat_tests}
use Rattle.std.proofs.lemmas.Result.{OkIff-at_ok}
use Rattle.std.proofs.lemmas.Str.Parse.{IsNumeralModel, numerals_by_fold, parse_plain}
use Rattle.gl_calculus.specs.Grid.Limits.{max_generated}
use Rattle.gl_language.specs.Texts.Text.{Bytes}
use Rattle.gl_language.specs.Reading.Token.{is_digit, digits_value}
use Rattle.gl_protocol.specs.Framing.Pieces.{is_number}
use Rattle.gl_protocol.specs.Run.Words.{size_of}
use Rattle.gl_script.proofs.Headers.{number_led}

-- ---- a zero, or a sign, at the front

zero_led : (bs : Bytes) → get_or bs 0 0 ≡ 48 → None ≡ size_of bs
zero_led [] h = refl
zero_led (b ∷ []) h = subst (λ (x : ℕ). None ≡ size_of (x ∷ [])) (sym h) refl
zero_led (b ∷ c ∷ bs) h = subst (λ (x : ℕ). None ≡ size_of (x ∷ c ∷ bs)) (sym h) refl

plus_led : (bs : Bytes) → get_or bs 0 0 ≡ 43 → None ≡ size_of bs
plus_led [] h = refl
plus_led (b ∷ []) h = subst (λ (x : ℕ). None ≡ size_of (x ∷ [])) (sym h) refl
plus_led (b ∷ c ∷ bs) h = subst (λ (x : ℕ). None ≡ size_of (x ∷ c ∷ bs)) (sym h) refl

pub size_led : (bs : Bytes) → (get_or bs 0 0 == 48 || get_or bs 0 0 == 43) ≡ true → None ≡ size_of bs
size_led bs h =
    let P : Bool → Type 0 = λ t. get_or bs 0 0 == 48 ≡ t → (t || get_or bs 0 0 == 43) ≡ true → None ≡ size_of bs in
    (elim (get_or bs 0 0 == 48) as P [
      | true ↦ λ e d. let f : get_or bs 0 0 ≡ 48 = grind (arith, nat_tests) in zero_led bs f
      | false ↦ λ e d. let f : get_or bs 0 0 ≡ 43 = grind (arith, nat_tests) in plus_led bs f
    ]) refl h

-- ---- digits

and_true : (d : Bool) → d ≡ d && true
and_true true = refl
and_true false = refl

number_plain : (bs : Bytes) → 0 < length bs → get_or bs 0 0 ≢ 48 → is_number bs ≡ list_all is_digit bs
number_plain [] l n = absurd (omega arith)
number_plain (b ∷ []) l n = and_true (is_digit b)
number_plain (b ∷ c ∷ bs) l n = number_led (b ∷ c ∷ bs) (omega arith) n

abbrev pub kept : ℕ → Option ℕ
kept n = cond (ltb 0 n && leb n max_generated) (Some n) None

and_false : (d : Bool) → d && false ≡ false
and_false true = refl
and_false false = refl

some_digit : (bs : Bytes) → is_number bs ≡ true → 0 < length bs
some_digit [] h = cc
some_digit (b ∷ bs) h = omega arith

own : IsNumeralModel (λ ds. list_all is_digit ds ≡ true) digits_value
own = numerals_by_fold _ (search rules) (λ n ds. fold (λ n d. 10 * n + (d - 48)) n ds) (search rules)

module _ {E : Type 0} (bs : Bytes) (r : Result ℕ E) (h : ParsesUnsigned 32 10 bs r) (led : (get_or bs 0 0 == 48 || get_or bs 0 0 == 43) ≡ false) where
  plus : get_or bs 0 0 ≢ 43
  plus e =
      let P : Bool → Type 0 = λ t. (t || get_or bs 0 0 == 43) ≡ false → ⊥ in
      let f : (get_or bs 0 0 == 43) ≡ true = grind (arith, nat_tests) in
      (elim (get_or bs 0 0 == 48) as P [ true ↦ λ d. absurd (cc d) | false ↦ λ d. absurd (cc (sym f ∙ d)) ]) led

  zero_first : get_or bs 0 0 ≢ 48
  zero_first e =
      let f : (get_or bs 0 0 == 48) ≡ true = grind (arith, nat_tests) in
      let d : (true || get_or bs 0 0 == 43) ≡ false = rw f at led in absurd (cc d)

  reads : OkIff r ((list_all is_digit bs ≡ true) × (0 < length bs) × (digits_value bs < 2 ^ 32)) (digits_value bs)
  reads = parse_plain own 32 bs r h plus

  pub size_read : (n : ℕ) → r ≡ Ok n → kept n ≡ size_of bs
  size_read n ok =
      let c = OkIff-at_ok r _ (digits_value bs) n reads ok in
      let t : is_number bs ≡ true = number_plain bs c.0.1 zero_first ∙ c.0.0 in
      rw (t, c.1) refl

  pub size_off : (x : E) → r ≡ Err x → None ≡ size_of bs
  size_off x e =
      let v = digits_value bs in
      let n : ¬ ((list_all is_digit bs ≡ true) × (0 < length bs) × (v < 2 ^ 32)) = subst (λ r. OkIff r ((list_all is_digit bs ≡ true) × (0 < length bs) × (v < 2 ^ 32)) v) e reads in
      let P : Bool → Type 0 = λ t. is_number bs ≡ t → None ≡ cond (t && ltb 0 v && leb v max_generated) (Some v) None in
      (elim (is_number bs) as P [
        | true ↦ λ t.
            let some = some_digit bs t in
            let all = sym (number_plain bs some zero_first) ∙ t in
            let Q : Bool → Type 0 = λ c. leb v max_generated ≡ c → None ≡ cond (ltb 0 v && c) (Some v) None in
            (elim (leb v max_generated) as Q [
              | true ↦ λ f. let few : v < 2 ^ 32 = grind (arith, nat_tests) in absurd (n (all, some, few))
              | false ↦ λ f. let a : ltb 0 v && false ≡ false = and_false (ltb 0 v) in rw a refl
            ]) refl
        | false ↦ λ t. refl
      ]) refl
