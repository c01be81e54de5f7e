-- Headers by their pieces.
use Rattle.std.proofs.Common.{◌≡◌, ◌≢◌, ℕ, suc, ◌+◌, ◌-◌, ◌*◌, ◌<◌, ◌≤◌, Bool, true, false, cond, ◌&&◌, not, eqb, ltb, leb, List, [], ◌∷◌, ◌++◌, length, get_or, fold, Some, None, Result, Ok, Err, refl, ap, sym, subst, arith, rules, ◌⊎◌, inl, inr, ◌^◌}
use Rattle.std.specs.Prelude.{bytes_eq, codes}
use Rattle.std.specs.List.{list_all}
use Rattle.std.specs.Result.{OkIff}
use Rattle.std.specs.Str.{is_utf8, IsUtf8}
use Rattle.std.proofs.lemmas.Str.{IsUtf8-from_is_utf8}
use Rattle.std.specs.Str.Parse.{ParsesUnsigned}
use Rattle.std.proofs.lemmas.Bool.Decides.{nat_tests}
use Rattle.std.proofs.lemmas.Result.{OkIff-at_ok}
use Rattle.std.proofs.lemmas.Str.Parse.{IsNumeralModel, numerals_by_fold, parse_digits}
use Rattle.gl_calculus.specs.Grid.Limits.{max_payload}
use Rattle.gl_language.specs.Texts.Text.{Bytes}
use Rattle.gl_language.specs.Reading.Token.{is_digit, digits_value}
use Rattle.gl_protocol.specs.Framing.Pieces.{pieces, is_number}
use Rattle.gl_protocol.specs.Framing.Header.{payload_len, count_of, count_by}

-- ---- pieces

-- no byte is the separator
abbrev pub Lacks : ℕ → Bytes → Type 0
Lacks separator bs = (i : ℕ) → i < length bs → get_or bs i 0 ≢ separator

pub pieces-none : (separator : ℕ) (bs : Bytes) → Lacks separator bs → pieces separator bs ≡ bs ∷ []
pieces-none separator [] h = refl
pieces-none separator (b ∷ bs) h =
    let n : b ≢ separator = h 0 (omega arith) in
    let e : eqb b separator ≡ false = grind (arith, nat_tests) in
    let ih = pieces-none separator bs (λ i l. h (suc i) (omega arith)) in
    rw (e, ih) refl

pub pieces-at : (separator : ℕ) (bs rest : Bytes) → Lacks separator bs → pieces separator (bs ++ separator ∷ rest) ≡ bs ∷ pieces separator rest
pieces-at separator [] rest h =
    let e : eqb separator separator ≡ true = grind (arith, nat_tests) in
    rw e refl
pieces-at separator (b ∷ bs) rest h =
    let n : b ≢ separator = h 0 (omega arith) in
    let e : eqb b separator ≡ false = grind (arith, nat_tests) in
    let ih = pieces-at separator bs rest (λ i l. h (suc i) (omega arith)) in
    rw (e, ih) refl

-- a text with no space is one piece, and one with a space is no number
abbrev pub Shape : Bytes → Type 0
Shape bs = (pieces 32 bs ≡ bs ∷ []) ⊎ ((list_all is_digit bs ≡ false) × (p : Bytes) × (q : Bytes) × (ps : List Bytes) × (pieces 32 bs ≡ p ∷ q ∷ ps))

pub first_piece : (bs : Bytes) → (p : Bytes) × (ps : List Bytes) × (pieces 32 bs ≡ p ∷ ps)
first_piece [] = ([], [], refl)
first_piece (b ∷ bs) =
    let ih = first_piece bs in
    let P : Bool → Type 0 = λ c. eqb b 32 ≡ c → (p : Bytes) × (ps : List Bytes) × (pieces 32 (b ∷ bs) ≡ p ∷ ps) in
    (elim (eqb b 32) as P [
      | true ↦ λ e. ([], pieces 32 bs, rw e refl)
      | false ↦ λ e. (b ∷ ih.0, ih.1, rw (e, ih.2) refl)
    ]) refl

all-false : (b : Bool) (c : Bool) → c ≡ false → b && c ≡ false
all-false true c e = e
all-false false c e = refl

pub shape : (bs : Bytes) → Shape bs
shape [] = inl refl
shape (b ∷ bs) =
    let P : Bool → Type 0 = λ c. eqb b 32 ≡ c → Shape (b ∷ bs) in
    (elim (eqb b 32) as P [
      | true ↦ λ e.
          let s : b ≡ 32 = grind (arith, nat_tests) in
          let d : is_digit b ≡ false = subst (λ (x : ℕ). is_digit x ≡ false) (sym s) refl in
          let f = first_piece bs in
          inr (rw d refl, [], f.0, f.1, rw (e, f.2) refl)
      | false ↦ λ e. elim (shape bs) as (λ _. Shape (b ∷ bs)) [
        | inl one ↦ inl (rw (e, one) refl)
        | inr more ↦ inr (all-false (is_digit b) (list_all is_digit bs) more.0, b ∷ more.1, more.2, more.3, rw (e, more.4) refl)
      ]
    ]) refl

-- ---- numbers

number-digits : (bs : Bytes) → is_number bs ≡ true → list_all is_digit bs ≡ true
number-digits [] h = cc
number-digits (b ∷ []) h = rw h refl
number-digits (b ∷ c ∷ bs) h =
    let P : Bool → Bool → Type 0 = λ d z. (d && z) && list_all is_digit (c ∷ bs) ≡ true → d && list_all is_digit (c ∷ bs) ≡ true in
    (elim (is_digit b) as (λ d. P d (not (eqb b 48))) [
      | true ↦ (elim (not (eqb b 48)) as (λ z. P true z) [ true ↦ λ e. e | false ↦ λ e. cc ])
      | false ↦ λ e. cc
    ]) h

pub no_number : (bs : Bytes) → list_all is_digit bs ≡ false → is_number bs ≡ false
no_number bs h =
    let P : Bool → Type 0 = λ c. is_number bs ≡ c → c ≡ false in
    (elim (is_number bs) as P [ true ↦ λ e. let f = number-digits bs e in cc | false ↦ λ e. refl ]) refl

-- two digits or more of which the first is no zero
pub number_led : (bs : Bytes) → 2 ≤ length bs → get_or bs 0 0 ≢ 48 → is_number bs ≡ list_all is_digit bs
number_led [] l n = absurd (omega arith)
number_led (b ∷ []) l n = absurd (omega arith)
number_led (b ∷ c ∷ bs) l n =
    let e : eqb b 48 ≡ false = grind (arith, nat_tests) in
    let P : Bool → Type 0 = λ d. (d && true) && list_all is_digit (c ∷ bs) ≡ d && list_all is_digit (c ∷ bs) in
    rw e (elim (is_digit b) as P [ true ↦ refl | false ↦ refl ])

own : IsNumeralModel (λ ds. list_all is_digit ds ≡ true) digits_value
own = numerals_by_fold _ (search rules) (λ n ds. fold (λ n d. 10 * n + (d - 48)) n ds) (search rules)

abbrev pub Counted : {E : Type 0} → ℕ → Bytes → Result ℕ E → Type 0
Counted width bs r = OkIff r ((0 < length bs) × (digits_value bs < 2 ^ width)) (digits_value bs)

pub counted : {E : Type 0} (width : ℕ) (bs : Bytes) (r : Result ℕ E) → ParsesUnsigned width 10 bs r → is_number bs ≡ true → Counted width bs r
counted width bs r h n = parse_digits own width bs r h (number-digits bs n)

pub some_digit : (bs : Bytes) → is_number bs ≡ true → 0 < length bs
some_digit [] h = cc
some_digit (b ∷ bs) h = omega arith

pub count_read : {E : Type 0} (bs : Bytes) (r : Result ℕ E) (n : ℕ) → ParsesUnsigned 32 10 bs r → r ≡ Ok n → is_number bs ≡ true → n ≤ max_payload → Some n ≡ count_of bs
count_read bs r n h ok e l =
    let c = OkIff-at_ok r _ (digits_value bs) n (counted 32 bs r h e) ok in
    let f : leb (digits_value bs) max_payload ≡ true = grind (arith, nat_tests, c.1) in
    rw (e, f) (ap (λ (k : ℕ). Some k) c.1)

pub count_past : {E : Type 0} (bs : Bytes) (r : Result ℕ E) (n : ℕ) → ParsesUnsigned 32 10 bs r → r ≡ Ok n → is_number bs ≡ true → max_payload < n → None ≡ count_of bs
count_past bs r n h ok e l =
    let c = OkIff-at_ok r _ (digits_value bs) n (counted 32 bs r h e) ok in
    let f : leb (digits_value bs) max_payload ≡ false = grind (arith, nat_tests, c.1) in
    rw (e, f) refl

pub count_off : {E : Type 0} (bs : Bytes) (x : E) → ParsesUnsigned 32 10 bs (Err x) → is_number bs ≡ true → None ≡ count_of bs
count_off bs x h e =
    let c = counted 32 bs (Err x) h e in
    let P : Bool → Type 0 = λ t. leb (digits_value bs) max_payload ≡ t → None ≡ cond t (Some (digits_value bs)) None in
    rw e ((elim (leb (digits_value bs) max_payload) as P [
      | true ↦ λ f. let l : digits_value bs < 2 ^ 32 = grind (arith, nat_tests) in absurd (c (some_digit bs e, l))
      | false ↦ λ f. refl
    ]) refl)

-- ---- headers

-- what follows the word and a space
pub count_behind : (place count : Bytes) → Lacks 32 place → 0 < length place → count_by (codes "import" ∷ pieces 32 (place ++ 32 ∷ count)) ≡ count_of count
count_behind place count h l =
    let e : ltb 0 (length place) ≡ true = grind (arith, nat_tests) in
    elim (shape count) as (λ _. count_by (codes "import" ∷ pieces 32 (place ++ 32 ∷ count)) ≡ count_of count) [
      | inl one ↦ rw (pieces-at 32 place count h, one, e) refl
      | inr more ↦ rw (pieces-at 32 place count h, more.4, no_number count more.0) refl
    ]

word_is : (word : Bytes) (ps : List Bytes) → bytes_eq word (codes "import") ≡ true → count_by (word ∷ ps) ≡ count_by (codes "import" ∷ ps)
word_is word [] e = refl
word_is word (p ∷ []) e = refl
word_is word (p ∷ q ∷ []) e = rw e refl
word_is word (p ∷ q ∷ r ∷ ps) e = refl

word_is_not : (word : Bytes) (ps : List Bytes) → bytes_eq word (codes "import") ≡ false → count_by (word ∷ ps) ≡ None
word_is_not word [] e = refl
word_is_not word (p ∷ []) e = refl
word_is_not word (p ∷ q ∷ []) e = rw e refl
word_is_not word (p ∷ q ∷ r ∷ ps) e = refl

pub len_of_import : (word rest : Bytes) → is_utf8 (word ++ 32 ∷ rest) ≡ true → Lacks 32 word → bytes_eq word (codes "import") ≡ true → payload_len (word ++ 32 ∷ rest) ≡ count_by (codes "import" ∷ pieces 32 rest)
unfolding payload_len
len_of_import word rest u h e = rw (u, pieces-at 32 word rest h) (word_is word (pieces 32 rest) e)

pub len_of_other : (word rest : Bytes) → Lacks 32 word → bytes_eq word (codes "import") ≡ false → payload_len (word ++ 32 ∷ rest) ≡ None
unfolding payload_len
len_of_other word rest h e =
    let n = word_is_not word (pieces 32 rest) e in
    let P : Bool → Type 0 = λ c. cond c (count_by (word ∷ pieces 32 rest)) None ≡ None in
    rw (pieces-at 32 word rest h) (elim (is_utf8 (word ++ 32 ∷ rest)) as P [ true ↦ n | false ↦ refl ])

pub len_of_word : (bs : Bytes) → Lacks 32 bs → payload_len bs ≡ None
unfolding payload_len
len_of_word bs h =
    let P : Bool → Type 0 = λ c. cond c (count_by (bs ∷ [])) None ≡ None in
    rw (pieces-none 32 bs h) (elim (is_utf8 bs) as P [ true ↦ refl | false ↦ refl ])

pub len_of_bytes : (bs : Bytes) → is_utf8 bs ≡ false → payload_len bs ≡ None
unfolding payload_len
len_of_bytes bs e = rw e refl

pub not_utf8 : (bs : Bytes) → ¬ (IsUtf8 bs) → is_utf8 bs ≡ false
not_utf8 bs h =
    let P : Bool → Type 0 = λ c. is_utf8 bs ≡ c → c ≡ false in
    (elim (is_utf8 bs) as P [ true ↦ λ e. absurd (h (IsUtf8-from_is_utf8 bs e)) | false ↦ λ e. refl ]) refl
