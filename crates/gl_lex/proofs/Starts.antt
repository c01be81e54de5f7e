-- The first byte of a token.
use Rattle.gl_calculus.specs.Formulas.Formula as F
use Rattle.std.proofs.Common.{◌≡◌, ℕ, ◌+◌, ◌-◌, ◌/◌, ◌%◌, ◌≤◌, Bool, true, false, ◌||◌, not, ◌==◌, [], ◌∷◌, ◌++◌, get_or, refl, ap, sym, subst, ◌∙◌, arith, IsTrue}
use Rattle.std.proofs.lemmas.Bool.Decides.{nat_tests}
use Rattle.std.specs.Prelude.{nat_le}
use Rattle.std.specs.Fmt.{decimal}
use Rattle.gl_calculus.specs.Grid.Grid.{Addr, grid, covers}
use Rattle.gl_calculus.specs.Grid.Notation.{column_text}
use Rattle.gl_language.specs.Texts.Text.{Bytes, truth_text}
use Rattle.gl_language.specs.Reading.Token as T
use Rattle.gl_language.specs.Reading.Token.{is_digit, is_upper, is_lower, IsRow, Spells, Takes, integer, quoted, address, truth, word, variable, signed}

abbrev pub is_other : ℕ → Bool
is_other b = not (is_digit b || is_upper b || is_lower b || (b == 34))

-- what a token begins with
abbrev pub starts : T.Token → ℕ → Bool
starts (T.Integer n) b = is_digit b
starts (T.Quoted t) b = b == 34
starts (T.Address a) b = is_upper b
starts (T.Truth x) b = is_upper b
starts (T.Word w) b = is_upper b
starts (T.Variable v) b = is_lower b
starts (T.Signed s) b = is_other b

pub record Begins (t : T.Token) (bs : Bytes) : Type 0 where
  pub first : ℕ
  pub more : Bytes
  pub is : bs ≡ first ∷ more
  pub begins : starts t first ≡ true

row_begins : (p : ℕ → Bool) (bs : Bytes) → IsRow p bs → (b : ℕ) × (more : Bytes) × (bs ≡ b ∷ more) × (p b ≡ true)
row_begins p [] h = absurd (omega (arith, h.0))
row_begins p (b ∷ bs) h = (b, bs, refl, h.1.0)

-- a column begins with an upper case letter
column_begins : (c : ℕ) (b : Bool) → nat_le c 26 ≡ b → 1 ≤ c → c ≤ 702 → (x : ℕ) × (more : Bytes) × (column_text c ≡ x ∷ more) × (is_upper x ≡ true)
column_begins c true e h k = (64 + c, [], grind (arith, e), grind (arith, nat_tests))
column_begins c false e h k = (64 + (c - 1) / 26, (65 + (c - 1) % 26) ∷ [], grind (arith, e), grind (arith, nat_tests))

pub on_grid : (a : Addr) → IsTrue (covers grid a) → (1 ≤ a.col) × (a.col ≤ 702) × (1 ≤ a.row) × (a.row ≤ 9999)
on_grid a h = (grind (arith, nat_tests), grind (arith, nat_tests), grind (arith, nat_tests), grind (arith, nat_tests))

truth_begins : (b : Bool) → Begins (T.Truth b) (truth_text b)
truth_begins true = record { first = 84; more = 82 ∷ 85 ∷ 69 ∷ []; is = refl; begins = refl }
truth_begins false = record { first = 70; more = 65 ∷ 76 ∷ 83 ∷ 69 ∷ []; is = refl; begins = refl }

sign_begins : (s : T.Sign) → Begins (T.Signed s) (T.sign_text s)
sign_begins (T.Sign.Operator F.Op.Eq) = record { first = 61; more = []; is = refl; begins = refl }
sign_begins (T.Sign.Operator F.Op.Ne) = record { first = 60; more = 62 ∷ []; is = refl; begins = refl }
sign_begins (T.Sign.Operator F.Op.Lt) = record { first = 60; more = []; is = refl; begins = refl }
sign_begins (T.Sign.Operator F.Op.Le) = record { first = 60; more = 61 ∷ []; is = refl; begins = refl }
sign_begins (T.Sign.Operator F.Op.Gt) = record { first = 62; more = []; is = refl; begins = refl }
sign_begins (T.Sign.Operator F.Op.Ge) = record { first = 62; more = 61 ∷ []; is = refl; begins = refl }
sign_begins (T.Sign.Operator F.Op.Join) = record { first = 38; more = []; is = refl; begins = refl }
sign_begins (T.Sign.Operator F.Op.Add) = record { first = 43; more = []; is = refl; begins = refl }
sign_begins (T.Sign.Operator F.Op.Sub) = record { first = 45; more = []; is = refl; begins = refl }
sign_begins (T.Sign.Operator F.Op.Mul) = record { first = 42; more = []; is = refl; begins = refl }
sign_begins (T.Sign.Operator F.Op.Div) = record { first = 47; more = []; is = refl; begins = refl }
sign_begins T.Sign.Hash = record { first = 35; more = []; is = refl; begins = refl }
sign_begins T.Sign.LeftParen = record { first = 40; more = []; is = refl; begins = refl }
sign_begins T.Sign.RightParen = record { first = 41; more = []; is = refl; begins = refl }
sign_begins T.Sign.Comma = record { first = 44; more = []; is = refl; begins = refl }
sign_begins T.Sign.Colon = record { first = 58; more = []; is = refl; begins = refl }

pub spells_begins : {t : T.Token} {bs : Bytes} → Spells t bs → Begins t bs
spells_begins (integer {bs} row small) = let (b, more, e, h) = row_begins is_digit bs row in record { first = b; more = more; is = e; begins = h }
spells_begins (quoted d u l) = record { first = 34; more = _; is = refl; begins = refl }
spells_begins (address {a} h) =
    let (c, k, r, s) = on_grid a h in
    let (b, more, e, u) = column_begins a.col (nat_le a.col 26) refl c k in
    record { first = b; more = more ++ decimal a.row; is = ap (λ z. z ++ decimal a.row) e; begins = u }
spells_begins (truth {b}) = truth_begins b
spells_begins (word {bs} row n m) = let (b, more, e, h) = row_begins is_upper bs row in record { first = b; more = more; is = e; begins = h }
spells_begins (variable {bs} row) = let (b, more, e, h) = row_begins is_lower bs row in record { first = b; more = more; is = e; begins = h }
spells_begins (signed {s}) = sign_begins s

pub takes_starts : (bytes : Bytes) (t : T.Token) (more : Bytes) → Takes bytes t more → starts t (get_or bytes 0 0) ≡ true
takes_starts bytes t more (bs, e, s, ends) =
    let b = spells_begins s in
    let f : bytes ≡ b.first ∷ (b.more ++ more) = e ∙ ap (λ z. z ++ more) b.is in
    subst (λ z. starts t (get_or z 0 0) ≡ true) (sym f) b.begins

-- the classes of first bytes exclude each other
pub apart_digit_upper : (b : ℕ) → is_digit b ≡ true → is_upper b ≡ true → ⊥
apart_digit_upper b h k = grind (arith, nat_tests)

pub apart_digit_lower : (b : ℕ) → is_digit b ≡ true → is_lower b ≡ true → ⊥
apart_digit_lower b h k = grind (arith, nat_tests)

pub apart_digit_quote : (b : ℕ) → is_digit b ≡ true → (b == 34) ≡ true → ⊥
apart_digit_quote b h k = grind (arith, nat_tests)

pub apart_digit_other : (b : ℕ) → is_digit b ≡ true → is_other b ≡ true → ⊥
apart_digit_other b h k = grind (arith, nat_tests)

pub apart_upper_lower : (b : ℕ) → is_upper b ≡ true → is_lower b ≡ true → ⊥
apart_upper_lower b h k = grind (arith, nat_tests)

pub apart_upper_quote : (b : ℕ) → is_upper b ≡ true → (b == 34) ≡ true → ⊥
apart_upper_quote b h k = grind (arith, nat_tests)

pub apart_upper_other : (b : ℕ) → is_upper b ≡ true → is_other b ≡ true → ⊥
apart_upper_other b h k = grind (arith, nat_tests)

pub apart_lower_quote : (b : ℕ) → is_lower b ≡ true → (b == 34) ≡ true → ⊥
apart_lower_quote b h k = grind (arith, nat_tests)

pub apart_lower_other : (b : ℕ) → is_lower b ≡ true → is_other b ≡ true → ⊥
apart_lower_other b h k = grind (arith, nat_tests)

pub apart_quote_other : (b : ℕ) → (b == 34) ≡ true → is_other b ≡ true → ⊥
apart_quote_other b h k = grind (arith, nat_tests)
