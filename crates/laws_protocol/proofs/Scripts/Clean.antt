-- Bytes that can stand in a line: UTF-8 with no control byte.
use Rattle.std.proofs.Common.{◌≡◌, ◌≢◌, ℕ, zero, suc, ◌^◌, ◌<◌, Bool, true, false, ◌&&◌, [], ◌∷◌, ◌++◌, refl, arith, IsTrue, IsFalse}
use Rattle.std.specs.Prelude.{nat_lt}
use Rattle.std.specs.Fmt.{decimal}
use Rattle.std.specs.List.{AllByRecursion}
use Rattle.std.specs.Str.{IsUtf8, IsAscii}
use Rattle.std.proofs.lemmas.Bool.Decides.{nat_tests}
use Rattle.std.proofs.lemmas.Str.{IsUtf8-append, IsUtf8-from_ascii}
use Rattle.gl_calculus.specs.Grid.Grid.{Addr, grid, covers}
use Rattle.gl_calculus.specs.Grid.Notation.{column_text, address_text}
use Rattle.gl_language.specs.Texts.Text.{Bytes, is_control}
use Rattle.gl_language.specs.Reading.Token.{is_digit, is_upper, is_lower}
use Rattle.gl_lex.proofs.Rows.{AllPass}
use Rattle.gl_lex.proofs.Starts.{on_grid}
use Rattle.gl_lex.proofs.Letters.{all_append, decimal_row, column_row}
use Rattle.gl_script.proofs.Headers.{Lacks}

abbrev pub NoControl : Bytes → Type 0
NoControl bs = AllByRecursion (λ b. IsFalse (is_control b)) bs

pub record IsClean (bs : Bytes) : Type 0 where
  pub utf8 : IsUtf8 bs
  pub plain : NoControl bs

plain_append : (xs ys : Bytes) → NoControl xs → NoControl ys → NoControl (xs ++ ys)
plain_append [] ys h k = k
plain_append (x ∷ xs) ys h k = (h.0, plain_append xs ys h.1 k)

pub clean_append : (xs ys : Bytes) → IsClean xs → IsClean ys → IsClean (xs ++ ys)
clean_append xs ys h k = record { utf8 = IsUtf8-append xs ys h.utf8 k.utf8; plain = plain_append xs ys h.plain k.plain }

-- ---- bytes that pass a test

pub pass_more : (p q : ℕ → Bool) → ((b : ℕ) → p b ≡ true → q b ≡ true) → (bs : Bytes) → AllPass p bs → AllPass q bs
pass_more p q more [] h = tt
pass_more p q more (b ∷ bs) h = (more b h.0, pass_more p q more bs h.1)

abbrev pub is_ascii : ℕ → Bool
is_ascii b = nat_lt b 128

-- neither a space nor a control byte, and ASCII
abbrev pub is_visible : ℕ → Bool
is_visible b = nat_lt 32 b && nat_lt b 127

all_ascii : (bs : Bytes) → AllPass is_ascii bs → IsAscii bs
all_ascii [] h i = omega arith
all_ascii (b ∷ bs) h zero = grind (arith, nat_tests, h.0)
all_ascii (b ∷ bs) h (suc i) = all_ascii bs h.1 i

pub ascii_utf8 : (bs : Bytes) → AllPass is_ascii bs → IsUtf8 bs
ascii_utf8 bs h = IsUtf8-from_ascii bs (all_ascii bs h)

visible_ascii : (b : ℕ) → is_visible b ≡ true → is_ascii b ≡ true
visible_ascii b h = grind (arith, nat_tests, h)

visible_plain : (bs : Bytes) → AllPass is_visible bs → NoControl bs
visible_plain [] h = tt
visible_plain (b ∷ bs) h = (no_control b h.0, visible_plain bs h.1)
  where
    no_control : (b : ℕ) → is_visible b ≡ true → is_control b ≡ false
    no_control b k = grind (arith, nat_tests, k)

pub visible_clean : (bs : Bytes) → AllPass is_visible bs → IsClean bs
visible_clean bs h = record { utf8 = ascii_utf8 bs (pass_more is_visible is_ascii visible_ascii bs h); plain = visible_plain bs h }

pub visible_lacks : (bs : Bytes) → AllPass is_visible bs → Lacks 32 bs
visible_lacks [] h i l e = absurd (omega arith)
visible_lacks (b ∷ bs) h zero l e = no_space b h.0 e
  where
    no_space : (b : ℕ) → is_visible b ≡ true → b ≢ 32
    no_space b k f = grind (arith, nat_tests, k, f)
visible_lacks (b ∷ bs) h (suc i) l e = visible_lacks bs h.1 i (omega arith) e

-- a space
pub space_clean : IsClean (32 ∷ [])
space_clean = record { utf8 = ascii_utf8 (32 ∷ []) (refl, tt); plain = (refl, tt) }

-- ---- digits, letters and addresses

digit_visible : (b : ℕ) → is_digit b ≡ true → is_visible b ≡ true
digit_visible b h = grind (arith, nat_tests, h)

upper_visible : (b : ℕ) → is_upper b ≡ true → is_visible b ≡ true
upper_visible b h = grind (arith, nat_tests, h)

lower_visible : (b : ℕ) → is_lower b ≡ true → is_visible b ≡ true
lower_visible b h = grind (arith, nat_tests, h)

pub digits_visible : (bs : Bytes) → AllPass is_digit bs → AllPass is_visible bs
digits_visible bs h = pass_more is_digit is_visible digit_visible bs h

pub uppers_visible : (bs : Bytes) → AllPass is_upper bs → AllPass is_visible bs
uppers_visible bs h = pass_more is_upper is_visible upper_visible bs h

pub lowers_visible : (bs : Bytes) → AllPass is_lower bs → AllPass is_visible bs
lowers_visible bs h = pass_more is_lower is_visible lower_visible bs h

pub decimal_visible : (n : ℕ) → n < 2 ^ 64 → AllPass is_visible (decimal n)
decimal_visible n h = digits_visible (decimal n) (decimal_row n h).0.1

pub address_visible : (a : Addr) → IsTrue (covers grid a) → AllPass is_visible (address_text a)
address_visible a on =
    let (c, k, r, s) = on_grid a on in
    all_append is_visible (column_text a.col) (decimal a.row) (uppers_visible (column_text a.col) (column_row a.col c k)) (decimal_visible a.row (omega (arith, s)))
