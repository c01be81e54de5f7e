-- What stands in front of a text that begins with a sign, or with no token.
use Rattle.gl_calculus.specs.Formulas.Formula as F
use Rattle.std.proofs.Common.{◌≡◌, ℕ, ◌<◌, ◌≤◌, true, false, ◌==◌, ◌||◌, [], ◌∷◌, ◌++◌, take, drop, length, get_or, Some, None, refl, ap, sym, subst, ◌∙◌, arith}
use Rattle.std.proofs.lemmas.Bool.Decides.{nat_tests}
use Rattle.gl_language.specs.Texts.Text.{Bytes}
use Rattle.gl_language.specs.Reading.Token as T
use Rattle.gl_language.specs.Reading.Token.{is_digit, is_upper, is_lower, NotBefore, Takes, EndsBefore, integer, quoted, address, truth, word, variable, signed}
use Rattle.gl_lex.specs.declared.Sign.{Sign}
use Rattle.gl_lex.specs.declared.Kind.TheVariants as k
use Rattle.gl_lex.specs.declared.scan.Bad.TheVariants as bad
use Rattle.gl_lex.specs.View.{sign_of}
use Rattle.gl_lex.specs.Front.{IsFront, Refuses, sign_at, sign_len}
use Rattle.gl_lex.proofs.Starts.{starts, takes_starts, is_other, apart_digit_other, apart_upper_other, apart_lower_other, apart_quote_other}
use Rattle.gl_lex.proofs.Fronts.{first, cut_at}

-- the second byte
abbrev pub second : Bytes → ℕ
second bytes = get_or bytes 1 0

-- ---- from the rules to the bytes

less_than : (rest : Bytes) → NotBefore (λ b. (b == 61) || (b == 62)) rest → sign_at 60 (get_or rest 0 0) ≡ Some (T.Sign.Operator F.Op.Lt)
less_than [] n = refl
less_than (b ∷ bs) n = grind (arith, nat_tests, n)

greater_than : (rest : Bytes) → NotBefore (λ b. b == 61) rest → sign_at 62 (get_or rest 0 0) ≡ Some (T.Sign.Operator F.Op.Gt)
greater_than [] n = refl
greater_than (b ∷ bs) n = grind (arith, nat_tests, n)

sign_front : (s : T.Sign) (rest : Bytes) → EndsBefore (T.Signed s) rest → sign_at (first (T.sign_text s ++ rest)) (second (T.sign_text s ++ rest)) ≡ Some s
sign_front (T.Sign.Operator F.Op.Lt) rest e = less_than rest e
sign_front (T.Sign.Operator F.Op.Gt) rest e = greater_than rest e
sign_front (T.Sign.Operator F.Op.Eq) rest e = refl
sign_front (T.Sign.Operator F.Op.Ne) rest e = refl
sign_front (T.Sign.Operator F.Op.Le) rest e = refl
sign_front (T.Sign.Operator F.Op.Ge) rest e = refl
sign_front (T.Sign.Operator F.Op.Join) rest e = refl
sign_front (T.Sign.Operator F.Op.Add) rest e = refl
sign_front (T.Sign.Operator F.Op.Sub) rest e = refl
sign_front (T.Sign.Operator F.Op.Mul) rest e = refl
sign_front (T.Sign.Operator F.Op.Div) rest e = refl
sign_front T.Sign.Hash rest e = refl
sign_front T.Sign.LeftParen rest e = refl
sign_front T.Sign.RightParen rest e = refl
sign_front T.Sign.Comma rest e = refl
sign_front T.Sign.Colon rest e = refl

pub record IsSign (bytes : Bytes) (t : T.Token) (rest : Bytes) : Type 0 where
  pub sign : T.Sign
  pub token : t ≡ T.Signed sign
  pub at_front : sign_at (first bytes) (second bytes) ≡ Some sign
  pub behind : drop (sign_len sign) bytes ≡ rest

pub other_front : (bytes : Bytes) (t : T.Token) (rest : Bytes) → Takes bytes t rest → is_other (first bytes) ≡ true → IsSign bytes t rest
other_front bytes t rest takes h = by takes (takes_starts bytes t rest takes)
  where
    by : {t : T.Token} → Takes bytes t rest → starts t (first bytes) ≡ true → IsSign bytes t rest
    by (bs, e, signed {s}, ends) g = record {
      sign = s;
      token = refl;
      at_front = ap (λ z. sign_at (first z) (second z)) e ∙ sign_front s rest ends;
      behind = (cut_at bytes (T.sign_text s) rest (sign_len s) e refl).behind;
    }
    by (bs, e, integer row small, ends) g = absurd (apart_digit_other (first bytes) g h)
    by (bs, e, quoted d u l, ends) g = absurd (apart_quote_other (first bytes) g h)
    by (bs, e, address a, ends) g = absurd (apart_upper_other (first bytes) g h)
    by (bs, e, truth, ends) g = absurd (apart_upper_other (first bytes) g h)
    by (bs, e, word row m n, ends) g = absurd (apart_upper_other (first bytes) g h)
    by (bs, e, variable row, ends) g = absurd (apart_lower_other (first bytes) g h)

-- ---- from the bytes to the rules

-- the bytes begin with the sign, and don't make it longer
pub record Reads (bytes : Bytes) (s : T.Sign) : Type 0 where
  pub text : take (sign_len s) bytes ≡ T.sign_text s
  pub ends : EndsBefore (T.Signed s) (drop (sign_len s) bytes)
  pub within : sign_len s ≤ length bytes

sign_by : (b : ℕ) (bs : Bytes) (s : T.Sign) → sign_at b (get_or bs 0 0) ≡ Some s → Reads (b ∷ bs) s
sign_by b bs (T.Sign.Operator F.Op.Eq) e = let i : b ≡ 61 = grind (arith, nat_tests, e) in record { text = ap (λ z. z ∷ []) i; ends = tt; within = omega arith }
sign_by b bs (T.Sign.Operator F.Op.Join) e = let i : b ≡ 38 = grind (arith, nat_tests, e) in record { text = ap (λ z. z ∷ []) i; ends = tt; within = omega arith }
sign_by b bs (T.Sign.Operator F.Op.Add) e = let i : b ≡ 43 = grind (arith, nat_tests, e) in record { text = ap (λ z. z ∷ []) i; ends = tt; within = omega arith }
sign_by b bs (T.Sign.Operator F.Op.Sub) e = let i : b ≡ 45 = grind (arith, nat_tests, e) in record { text = ap (λ z. z ∷ []) i; ends = tt; within = omega arith }
sign_by b bs (T.Sign.Operator F.Op.Mul) e = let i : b ≡ 42 = grind (arith, nat_tests, e) in record { text = ap (λ z. z ∷ []) i; ends = tt; within = omega arith }
sign_by b bs (T.Sign.Operator F.Op.Div) e = let i : b ≡ 47 = grind (arith, nat_tests, e) in record { text = ap (λ z. z ∷ []) i; ends = tt; within = omega arith }
sign_by b bs T.Sign.Hash e = let i : b ≡ 35 = grind (arith, nat_tests, e) in record { text = ap (λ z. z ∷ []) i; ends = tt; within = omega arith }
sign_by b bs T.Sign.LeftParen e = let i : b ≡ 40 = grind (arith, nat_tests, e) in record { text = ap (λ z. z ∷ []) i; ends = tt; within = omega arith }
sign_by b bs T.Sign.RightParen e = let i : b ≡ 41 = grind (arith, nat_tests, e) in record { text = ap (λ z. z ∷ []) i; ends = tt; within = omega arith }
sign_by b bs T.Sign.Comma e = let i : b ≡ 44 = grind (arith, nat_tests, e) in record { text = ap (λ z. z ∷ []) i; ends = tt; within = omega arith }
sign_by b bs T.Sign.Colon e = let i : b ≡ 58 = grind (arith, nat_tests, e) in record { text = ap (λ z. z ∷ []) i; ends = tt; within = omega arith }
sign_by b [] (T.Sign.Operator F.Op.Lt) e = let i : b ≡ 60 = grind (arith, nat_tests, e) in record { text = ap (λ z. z ∷ []) i; ends = tt; within = omega arith }
sign_by b (c ∷ bs) (T.Sign.Operator F.Op.Lt) e = let i : b ≡ 60 = grind (arith, nat_tests, e) in record { text = ap (λ z. z ∷ []) i; ends = grind (arith, nat_tests, e, i); within = omega arith }
sign_by b [] (T.Sign.Operator F.Op.Gt) e = let i : b ≡ 62 = grind (arith, nat_tests, e) in record { text = ap (λ z. z ∷ []) i; ends = tt; within = omega arith }
sign_by b (c ∷ bs) (T.Sign.Operator F.Op.Gt) e = let i : b ≡ 62 = grind (arith, nat_tests, e) in record { text = ap (λ z. z ∷ []) i; ends = grind (arith, nat_tests, e, i); within = omega arith }
sign_by b [] (T.Sign.Operator F.Op.Ne) e = absurd (grind (arith, nat_tests, e))
sign_by b (c ∷ bs) (T.Sign.Operator F.Op.Ne) e = let i : b ≡ 60 = grind (arith, nat_tests, e) in let j : c ≡ 62 = grind (arith, nat_tests, e, i) in record { text = ap (λ z. z ∷ c ∷ []) i ∙ ap (λ z. 60 ∷ z ∷ []) j; ends = tt; within = omega arith }
sign_by b [] (T.Sign.Operator F.Op.Le) e = absurd (grind (arith, nat_tests, e))
sign_by b (c ∷ bs) (T.Sign.Operator F.Op.Le) e = let i : b ≡ 60 = grind (arith, nat_tests, e) in let j : c ≡ 61 = grind (arith, nat_tests, e, i) in record { text = ap (λ z. z ∷ c ∷ []) i ∙ ap (λ z. 60 ∷ z ∷ []) j; ends = tt; within = omega arith }
sign_by b [] (T.Sign.Operator F.Op.Ge) e = absurd (grind (arith, nat_tests, e))
sign_by b (c ∷ bs) (T.Sign.Operator F.Op.Ge) e = let i : b ≡ 62 = grind (arith, nat_tests, e) in let j : c ≡ 61 = grind (arith, nat_tests, e, i) in record { text = ap (λ z. z ∷ c ∷ []) i ∙ ap (λ z. 62 ∷ z ∷ []) j; ends = tt; within = omega arith }

reads_at : (bytes : Bytes) (s : T.Sign) → 0 < length bytes → sign_at (first bytes) (second bytes) ≡ Some s → Reads bytes s
reads_at [] s h e = absurd (omega (arith, h))
reads_at (b ∷ bs) s h e = sign_by b bs s e

some_len : (s : T.Sign) → 0 < sign_len s
some_len s = by s refl
  where
    by : (s : T.Sign) → s ≡ s → 0 < sign_len s
    by (T.Sign.Operator F.Op.Eq) e = omega arith
    by (T.Sign.Operator F.Op.Ne) e = omega arith
    by (T.Sign.Operator F.Op.Lt) e = omega arith
    by (T.Sign.Operator F.Op.Le) e = omega arith
    by (T.Sign.Operator F.Op.Gt) e = omega arith
    by (T.Sign.Operator F.Op.Ge) e = omega arith
    by (T.Sign.Operator F.Op.Join) e = omega arith
    by (T.Sign.Operator F.Op.Add) e = omega arith
    by (T.Sign.Operator F.Op.Sub) e = omega arith
    by (T.Sign.Operator F.Op.Mul) e = omega arith
    by (T.Sign.Operator F.Op.Div) e = omega arith
    by T.Sign.Hash e = omega arith
    by T.Sign.LeftParen e = omega arith
    by T.Sign.RightParen e = omega arith
    by T.Sign.Comma e = omega arith
    by T.Sign.Colon e = omega arith

pub sign_is : (bytes : Bytes) (s : Sign) (b c n : ℕ) → 0 < length bytes → b ≡ first bytes → c ≡ second bytes → sign_at b c ≡ Some (sign_of s) → n ≡ sign_len (sign_of s) → IsFront bytes (k.Sign s) n
sign_is bytes s b c n some e f g h =
    let r = reads_at bytes (sign_of s) some (rw (sym e, sym f) g) in
    let i : IsFront bytes (k.Sign s) (sign_len (sign_of s)) = record { spells = rw r.text signed; ends = r.ends; some = some_len (sign_of s); within = r.within } in
    subst (λ m. IsFront bytes (k.Sign s) m) (sym h) i

pub other_is : (b : ℕ) → is_digit b ≡ false → is_upper b ≡ false → is_lower b ≡ false → (b == 34) ≡ false → is_other b ≡ true
other_is b d u l q = grind (arith, nat_tests, d, u, l, q)

token_fault : (b : ℕ) → is_digit b ≡ false → (b == 34) ≡ false → T.fault_at b ≡ T.TokenFault
token_fault b d q = grind (arith, nat_tests, d, q)

pub sign_is_not : (bytes : Bytes) (b c : ℕ) → b ≡ first bytes → c ≡ second bytes → sign_at b c ≡ None → is_digit (first bytes) ≡ false → is_upper (first bytes) ≡ false → is_lower (first bytes) ≡ false → (first bytes == 34) ≡ false → Refuses bytes bad.Token
sign_is_not bytes b c e f g d u l q = (
  λ t more takes.
      let i = other_front bytes t more takes (other_is (first bytes) d u l q) in
      let j : sign_at b c ≡ Some i.sign = ap (λ z. sign_at z c) e ∙ ap (λ z. sign_at (first bytes) z) f ∙ i.at_front in
      cc (g, j),
  token_fault (first bytes) d q,
)
