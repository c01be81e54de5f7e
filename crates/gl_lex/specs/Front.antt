-- The token in front of a text that isn't empty and begins with no space.
use Rattle.gl_calculus.specs.Formulas.Formula as F
use Rattle.std.specs.Prelude.{◌≡◌, ℕ, ◌+◌, ◌-◌, ◌*◌, ◌<◌, ◌≤◌, Bool, true, false, if◌then◌else◌, ◌==◌, take, drop, length, Option, Some, None, slice_index, Result, Ok, Err, ⊤, bytes_eq}
use Rattle.std.specs.List.{prefix_len, fold}
use Rattle.std.specs.declared.alloc.Global.{Global}
use Rattle.std.specs.declared.rc.RcStr.{RcStr}
use Rattle.gl_language.specs.Texts.Text.{Bytes, truth_text}
use Rattle.gl_language.specs.Reading.Token.{is_digit, is_upper, is_lower, Takes, Spells, EndsBefore, fault_at}
use Rattle.gl_language.specs.Reading.Token as T
use Rattle.gl_lex.specs.declared.scan.Class.{Class}
use Rattle.gl_lex.specs.declared.scan.Class.TheVariants.{Digit, Upper, Lower}
use Rattle.gl_lex.specs.declared.scan.Bad.{Bad}
use Rattle.gl_lex.specs.declared.scan.Bad.TheVariants as bad
use Rattle.gl_lex.specs.declared.Kind.{Kind}
use Rattle.gl_lex.specs.declared.Kind.TheVariants as k
use Rattle.gl_lex.specs.View.{kind_token}

abbrev pub is_in : Class → ℕ → Bool
is_in Digit b = is_digit b
is_in Upper b = is_upper b
is_in Lower b = is_lower b

-- how many bytes of a class stand in front
unfoldable pub row : Class → Bytes → ℕ
row c bytes = prefix_len (is_in c) bytes

-- a number with these digits behind it
abbrev pub value_from : ℕ → Bytes → ℕ
value_from n ds = fold (λ m d. 10 * m + (d - 48)) n ds

-- no token stands in front
abbrev pub NoToken : Bytes → Type 0
NoToken bytes = (t : T.Token) (more : Bytes) → Takes bytes t more → ⊥

-- the first n bytes are the token in front
pub record IsFront (bytes : Bytes) (kind : Kind) (n : ℕ) : Type 0 where
  pub spells : Spells (kind_token kind (take n bytes)) (take n bytes)
  pub ends : EndsBefore (kind_token kind (take n bytes)) (drop n bytes)
  pub some : 0 < n
  pub within : n ≤ length bytes

-- why none stands there
abbrev pub Refuses : Bytes → Bad → Type 0
Refuses bytes bad.Token = NoToken bytes × (fault_at (slice_index bytes 0) ≡ T.TokenFault)
Refuses bytes bad.Number = NoToken bytes × (fault_at (slice_index bytes 0) ≡ T.NumberFault)
Refuses bytes bad.Text = NoToken bytes × (fault_at (slice_index bytes 0) ≡ T.TextFault)
Refuses bytes bad.NoMemory = ⊤

abbrev pub Decides : Bytes → Result (Kind × ℕ) Bad → Type 0
Decides bytes (Ok p) = IsFront bytes p.0 p.1
Decides bytes (Err e) = Refuses bytes e

-- the same of a text alone, behind whose quote the bytes are no text where there is none
abbrev pub DecidesText : Bytes → Option (RcStr Global × ℕ) → Type 0
DecidesText bytes (Some p) = IsFront bytes (k.Text p.0) p.1
DecidesText bytes None = Refuses bytes bad.Text

-- a row of upper case letters, as a token
abbrev pub word_token : Bytes → T.Token
word_token w = if bytes_eq w (truth_text true) then T.Truth true else if bytes_eq w (truth_text false) then T.Truth false else T.Word w

abbrev pub sign_at : ℕ → ℕ → Option T.Sign
sign_at b next =
    if b == 61 then Some (T.Sign.Operator F.Op.Eq)
    else if b == 60 then (if next == 62 then Some (T.Sign.Operator F.Op.Ne) else if next == 61 then Some (T.Sign.Operator F.Op.Le) else Some (T.Sign.Operator F.Op.Lt))
    else if b == 62 then (if next == 61 then Some (T.Sign.Operator F.Op.Ge) else Some (T.Sign.Operator F.Op.Gt))
    else if b == 38 then Some (T.Sign.Operator F.Op.Join) else if b == 43 then Some (T.Sign.Operator F.Op.Add) else if b == 45 then Some (T.Sign.Operator F.Op.Sub)
    else if b == 42 then Some (T.Sign.Operator F.Op.Mul) else if b == 47 then Some (T.Sign.Operator F.Op.Div) else if b == 35 then Some T.Sign.Hash
    else if b == 40 then Some T.Sign.LeftParen else if b == 41 then Some T.Sign.RightParen
    else if b == 44 then Some T.Sign.Comma else if b == 58 then Some T.Sign.Colon else None

abbrev pub sign_len : T.Sign → ℕ
sign_len s = length (T.sign_text s)
