-- The tokens of a formula's text. The longest token is taken, and spaces may stand between tokens.
use Rattle.std.specs.Prelude.{◌≡◌, ◌≢◌, ℕ, ◌+◌, ◌-◌, ◌*◌, ◌^◌, ◌<◌, ◌≤◌, nat_le, ◌==◌, Bool, true}
use Rattle.std.specs.Prelude.{false, ◌&&◌, ◌||◌, IsTrue, IsFalse, ◌⊎◌, List, [], ◌∷◌, ◌++◌, length}
use Rattle.std.specs.Prelude.{fold, codes, ⊤}
use Rattle.std.specs.Prelude.{if◌then◌else◌}
use Rattle.std.specs.List.{AllByRecursion}
use Rattle.std.specs.Str.{is_utf8}
use Rattle.gl_calculus.specs.Grid.Limits.{max_text}
use Rattle.gl_calculus.specs.Grid.Grid.{Addr, grid, covers}
use Rattle.gl_calculus.specs.Grid.Notation.{address_text}
use Rattle.gl_calculus.specs.Formulas.Formula.{Op}
use Rattle.gl_calculus.specs.Formulas.Formula as F
use Rattle.gl_language.specs.Texts.Text.{Bytes, op_text, truth_text, is_control, hex_digit}

-- an operator, or what else stands between forms
pub data Sign : Type 0 where
  Operator : Op → Sign
  Hash LeftParen RightParen Comma Colon : Sign

pub data Token : Type 0 where
  Integer : ℕ → Token
  Quoted : Bytes → Token
  Address : Addr → Token
  Truth : Bool → Token
  Word Variable : Bytes → Token
  Signed : Sign → Token

abbrev pub is_digit : ℕ → Bool
is_digit b = nat_le 48 b && nat_le b 57

abbrev pub is_upper : ℕ → Bool
is_upper b = nat_le 65 b && nat_le b 90

abbrev pub is_lower : ℕ → Bool
is_lower b = nat_le 97 b && nat_le b 122

-- one or more bytes that pass the test
abbrev pub IsRow : (ℕ → Bool) → Bytes → Type 0
IsRow test bs = (0 < length bs) × AllByRecursion (λ b. IsTrue (test b)) bs

-- the bytes don't begin with one that passes the test
abbrev pub NotBefore : (ℕ → Bool) → Bytes → Type 0
NotBefore test [] = ⊤
NotBefore test (b ∷ bs) = IsFalse (test b)

abbrev pub digits_value : Bytes → ℕ
digits_value = fold (λ n d. 10 * n + (d - 48)) 0

-- the number of a hexadecimal digit of either case
abbrev pub IsHexDigit : ℕ → ℕ → Type 0
IsHexDigit b n = (n < 16) × ((b ≡ hex_digit n) ⊎ ((10 ≤ n) × (b ≡ n + 87)))

-- what stands between the quotes of a literal, and the text that it stands for: 92 is the
-- backslash, 34 the quote
pub data Decodes : Bytes → Bytes → Type 0 where
  end : Decodes [] []
  plain : {b : ℕ} {s t : Bytes} → b ≢ 92 → b ≢ 34 → IsFalse (is_control b) → Decodes s t
      → Decodes (b ∷ s) (b ∷ t)
  itself : {b : ℕ} {s t : Bytes} → (b ≡ 92) ⊎ (b ≡ 34) → Decodes s t → Decodes (92 ∷ b ∷ s) (b ∷ t)
  newline : {s t : Bytes} → Decodes s t → Decodes (92 ∷ 110 ∷ s) (10 ∷ t)
  return : {s t : Bytes} → Decodes s t → Decodes (92 ∷ 114 ∷ s) (13 ∷ t)
  tab : {s t : Bytes} → Decodes s t → Decodes (92 ∷ 116 ∷ s) (9 ∷ t)
  hex : {h l m n : ℕ} {s t : Bytes} → IsHexDigit h m → IsHexDigit l n → m < 8 → Decodes s t
      → Decodes (92 ∷ 120 ∷ h ∷ l ∷ s) ((16 * m + n) ∷ t)

abbrev pub sign_text : Sign → Bytes
sign_text (Operator op) = op_text op
sign_text Hash = codes "#"
sign_text LeftParen = codes "("
sign_text RightParen = codes ")"
sign_text Comma = codes ","
sign_text Colon = codes ":"

-- the bytes of a token
pub data Spells : Token → Bytes → Type 0 where
  integer : {bs : Bytes} → IsRow is_digit bs → digits_value bs < 2 ^ 63
      → Spells (Integer (digits_value bs)) bs
  quoted : {s t : Bytes} → Decodes s t → IsTrue (is_utf8 t) → length t ≤ max_text
      → Spells (Quoted t) (34 ∷ s ++ 34 ∷ [])
  address : {a : Addr} → IsTrue (covers grid a) → Spells (Address a) (address_text a)
  truth : {b : Bool} → Spells (Truth b) (truth_text b)
  word : {bs : Bytes} → IsRow is_upper bs → bs ≢ truth_text true → bs ≢ truth_text false
      → Spells (Word bs) bs
  variable : {bs : Bytes} → IsRow is_lower bs → Spells (Variable bs) bs
  signed : {s : Sign} → Spells (Signed s) (sign_text s)

-- a token that some bytes spell
abbrev pub IsToken : Token → Type 0
IsToken t = (bs : Bytes) × Spells t bs

-- what follows doesn't make the token longer: no row of letters or digits is cut, and no sign
abbrev pub EndsBefore : Token → Bytes → Type 0
EndsBefore (Integer n) rest = NotBefore is_digit rest
EndsBefore (Address a) rest = NotBefore is_digit rest
EndsBefore (Truth b) rest = NotBefore (λ b. is_upper b || is_digit b) rest
EndsBefore (Word w) rest = NotBefore (λ b. is_upper b || is_digit b) rest
EndsBefore (Variable v) rest = NotBefore is_lower rest
EndsBefore (Signed (Operator F.Op.Lt)) rest = NotBefore (λ b. (b == 61) || (b == 62)) rest
EndsBefore (Signed (Operator F.Op.Gt)) rest = NotBefore (λ b. b == 61) rest
EndsBefore t rest = ⊤

-- a token is read at the front, and leaves the rest
abbrev pub Takes : Bytes → Token → Bytes → Type 0
Takes text t rest = (bs : Bytes) × (text ≡ bs ++ rest) × Spells t bs × EndsBefore t rest

-- tokens are read from the left, and leave the rest
pub data Reads : Bytes → List Token → Bytes → Type 0 where
  no_more : {rest : Bytes} → Reads rest [] rest
  space : {text rest : Bytes} {ts : List Token} → Reads text ts rest → Reads (32 ∷ text) ts rest
  token : {text more rest : Bytes} {t : Token} {ts : List Token} → Takes text t more
      → Reads more ts rest → Reads text (t ∷ ts) rest

-- these are the tokens of the whole text
abbrev pub Lexes : Bytes → List Token → Type 0
Lexes text ts = Reads text ts []

pub data LexFault : Type 0 where
  TokenFault NumberFault TextFault : LexFault

abbrev pub fault_at : ℕ → LexFault
fault_at b = if is_digit b then NumberFault else if b == 34 then TextFault else TokenFault

-- the first place at which no token can be read, with the fault there
pub record IsLexFault (text : Bytes) (fault : LexFault) (at_byte : ℕ) : Type 0 where
  pub before : List Token
  pub first : ℕ
  pub rest : Bytes
  pub reads : Reads text before (first ∷ rest)
  pub no_space : first ≢ 32
  pub no_token : (t : Token) (more : Bytes) → Takes (first ∷ rest) t more → ⊥
  pub place : at_byte + length (first ∷ rest) ≡ length text
  pub which : fault ≡ fault_at first
