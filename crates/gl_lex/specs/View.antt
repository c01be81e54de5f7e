-- The tokens of the language that those of the code stand for.
use Rattle.gl_calculus.specs.Formulas.Formula as F
use Rattle.std.specs.Prelude.{◌≡◌, ℕ, ◌+◌, ◌^◌, ◌<◌, ◌≤◌, ℤ, pos, negsuc, List, [], ◌∷◌, map, slice_range, Result, Ok, Err, ⊤}
use Rattle.std.specs.List.{AllByRecursion}
use Rattle.std.specs.Rc.{rc_str_bytes}
use Rattle.std.specs.declared.alloc.Global.{Global}
use Rattle.std.specs.declared.rc.RcStr.{RcStr}
use Rattle.gl_language.specs.Texts.Text.{Bytes}
use Rattle.gl_language.specs.Reading.Token as T
use Rattle.gl_lex.specs.declared.Sign.{Sign}
use Rattle.gl_lex.specs.declared.Sign.TheVariants as s
use Rattle.gl_lex.specs.declared.Kind.{Kind}
use Rattle.gl_lex.specs.declared.Kind.TheVariants as k
use Rattle.gl_lex.specs.declared.Token.{Token}
use Rattle.gl_lex.specs.declared.fault.LexFault.{LexFault}
use Rattle.gl_lex.specs.declared.fault.LexFault.TheVariants as fault

abbrev pub sign_of : Sign → T.Sign
sign_of s.Eq = (T.Sign.Operator F.Op.Eq)
sign_of s.Ne = (T.Sign.Operator F.Op.Ne)
sign_of s.Lt = (T.Sign.Operator F.Op.Lt)
sign_of s.Le = (T.Sign.Operator F.Op.Le)
sign_of s.Gt = (T.Sign.Operator F.Op.Gt)
sign_of s.Ge = (T.Sign.Operator F.Op.Ge)
sign_of s.Join = (T.Sign.Operator F.Op.Join)
sign_of s.Plus = (T.Sign.Operator F.Op.Add)
sign_of s.Minus = (T.Sign.Operator F.Op.Sub)
sign_of s.Times = (T.Sign.Operator F.Op.Mul)
sign_of s.Over = (T.Sign.Operator F.Op.Div)
sign_of s.Hash = T.Sign.Hash
sign_of s.LeftParen = T.Sign.LeftParen
sign_of s.RightParen = T.Sign.RightParen
sign_of s.Comma = T.Sign.Comma
sign_of s.Colon = T.Sign.Colon

-- The number of an integer. One below 0, which no token has, counts as one that is too great for a token.
abbrev pub number : ℤ → ℕ
number (pos n) = n
number (negsuc n) = 2 ^ 63 + n

-- a kind with these letters
abbrev pub kind_token : Kind → Bytes → T.Token
kind_token (k.Integer n) letters = T.Integer (number n)
kind_token (k.Text t) letters = T.Quoted (rc_str_bytes t)
kind_token (k.Address a) letters = T.Address a
kind_token (k.Truth b) letters = T.Truth b
kind_token k.Word letters = T.Word letters
kind_token k.Variable letters = T.Variable letters
kind_token (k.Sign s) letters = T.Signed (sign_of s)

-- the bytes of a token's span
abbrev pub span : Bytes → Token → Bytes
span text t = slice_range text t.start t.end

abbrev pub token_in : Bytes → Token → T.Token
token_in text t = kind_token t.kind (span text t)

abbrev pub tokens_in : Bytes → List Token → List T.Token
tokens_in text ts = map (token_in text) ts

-- from one place up to another only spaces stand
abbrev pub IsGap : Bytes → ℕ → ℕ → Type 0
IsGap text from to = (from ≤ to) × AllByRecursion (λ b. b ≡ 32) (slice_range text from to)

-- The spans lie in order between two places, each has the bytes of its token, and only spaces stand between them: so each is as long as its token.
abbrev pub AreSpans : Bytes → ℕ → ℕ → List Token → Type 0
AreSpans text from to [] = IsGap text from to
AreSpans text from to (t ∷ ts) = IsGap text from t.start × (t.start < t.end) × T.Spells (token_in text t) (span text t) × AreSpans text t.end to ts

-- The text has no tokens, and this is why.
abbrev pub IsRefused : Bytes → LexFault → Type 0
IsRefused text (fault.Token at) = T.IsLexFault text T.TokenFault at
IsRefused text (fault.Number at) = T.IsLexFault text T.NumberFault at
IsRefused text (fault.Text at) = T.IsLexFault text T.TextFault at
IsRefused text fault.NoMemory = ⊤

-- The whole text is this literal, or none.
abbrev pub IsLiteral : Bytes → Result (RcStr Global) LexFault → Type 0
IsLiteral text (Ok t) = T.Spells (T.Quoted (rc_str_bytes t)) text
IsLiteral text (Err (fault.Text at)) = (at ≡ 0) × ((t : Bytes) → T.Spells (T.Quoted t) text → ⊥)
IsLiteral text (Err fault.NoMemory) = ⊤
IsLiteral text (Err e) = ⊥
