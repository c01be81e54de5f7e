-- What holds of the reading of tokens.
use Rattle.std.specs.Prelude.{◌≡◌, ℕ, List}
use Rattle.gl_calculus.specs.Formulas.Formula.{Formula}
use Rattle.gl_language.specs.Texts.Text.{Bytes, formula_text}
use Rattle.gl_language.specs.Reading.Token.{Token, Lexes, LexFault, IsLexFault}
use Rattle.gl_language.specs.Texts.Canonical.{formula_tokens, HasTokens}

-- A text has at most one list of tokens, or one first fault, and not both.
abbrev pub OneTokenList : Type 0
OneTokenList = (text : Bytes) (ts us : List Token) → Lexes text ts → Lexes text us → ts ≡ us

abbrev pub OneLexFault : Type 0
OneLexFault = (text : Bytes) (x y : LexFault) (m n : ℕ) → IsLexFault text x m → IsLexFault text y n → (x ≡ y) × (m ≡ n)

abbrev pub TokensOrFault : Type 0
TokensOrFault = (text : Bytes) (ts : List Token) (x : LexFault) (n : ℕ) → Lexes text ts → IsLexFault text x n → ⊥

-- The canonical text of a formula has its canonical tokens.
abbrev pub CanonicalIsLexed : Type 0
CanonicalIsLexed = (f : Formula) → HasTokens f → Lexes (formula_text f) (formula_tokens f)
