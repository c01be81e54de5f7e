-- The canonical tokens of a formula: those that its canonical text has.
use Rattle.std.specs.Prelude.{ℕ, ◌+◌, ◌^◌, ◌<◌, ◌≤◌, pos, negsuc, Bool, true, false, IsTrue, List}
use Rattle.std.specs.Prelude.{[], ◌∷◌, ◌++◌, length, codes}
use Rattle.std.specs.Prelude.{if◌then◌else◌}
use Rattle.std.specs.Str.{is_utf8}
use Rattle.gl_calculus.specs.Grid.Limits.{max_text}
use Rattle.gl_calculus.specs.Grid.Grid.{grid, covers}
use Rattle.gl_calculus.specs.Formulas.Formula.{Op, Formula, Formulas, Operands}
use Rattle.gl_calculus.specs.Formulas.Formula as F
use Rattle.gl_language.specs.Texts.Text.{Bytes, in_parens, fun_text, level_place, one_more}
use Rattle.gl_language.specs.Texts.Text.{minus_of, needs_parens}
use Rattle.gl_language.specs.Reading.Token.{Token, Sign, Integer, Quoted, Address, Truth, Word}
use Rattle.gl_language.specs.Reading.Token.{Variable, Signed, IsRow, is_lower}
use Rattle.gl_language.specs.Reading.Token as T

abbrev pub Tokens : Type 0
Tokens = List Token

abbrev pub op_sign : Op → Sign
op_sign op = T.Sign.Operator op

-- a form's texts, or its tokens, in its place: in parentheses, where no `-` stands before it, or
-- behind so many `-`
abbrev pub in_place : Bool → (ℕ → Bytes) → ℕ → Bytes
in_place b text minus = if b then in_parens (text 0) else text minus

abbrev pub tokens_in_place : Bool → (ℕ → Tokens) → ℕ → Tokens
tokens_in_place true ts minus = Signed T.Sign.LeftParen ∷ (ts 0 ++ Signed T.Sign.RightParen ∷ [])
tokens_in_place false ts minus = ts minus

abbrev mutual
  pub tokens_behind : ℕ → Formula → Tokens
  tokens_behind minus (F.Formula.Int (pos n)) = Integer n ∷ []
  -- no formula has a number below 0
  tokens_behind minus (F.Formula.Int (negsuc n)) = []
  tokens_behind minus (F.Formula.Text t) = Quoted t ∷ []
  tokens_behind minus (F.Formula.Bool b) = Truth b ∷ []
  tokens_behind minus (F.Formula.At a) = Address a ∷ []
  tokens_behind minus (F.Formula.Spill a) = Address a ∷ Signed T.Sign.Hash ∷ []
  tokens_behind minus (F.Formula.Area r) =
      Address r.first ∷ Signed T.Sign.Colon ∷ Address r.last ∷ []
  tokens_behind minus (F.Formula.Var name) = Variable name ∷ []
  tokens_behind minus (F.Formula.Neg f) =
      Signed (T.Sign.Operator F.Op.Sub) ∷
      tokens_in_place (needs_parens (one_more minus) 4 f) (λ m. tokens_behind m f) (one_more minus)
  tokens_behind minus (F.Formula.Chain level f rest) =
      tokens_in_place (needs_parens minus (level_place level + 1) f) (λ m. tokens_behind m f) minus
      ++ operands_tokens (level_place level + 1) rest
  tokens_behind minus (F.Formula.Compare op f g) =
      tokens_in_place (needs_parens minus 1 f) (λ m. tokens_behind m f) minus
      ++ (Signed (op_sign op) ∷ tokens_in_place (needs_parens 0 1 g) (λ m. tokens_behind m g) 0)
  tokens_behind minus (F.Formula.Call f xs) =
      Word (fun_text f) ∷ Signed T.Sign.LeftParen
      ∷ (arguments_tokens xs ++ Signed T.Sign.RightParen ∷ [])
  tokens_behind minus (F.Formula.Let name f body) =
      Word (codes "LET") ∷ Signed T.Sign.LeftParen ∷ Variable name ∷ Signed T.Sign.Comma
      ∷ (tokens_behind 0 f
      ++ (Signed T.Sign.Comma ∷ (tokens_behind 0 body ++ Signed T.Sign.RightParen ∷ [])))

  pub operands_tokens : ℕ → Operands → Tokens
  operands_tokens place F.Operands.no_operand = []
  operands_tokens place (F.Operands.operand_and op f rest) =
      Signed (op_sign op)
      ∷ (tokens_in_place (needs_parens (minus_of op) place f) (λ m. tokens_behind m f) (minus_of op)
      ++ operands_tokens place rest)

  pub arguments_tokens : Formulas → Tokens
  arguments_tokens F.Formulas.no_formula = []
  arguments_tokens (F.Formulas.formula_and f fs) = tokens_behind 0 f ++ more_tokens fs

  -- arguments behind others
  pub more_tokens : Formulas → Tokens
  more_tokens F.Formulas.no_formula = []
  more_tokens (F.Formulas.formula_and f fs) =
      Signed T.Sign.Comma ∷ (tokens_behind 0 f ++ more_tokens fs)

abbrev pub formula_tokens : Formula → Tokens
formula_tokens f = tokens_behind 0 f

-- The numbers, texts, names and addresses of the formula are those of tokens.
abbrev mutual
  pub HasTokens : Formula → Type 0
  HasTokens (F.Formula.Int (pos n)) = n < 2 ^ 63
  HasTokens (F.Formula.Int (negsuc n)) = ⊥
  HasTokens (F.Formula.Text t) = IsTrue (is_utf8 t) × (length t ≤ max_text)
  HasTokens (F.Formula.Bool b) = Unit {0}
  HasTokens (F.Formula.At a) = IsTrue (covers grid a)
  HasTokens (F.Formula.Spill a) = IsTrue (covers grid a)
  HasTokens (F.Formula.Area r) = IsTrue (covers grid r.first) × IsTrue (covers grid r.last)
  HasTokens (F.Formula.Var name) = IsRow is_lower name
  HasTokens (F.Formula.Neg f) = HasTokens f
  HasTokens (F.Formula.Chain level f rest) = HasTokens f × HaveTokens rest
  HasTokens (F.Formula.Compare op f g) = HasTokens f × HasTokens g
  HasTokens (F.Formula.Call f xs) = AllHaveTokens xs
  HasTokens (F.Formula.Let name f body) = IsRow is_lower name × (HasTokens f × HasTokens body)

  pub HaveTokens : Operands → Type 0
  HaveTokens F.Operands.no_operand = Unit {0}
  HaveTokens (F.Operands.operand_and op f rest) = HasTokens f × HaveTokens rest

  pub AllHaveTokens : Formulas → Type 0
  AllHaveTokens F.Formulas.no_formula = Unit {0}
  AllHaveTokens (F.Formulas.formula_and f fs) = HasTokens f × AllHaveTokens fs
