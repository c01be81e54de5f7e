-- What a call of the reader answers.
use Rattle.std.specs.Prelude.{◌≡◌, ℕ, ◌<◌, Bool, true, false, List, [], ◌∷◌, Option, Some, None, Result, Ok, Err, if◌then◌else◌}
use Rattle.std.specs.Borrow.{Bor}
use Rattle.gl_calculus.specs.Formulas.Formula.{Level, Op}
use Rattle.gl_calculus.specs.Formulas.Formula as F
use Rattle.gl_language.specs.Reading.Token.{Sign, Signed}
use Rattle.gl_language.specs.Reading.Token as T
use Rattle.gl_language.specs.Reading.Grammar.{Tokens, Raw, RawOperands, Raws, chained, is_let, IsExpr, IsChain, IsLinks, IsArguments, IsMore}
use Rattle.gl_language.specs.Texts.Text.{Bytes}
use Rattle.gl_lex.specs.declared.Token.{Token}
use Rattle.gl_lex.specs.View.{tokens_in}
use Rattle.gl_ast.specs.declared.Level.{Level as CodeLevel}
use Rattle.gl_ast.specs.View.{level_tree}
use Rattle.gl_parse.specs.Raws.{onto, before, raw_tree}
use Rattle.gl_parse.specs.declared.raw.Raw.{Raw as CodeRaw}
use Rattle.gl_parse.specs.declared.stop.Stop.{Stop}
use Rattle.gl_parse.specs.declared.stop.Stop.TheVariants.{Syntax, NoMemory}

-- a variable
abbrev pub is_variable : Raw → Bool
is_variable (Raw.Var v) = true
is_variable f = false

-- the variable that a word with these arguments binds
abbrev pub bound_by : Bytes → List Raw → Option Bytes
bound_by word (Raw.Var v ∷ f ∷ body ∷ []) = if is_let word then Some v else None
bound_by word fs = None

-- how tightly a sign binds what stands before it
abbrev pub binds : Sign → ℕ
binds T.Sign.Hash = 5
binds T.Sign.Colon = 5
binds (T.Sign.Operator F.Op.Mul) = 4
binds (T.Sign.Operator F.Op.Div) = 4
binds (T.Sign.Operator F.Op.Add) = 3
binds (T.Sign.Operator F.Op.Sub) = 3
binds (T.Sign.Operator F.Op.Join) = 2
binds T.Sign.LeftParen = 0
binds T.Sign.RightParen = 0
binds T.Sign.Comma = 0
binds _ = 1

-- no token follows that binds as tightly
abbrev pub Ends : ℕ → Tokens → Type 0
Ends k (Signed s ∷ ts) = binds s < k
Ends k _ = Unit {0}

abbrev pub Form : Type 0 → Type 1
Form A = Tokens → A → Tokens → Type 0

-- The one reading of a front of the tokens behind which they end.
pub record Only {A : Type 0} (R : Form A) (k : ℕ) (ts : Tokens) (t : A) (rest : Tokens) : Type 0 where
  pub reads : R ts t rest
  pub only : (u : A) (other : Tokens) → R ts u other → Ends k other → (u ≡ t) × (other ≡ rest)

-- No front of the tokens has this form.
pub record Never {A : Type 0} (R : Form A) (k : ℕ) (ts : Tokens) : Type 0 where
  pub never : (u : A) (other : Tokens) → R ts u other → Ends k other → ⊥

abbrev pub chain_end : Level → ℕ
chain_end F.Level.Cat = 2
chain_end F.Level.Sum = 3
chain_end F.Level.Prod = 4

abbrev pub operand_end : Level → ℕ
operand_end F.Level.Cat = 3
operand_end F.Level.Sum = 4
operand_end F.Level.Prod = 5

-- an operator in front and what follows it, or anything else
pub data Front : Type 0 where
  Behind : Op → Tokens → Front
  Other : Front

abbrev pub front_by : Option Op → Tokens → Front
front_by (Some o) ts = Front.Behind o ts
front_by None ts = Front.Other

abbrev pub after_sign : (Sign → Option Op) → Tokens → Front
after_sign f (Signed s ∷ ts) = front_by (f s) ts
after_sign f _ = Front.Other

-- A chain of which these operators were read.
pub record SoFar (l : Level) (ts : Tokens) (a : Raw) (front : List (Op × Raw)) (rest : Tokens) : Type 0 where
  pub reads : (more : RawOperands) (ws : Tokens) → IsLinks l rest more ws → IsChain l ts (chained l a (onto front more)) ws
  pub only : (t : Raw) (ws : Tokens) → IsChain l ts t ws → Ends (chain_end l) ws → (more : RawOperands) × IsLinks l rest more ws × (t ≡ chained l a (onto front more))

abbrev pub Fails : {A : Type 0} → Form A → ℕ → Tokens → Stop → Type 0
Fails R k ts Syntax = Never R k ts
Fails R k ts NoMemory = Unit {0}

-- What was read is the one reading, and a fault of syntax comes only where there is none.
abbrev pub Decides : {A X : Type 0} → Result X Stop → (X → A) → (X → Tokens) → Form A → ℕ → Tokens → Type 0
Decides (Ok x) tree rest R k ts = Only R k ts (tree x) (rest x)
Decides (Err e) tree rest R k ts = Fails R k ts e

-- The same of a form of the code and the tokens behind it, and of one of a level.
abbrev pub DecidesForm : Form Raw → ℕ → Bytes → Tokens → Result (CodeRaw × Bor (List Token)) Stop → Type 0
DecidesForm R k text ts result = Decides result (λ p. raw_tree text p.0) (λ p. tokens_in text p.1.now) R k ts

abbrev pub DecidesLevel : (Level → Form Raw) → (Level → ℕ) → CodeLevel → Bytes → List Token → Result (CodeRaw × Bor (List Token)) Stop → Type 0
DecidesLevel R k level text ts result = DecidesForm (R (level_tree level)) (k (level_tree level)) text (tokens_in text ts) result

-- Arguments of which these were read.
pub record ArgumentsSoFar (ts : Tokens) (front : List Raw) (rest : Tokens) : Type 0 where
  pub reads : (more : Raws) (ws : Tokens) → IsMore rest more ws → IsArguments ts (before front more) ws
  pub only : (all : Raws) (ws : Tokens) → IsArguments ts all ws → (more : Raws) × IsMore rest more ws × (all ≡ before front more)

-- A list of tokens is read as its one tree, and refused only where it has none.
abbrev pub IsReadAs : {X : Type 0} → Tokens → (X → Raw) → Result X Stop → Type 0
IsReadAs ts tree (Ok x) = IsExpr ts (tree x) [] × ((t : Raw) → IsExpr ts t [] → t ≡ tree x)
IsReadAs ts tree (Err Syntax) = (t : Raw) → IsExpr ts t [] → ⊥
IsReadAs ts tree (Err NoMemory) = Unit {0}
