-- What may follow a form, if it is read as far as it goes.
use Rattle.std.proofs.Common.{◌≡◌, ℕ, ◌+◌, ◌<◌, ◌≤◌, ◌∷◌, refl, arith, lit<}
use Rattle.std.specs.Prelude.{Some}
use Rattle.gl_calculus.specs.Formulas.Formula.{Op, Level}
use Rattle.gl_calculus.specs.Formulas.Formula as F
use Rattle.gl_language.specs.Reading.Token.{Sign, Signed}
use Rattle.gl_language.specs.Reading.Token as T
use Rattle.gl_language.specs.Reading.Grammar.{Raws, RawOperands, Tokens, comparison, operator, IsLinks, no_link, link, IsMore, close, comma}

-- how tightly a sign binds what stands before it
abbrev pub binds : Sign → ℕ
binds T.Sign.Hash = 5
binds T.Sign.Colon = 5
binds (T.Sign.Operator F.Op.Mul) = 4
binds (T.Sign.Operator F.Op.Div) = 4
binds (T.Sign.Operator F.Op.Add) = 3
binds (T.Sign.Operator F.Op.Sub) = 3
binds (T.Sign.Operator F.Op.Join) = 2
binds T.Sign.LeftParen = 0
binds T.Sign.RightParen = 0
binds T.Sign.Comma = 0
binds s = 1

-- no sign follows that binds as tightly
abbrev pub Ends : ℕ → Tokens → Type 0
Ends k (Signed s ∷ ts) = binds s < k
Ends k ts = Unit {0}

abbrev pub chain_end : Level → ℕ
chain_end F.Level.Cat = 2
chain_end F.Level.Sum = 3
chain_end F.Level.Prod = 4

abbrev pub operand_end : Level → ℕ
operand_end level = chain_end level + 1

pub later : (j k : ℕ) (ts : Tokens) → j ≤ k → Ends j ts → Ends k ts
later j k (Signed s ∷ ts) h e = omega arith
later j k ts h e = tt

pub compares : (s : Sign) (op : Op) → comparison s ≡ Some op → binds s ≡ 1
compares (T.Sign.Operator F.Op.Eq) op h = refl
compares (T.Sign.Operator F.Op.Ne) op h = refl
compares (T.Sign.Operator F.Op.Lt) op h = refl
compares (T.Sign.Operator F.Op.Le) op h = refl
compares (T.Sign.Operator F.Op.Gt) op h = refl
compares (T.Sign.Operator F.Op.Ge) op h = refl
compares s op h = cc

pub operates : (level : Level) (s : Sign) (op : Op) → operator level s ≡ Some op → binds s ≡ chain_end level
operates F.Level.Cat (T.Sign.Operator F.Op.Join) op h = refl
operates F.Level.Sum (T.Sign.Operator F.Op.Add) op h = refl
operates F.Level.Sum (T.Sign.Operator F.Op.Sub) op h = refl
operates F.Level.Prod (T.Sign.Operator F.Op.Mul) op h = refl
operates F.Level.Prod (T.Sign.Operator F.Op.Div) op h = refl
operates level s op h = cc

-- an operand ends where the operators behind it begin
pub links_end : {level : Level} {us vs : Tokens} {rest : RawOperands} → IsLinks level us rest vs → Ends (chain_end level) vs → Ends (operand_end level) us
links_end {level} {us} no_link e = later (chain_end level) (operand_end level) us (omega arith) e
links_end {level} (link {s = s} {op = op} h o l) e = omega (arith, operates level s op h)

pub more_ends : {us vs : Tokens} {xs : Raws} → IsMore us xs vs → Ends 1 us
more_ends close = lit< tt
more_ends (comma e m) = lit< tt
