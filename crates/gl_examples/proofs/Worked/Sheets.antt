-- Short forms for worked sheets, and the calculation with so many levels of demand.
use Rattle.std.proofs.Common.{ℕ, List, [], ◌∷◌, map, pos, Option, Some, None, Result, Ok}
use Rattle.std.specs.Prelude.{filter_map}
use Rattle.gl_calculus.specs.Grid.Grid.{Addr, addr, Range, range, size, Size, grid, addresses}
use Rattle.gl_calculus.specs.Values.Value as V
use Rattle.gl_calculus.specs.Values.ErrKind.{ErrKind}
use Rattle.gl_calculus.specs.Values.Value.{Scalar, Value, Oracle, Entry, Permitted, Refused, Top}
use Rattle.gl_calculus.specs.Formulas.Formula as F
use Rattle.gl_calculus.specs.Formulas.Formula.{Version, Formula, formulas, Cells, Content, Const, Form, operand_and, no_operand, formula_addresses}
use Rattle.gl_calculus.specs.Computation.Query.{val, run}
use Rattle.gl_calculus.specs.Evaluation.Oracle.{grant}
use Rattle.gl_calculus.specs.Computation.Evaluation.{given}
use Rattle.gl_calculus.specs.Evaluation.Facts.{facts}
use Rattle.gl_calculus.specs.Evaluation.Key.{Cell, Outcome, Budget}
use Rattle.gl_calculus.specs.Evaluation.Reference.{at_address}
use Rattle.gl_calculus.specs.Evaluation.World.{World, world}
use Rattle.gl_calculus.specs.Evaluation.Evaluation.{program}
use Rattle.gl_calculus.specs.Calculation.Calculation.{has_content}

-- ---- formulas

abbrev pub int : ℕ → Formula
int n = F.Formula.Int (pos n)

abbrev pub cell : ℕ → ℕ → Formula
cell c r = F.Formula.At (addr c r)

abbrev pub hash : ℕ → ℕ → Formula
hash c r = F.Formula.Spill (addr c r)

abbrev pub area : ℕ → ℕ → ℕ → ℕ → Formula
area c r d s = F.Formula.Area (range (addr c r) (addr d s))

abbrev pub plus : Formula → Formula → Formula
plus f g = F.Formula.Chain F.Level.Sum f (operand_and F.Op.Add g no_operand)

abbrev pub minus : Formula → Formula → Formula
minus f g = F.Formula.Chain F.Level.Sum f (operand_and F.Op.Sub g no_operand)

abbrev pub times : Formula → Formula → Formula
times f g = F.Formula.Chain F.Level.Prod f (operand_and F.Op.Mul g no_operand)

abbrev pub over : Formula → Formula → Formula
over f g = F.Formula.Chain F.Level.Prod f (operand_and F.Op.Div g no_operand)

abbrev pub equals : Formula → Formula → Formula
equals = F.Formula.Compare F.Op.Eq

abbrev pub call : F.Fun → List Formula → Formula
call f xs = F.Formula.Call f (formulas xs)

abbrev pub number : ℕ → Content
number n = Const (V.Scalar.Int (pos n))

-- a sheet of one formula, at A1
abbrev pub alone : Formula → Cells
alone f = (addr 1 1, Form f) ∷ []

-- ---- values

abbrev pub one : ℕ → Scalar
one n = V.Scalar.Int (pos n)

abbrev pub err : ErrKind → Scalar
err = V.Scalar.Err

abbrev pub permitted : ℕ → ℕ → ℕ → ℕ → Entry
permitted c r m n = record { root = addr c r; size = size m n; permit = Permitted }

abbrev pub refused : ℕ → ℕ → ℕ → ℕ → Entry
refused c r m n = record { root = addr c r; size = size m n; permit = Refused }

-- ---- the calculation, with n levels of demand

abbrev pub outcome : World → ℕ → ℕ → ℕ → Option Outcome
outcome W n c r = val (program W) n (Cell Top (addr c r))

abbrev pub scalar_of : Option (Result Value Budget) → Option Scalar
scalar_of (Some (Ok (V.Value.One x))) = Some x
scalar_of x = None

abbrev pub shows : World → ℕ → ℕ → ℕ → Option Scalar
shows W n c r = scalar_of (run (val (program W) n) (given (facts W.sheet W.oracle) (at_address Top (addr c r))))

-- the scalars of a range
abbrev pub view : World → ℕ → Range → List (Option Scalar)
view W n r = map (λ a. scalar_of (run (val (program W) n) (given (facts W.sheet W.oracle) (at_address Top a)))) (addresses r)

abbrev pub sized : Addr → Option Outcome → Option (Addr × Size)
sized a (Some (Outcome.Value (V.Value.Array z xs))) = Some (a, z)
sized a x = None

-- the oracle after w
abbrev pub next : Version → Cells → ℕ → Oracle → Oracle
next version S n w = grant grid (has_content S) (filter_map (λ a. sized a (val (program (world version S w)) n (Cell Top a))) (formula_addresses S))
