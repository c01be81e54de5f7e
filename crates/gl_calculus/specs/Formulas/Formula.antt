-- The trees of formulas, and the contents of a sheet.
use Rattle.std.specs.Prelude.{ℕ, ℤ, List, [], ◌∷◌, map, Option, Some, None, if◌then◌else◌}
use Rattle.std.specs.Prelude as P
use Rattle.gl_calculus.specs.Grid.Grid.{Addr, same_addr, AreInOrder, Range}
use Rattle.gl_calculus.specs.Values.Value.{Scalar}

-- the version of the script
pub data Version : Type 0 where
  One Two : Version

pub data Op : Type 0 where
  Eq Ne Lt Le Gt Ge Join Add Sub Mul Div : Op

pub data Level : Type 0 where
  Cat Sum Prod : Level

pub data Fun : Type 0 where
  Sum Count Min Max And Or Not If IfError IsError IsBlank Abs Mod Len Left Right : Fun
  Rows Columns Index Sequence Transpose Take Drop HStack VStack Filter Unique Lookup Na : Fun
  Sheet Update View G This : Fun

mutual
  pub data Formula : Type 0 where
    Int : ℤ → Formula
    Text : List ℕ → Formula
    Bool : P.Bool → Formula
    At : Addr → Formula
    Spill : Addr → Formula
    Area : Range → Formula
    Var : (name : List ℕ) → Formula
    Neg : Formula → Formula
    -- operands of one level, taken from left to right
    Chain : Level → Formula → Operands → Formula
    Compare : Op → Formula → Formula → Formula
    Call : Fun → Formulas → Formula
    Let : (name : List ℕ) → Formula → (body : Formula) → Formula

  pub data Formulas : Type 0 where
    no_formula : Formulas
    formula_and : Formula → Formulas → Formulas

  pub data Operands : Type 0 where
    no_operand : Operands
    operand_and : Op → Formula → Operands → Operands

abbrev pub formulas : List Formula → Formulas
formulas [] = no_formula
formulas (f ∷ fs) = formula_and f (formulas fs)

pub data Content : Type 0 where
  Const : Scalar → Content
  Form : Formula → Content

-- the sheet: a finite map from addresses to contents, listed in row-major order
abbrev pub Cells : Type 0
Cells = List (Addr × Content)

-- it lists each address once, and in that order
abbrev pub IsSheet : Cells → Type 0
IsSheet S = AreInOrder (map (λ c. c.0) S)

abbrev pub content : Cells → Addr → Option Content
content [] a = None
content (c ∷ cs) a = if same_addr a c.0 then Some c.1 else content cs a

-- the addresses that hold a formula, in row-major order
abbrev pub formula_addresses : Cells → List Addr
formula_addresses [] = []
formula_addresses ((a, Form f) ∷ cs) = a ∷ formula_addresses cs
formula_addresses ((a, Const x) ∷ cs) = formula_addresses cs
