-- The formula of a content.
use Rattle.std.specs.Prelude.{[], Option, Some, None}
use Rattle.gl_calculus.specs.Grid.Grid.{Addr}
use Rattle.gl_calculus.specs.Formulas.Formula.{Formula, Content, Const, Form}
use Rattle.gl_calculus.specs.Forecast.{Shape, shape}

-- the formula, where there is one
abbrev pub formula_in : Option Content → Option Formula
formula_in (Some (Form f)) = Some f
formula_in (Some (Const x)) = None
formula_in None = None

-- its shape; none without a formula
abbrev pub formula_shape : (Addr → Shape) → Option Formula → Shape
formula_shape spilled (Some f) = shape spilled [] f
formula_shape spilled None = None
