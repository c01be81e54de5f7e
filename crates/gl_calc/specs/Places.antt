-- The addresses of the formulas, from one calculation to the next.
use Rattle.std.specs.Prelude.{◌≡◌, Option, Vec, IfSome}
use Rattle.std.specs.declared.alloc.Global.{Global}
use Rattle.gl_calculus.specs.Grid.Grid.{Addr}
use Rattle.gl_calculus.specs.Formulas.Formula.{Cells, formula_addresses}

-- the addresses of the formulas, where they are known
abbrev pub ArePlaces : Cells → Option (Vec Addr Global) → Type 0
ArePlaces S places = IfSome places (λ v. v.items ≡ formula_addresses S)
