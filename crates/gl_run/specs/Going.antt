-- The addresses that lose their contents, change by change.
use Rattle.std.specs.Prelude.{List, ◌∷◌, Option, Some, None}
use Rattle.gl_calculus.specs.Grid.Grid.{Addr}
use Rattle.gl_calculus.specs.Formulas.Formula.{Content}

-- an address that loses its content by a change, before others
abbrev pub and_address : Addr → Option Content → List Addr → List Addr
and_address a (Some c) ps = ps
and_address a None ps = a ∷ ps
