-- The addresses of a sheet value's region that have content.
use Rattle.std.specs.Prelude.{List, filter}
use Rattle.gl_calculus.specs.Grid.Grid.{Addr, addresses}
use Rattle.gl_calculus.specs.Values.Value.{SheetValue, region}
use Rattle.gl_calculus.specs.Formulas.Formula.{Cells}
use Rattle.gl_demand.specs.Blocks.{has_content_in}

-- in row-major order
abbrev pub filled_places : Cells → SheetValue → List Addr
filled_places S s = filter (has_content_in S s) (addresses (region s))
