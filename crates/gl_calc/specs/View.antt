-- What a calculator holds and remembers.
use Rattle.std.specs.Prelude.{List, Option}
use Rattle.gl_calculus.specs.Grid.Grid.{Addr}
use Rattle.gl_calculus.specs.Values.Value.{Oracle}
use Rattle.gl_calculus.specs.Formulas.Formula.{Version, Cells}
use Rattle.gl_calculus.specs.Calculation.Memory.{Memory}
use Rattle.gl_calculus.specs.Calculation.Memory as M
use Rattle.gl_cells.specs.Sheet.{Table, sheet}

-- the contents by address, and the version and the oracle of the held answer; the tables of the first rounds of the latest calculation with its version, and the addresses that were touched since
pub record View : Type 0 where
  pub table : Table
  pub held : Option (Version × Oracle)
  pub tables : List M.Table
  pub version : Version
  pub touched : List Addr

abbrev pub sheet_of : View → Cells
sheet_of c = sheet c.table

abbrev pub memory_of : View → Memory
memory_of c = record { cells = sheet_of c; answer = c.held; tables = c.tables; version = c.version; touched = c.touched }
