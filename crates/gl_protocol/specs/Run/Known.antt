-- A script with what is remembered of its calculations.
use Rattle.std.specs.Prelude.{List, [], Option, None}
use Rattle.gl_calculus.specs.Grid.Grid.{Addr}
use Rattle.gl_calculus.specs.Values.Value.{Oracle}
use Rattle.gl_calculus.specs.Formulas.Formula.{Version, One}
use Rattle.gl_calculus.specs.Calculation.Memory.{Memory, Table}
use Rattle.gl_protocol.specs.Scripts.Script.{Script, new_script}

-- the state, and beside its sheet what a calculation remembers of the latest ones
pub record Known : Type 0 where
  pub script : Script
  pub answer : Option (Version × Oracle)
  pub tables : List Table
  pub version : Version
  pub touched : List Addr

-- nothing is remembered of an empty sheet
abbrev pub new_known : Known
new_known = record { script = new_script; answer = None; tables = []; version = One; touched = [] }

abbrev pub memory_in : Known → Memory
memory_in K = record {
  cells = K.script.sheet;
  answer = K.answer;
  tables = K.tables;
  version = K.version;
  touched = K.touched;
}
