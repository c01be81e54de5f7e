-- The plain state that a script of the code stands for.
use Rattle.std.specs.Prelude.{option_map}
use Rattle.gl_protocol.specs.Scripts.Script as P
use Rattle.gl_calc.specs.View.{sheet_of}
use Rattle.gl_merge.specs.Replica.{replica_tree}
use Rattle.gl_undo.specs.History.{history_tree}
use Rattle.gl_protocol.specs.Run.Known.{Known}
use Rattle.gl_run.specs.declared.script.Script.{Script}

abbrev pub script_of : Script → P.Script
script_of x = record { sheet = sheet_of x.calc; replica = option_map replica_tree x.replica; history = history_tree x.history }

abbrev pub known_of : Script → Known
known_of x = record { script = script_of x; answer = x.calc.held; tables = x.calc.tables; version = x.calc.version; touched = x.calc.touched }
