-- The state of a run: what is known of the script, the count of steps, and, once an item has come, the script's version.
use Rattle.std.specs.Prelude.{ℕ, Option, Some, None, option_map}
use Rattle.gl_calculus.specs.Formulas.Formula.{Version}
use Rattle.gl_ast.specs.View.{version_tree}
use Rattle.gl_protocol.specs.Run.Known.{Known, new_known}
use Rattle.gl_run.specs.Script.{known_of}
use Rattle.gl_run.specs.declared.session.Session.{Session}

pub data State : Type 0 where
  fresh : Known → ℕ → State
  begun : Version → Known → ℕ → State

-- the state at the start
abbrev pub start : ℕ → State
start n = fresh new_known n

abbrev pub state_by : Option Version → Known → ℕ → State
state_by None K n = fresh K n
state_by (Some version) K n = begun version K n

abbrev pub state_of : Session → ℕ → State
state_of s n = state_by (option_map version_tree s.version) (known_of s.script) n
