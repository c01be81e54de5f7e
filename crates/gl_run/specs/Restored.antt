-- What is listed of the step that is undone or done again.
use Rattle.std.specs.Prelude.{◌≡◌, ◌<◌, List, length, Option, None}
use Rattle.gl_calculus.specs.Computation.Lists.{AreDistinct}
use Rattle.gl_calculus.specs.Grid.Grid.{Addr}
use Rattle.gl_calculus.specs.Edits.Steps.{befores, afters}
use Rattle.gl_cells.specs.declared.content.Content.{Content}
use Rattle.gl_calc.specs.View.{sheet_of}
use Rattle.laws_protocol.specs.Rooms.{HasRoom}
use Rattle.gl_undo.specs.View.{AreProperChanges, changes_tree, places}
use Rattle.gl_undo.specs.History.{done, undone}
use Rattle.gl_run.specs.declared.script.Script.{Script}
use Rattle.gl_protocol.specs.Run.Touched.{latest_changes}

-- outside a replica, these are what the addresses of the latest step had before it
pub record StepsBack (x : Script) (cs : List (Addr × Option Content)) : Type 0 where
  pub alone : x.replica ≡ None
  pub left : 0 < length (done x.history)
  pub changes : changes_tree cs ≡ latest_changes befores (done x.history)
  pub apart : AreDistinct (places cs)
  pub proper : AreProperChanges cs
  pub room : HasRoom (sheet_of x.calc) (changes_tree cs)

-- outside a replica, these are what the addresses of the latest undone step had after it
pub record StepsForward (x : Script) (cs : List (Addr × Option Content)) : Type 0 where
  pub alone : x.replica ≡ None
  pub left : 0 < length (undone x.history)
  pub changes : changes_tree cs ≡ latest_changes afters (undone x.history)
  pub apart : AreDistinct (places cs)
  pub proper : AreProperChanges cs
  pub room : HasRoom (sheet_of x.calc) (changes_tree cs)
