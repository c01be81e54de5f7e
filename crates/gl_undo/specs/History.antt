-- The plain history that a history of the code stands for.
use Rattle.std.specs.Prelude.{◌≡◌, ◌<◌, List, length, map, Option, option_map, IfSome, Vec}
use Rattle.gl_calculus.specs.Computation.Lists.{AreDistinct}
use Rattle.gl_calculus.specs.Grid.Grid.{Addr}
use Rattle.gl_calculus.specs.Edits.Replicas as R
use Rattle.gl_calculus.specs.Edits.Steps as E
use Rattle.gl_calculus.specs.Edits.Steps.{latest_step}
use Rattle.gl_cells.specs.declared.content.Content.{Content}
use Rattle.gl_undo.specs.declared.history.History.{History}
use Rattle.gl_undo.specs.View.{step_tree, changes_tree, places, AreProperChanges}

abbrev pub done : History → List E.Step
done h = map {B = E.Step} step_tree h.rings.0

abbrev pub undone : History → List E.Step
undone h = map {B = E.Step} step_tree h.rings.1

abbrev pub history_tree : History → E.History
history_tree h = record { done = done h; undone = undone h }

-- what is listed of the latest of these steps: nothing exactly where there is none
pub record TellsLatest {Z : Type 0} (f : E.Step → R.Changes) (o : Option (Vec (Addr × Option Content) Z)) (ds : List E.Step) : Type 0 where
  pub value : option_map (λ v. changes_tree v.items) o ≡ option_map f (latest_step ds)
  pub left : IfSome o (λ _. 0 < length ds)
  pub apart : IfSome o (λ v. AreDistinct (places v.items))
  pub proper : IfSome o (λ v. AreProperChanges v.items)
