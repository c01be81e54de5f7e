-- What rings of steps say of the history that they stand for.
use Rattle.std.proofs.Common.{◌≡◌, ◌∙◌, List, [], ◌∷◌, map, take, Option, Some, None, Vec, slice_get, refl, sym, ap, arith}
use Rattle.std.proofs.lemmas.List.{take-map}
use Rattle.gl_calculus.specs.Computation.Lists.{AreDistinct}
use Rattle.gl_calculus.specs.Grid.Grid.{Addr}
use Rattle.gl_calculus.specs.Edits.Limits.{max_steps}
use Rattle.gl_calculus.specs.Edits.Replicas as R
use Rattle.gl_calculus.specs.Edits.Steps as E
use Rattle.gl_calculus.specs.Edits.Steps.{pushed}
use Rattle.gl_cells.specs.declared.content.Content.{Content}
use Rattle.gl_undo.specs.declared.changes.Change.{Change}
use Rattle.gl_undo.specs.declared.history.History.{History}
use Rattle.gl_undo.specs.View.{step_tree, changes_tree, places, AreProperChanges}
use Rattle.gl_undo.specs.History.{history_tree, TellsLatest}

pub pushed_rings : (h k : History) (s : List Change) → k.rings.0 ≡ take max_steps (s ∷ h.rings.0) → k.rings.1 ≡ [] → history_tree k ≡ pushed (history_tree h) (step_tree s)
pushed_rings h k s d u =
    let done : map {B = E.Step} step_tree k.rings.0 ≡ take max_steps (step_tree s ∷ map step_tree h.rings.0) = ap (map step_tree) d ∙ sym (take-map step_tree max_steps (s ∷ h.rings.0)) in
    λ i. record { done = done i; undone = map step_tree (u i) }

-- what is told of the first step, and of none
pub told : {Z : Type 0} (f : E.Step → R.Changes) (ds : List (List Change)) (d : List Change) (vs : Vec (Addr × Option Content) Z) → Some d ≡ slice_get ds 0 → changes_tree vs.items ≡ f (step_tree d) → AreDistinct (places vs.items) → AreProperChanges vs.items → TellsLatest f (Some vs) (map step_tree ds)
told f [] d vs h e a p = cc h
told f (x ∷ ds) d vs h e a p = let s : d ≡ x = cc h in record { value = ap Some (e ∙ ap (λ y. f (step_tree y)) s); left = omega arith; apart = a; proper = p }

pub told_none : {Z : Type 0} (f : E.Step → R.Changes) (ds : List (List Change)) → None ≡ slice_get ds 0 → TellsLatest {Z = Z} f None (map step_tree ds)
told_none f [] h = record { value = refl; left = tt; apart = tt; proper = tt }
told_none f (x ∷ ds) h = cc h
