-- The plain step that a step of the code stands for.
use Rattle.std.specs.Prelude.{◌≡◌, List, map, Option, option_map, IfSome}
use Rattle.std.specs.List.{AllByRecursion}
use Rattle.gl_calculus.specs.Computation.Lists.{AreDistinct}
use Rattle.gl_calculus.specs.Grid.Grid.{Addr}
use Rattle.gl_language.specs.Reading.Content.{IsProperContent}
use Rattle.gl_calculus.specs.Edits.Replicas as R
use Rattle.gl_calculus.specs.Edits.Steps as E
use Rattle.gl_cells.specs.Content.{content_tree}
use Rattle.gl_cells.specs.declared.content.Content.{Content}
use Rattle.gl_undo.specs.declared.changes.Change.{Change}

abbrev pub change_tree : Change → E.Change
change_tree c = record { place = c.place; before = option_map content_tree c.before; after = option_map content_tree c.after }

abbrev pub step_tree : List Change → E.Step
step_tree s = map {B = E.Change} change_tree s

-- addresses with the contents that they get
abbrev pub changes_tree : List (Addr × Option Content) → R.Changes
changes_tree cs = map {B = Addr × Option _} (λ (c : Addr × Option Content). (c.0, option_map content_tree c.1)) cs

-- the same content, or none for none
abbrev pub IsShared : Option Content → Option Content → Type 0
IsShared c d = option_map content_tree c ≡ option_map content_tree d

-- a proper content or none
abbrev pub IsProperOption : Option Content → Type 0
IsProperOption o = IfSome o (λ c. IsProperContent (content_tree c))

abbrev pub AreProperChanges : List (Addr × Option Content) → Type 0
AreProperChanges cs = AllByRecursion (λ (c : Addr × Option Content). IsProperOption c.1) cs

-- the changes of a step: of distinct addresses, from and to proper contents
pub record IsStep (cs : List Change) : Type 0 where
  pub apart : AreDistinct (map (λ (c : Change). c.place) cs)
  pub before : AllByRecursion (λ (c : Change). IsProperOption c.before) cs
  pub after : AllByRecursion (λ (c : Change). IsProperOption c.after) cs

-- the addresses
abbrev pub places : List (Addr × Option Content) → List Addr
places cs = map (λ (c : Addr × Option Content). c.0) cs
