-- Steps that can be undone and done again.
use Rattle.std.specs.Prelude.{◌≡◌, List, [], ◌∷◌, map, take, Option, Some, None}
use Rattle.gl_calculus.specs.Grid.Grid.{Addr}
use Rattle.gl_calculus.specs.Formulas.Formula.{Content, Cells, content}
use Rattle.gl_calculus.specs.Edits.Limits.{max_steps}
use Rattle.gl_calculus.specs.Edits.Replicas.{Changes}

-- what an address held, and what it holds then
pub record Change : Type 0 where
  pub place : Addr
  pub before : Option Content
  pub after : Option Content

abbrev pub Step : Type 0
Step = List Change

-- the step that changes of a sheet are
abbrev pub step_of : Cells → Changes → Step
step_of S cs = map (λ c. record { place = c.0; before = content S c.0; after = c.1 }) cs

abbrev pub befores : Step → Changes
befores s = map (λ c. (c.place, c.before)) s

abbrev pub afters : Step → Changes
afters s = map (λ c. (c.place, c.after)) s

-- the steps that were done, and those that were undone, each list from the latest on
pub record History : Type 0 where
  pub done : List Step
  pub undone : List Step

abbrev pub no_history : History
no_history = record { done = []; undone = [] }

-- a step is done: only the latest are kept, and nothing can be redone
abbrev pub pushed : History → Step → History
pushed h s = record { done = take max_steps (s ∷ h.done); undone = [] }

abbrev pub latest_step : List Step → Option Step
latest_step [] = None
latest_step (d ∷ ds) = Some d

-- the latest step is undone, or done again
abbrev pub MovesBack : History → History → Type 0
MovesBack h k =
    (d : Step) × (ds : List Step) × (h.done ≡ d ∷ ds)
    × (k ≡ record { done = ds; undone = d ∷ h.undone })

abbrev pub MovesForward : History → History → Type 0
MovesForward h k =
    (u : Step) × (us : List Step) × (h.undone ≡ u ∷ us)
    × (k ≡ record { done = u ∷ h.done; undone = us })
