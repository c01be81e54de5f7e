-- What the calls of a session tell and leave.
use Rattle.std.specs.Prelude.{ℕ, Option, None, Some}
use Rattle.gl_language.specs.Texts.Text.{Bytes}
use Rattle.gl_run.specs.Status.{number_of}
use Rattle.gridlet_c.specs.History.{HasHistory, Feeds, Takes, EndsAs}
use Rattle.gridlet_c.specs.declared.live.Live.{Live}
use Rattle.gridlet_c.specs.declared.live.Phase.{Phase}
use Rattle.gridlet_c.specs.declared.live.Phase.TheVariants.{Going, Quit, Limit, NoMemory, Ended}

-- the number of a phase: behind the end, further bytes can't be used
abbrev pub number_of_phase : Phase → ℕ
number_of_phase Going = 0
number_of_phase Quit = 7
number_of_phase Limit = 6
number_of_phase NoMemory = 3
number_of_phase (Ended status) = 2

-- a session is open, with this fact
abbrev pub IfOpen : Option Live → (Live → Type 0) → Type 0
IfOpen None P = ⊥
IfOpen (Some live) P = P live

-- the same of a call, before and after
abbrev pub IfOpenBoth : Option Live → Option Live → (Live → Live → Type 0) → Type 0
IfOpenBoth old new P = IfOpen old (λ x. IfOpen new (λ y. P x y))
