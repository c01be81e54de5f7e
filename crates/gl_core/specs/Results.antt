-- What a table of a round keeps.
use Rattle.std.specs.Prelude.{[], Option, Some, None, ◌∷◌, if◌then◌else◌}
use Rattle.gl_machine.specs.Remembered.{AreClosed}
use Rattle.gl_calculus.specs.Evaluation.Key as K
use Rattle.gl_calculus.specs.Evaluation.Key.{same_key}
use Rattle.gl_calculus.specs.Calculation.Memory.{Notes}
use Rattle.gl_core.specs.State.{AreSoundNotes}

-- the outcome that the notes have of the key
abbrev pub outcome_in : Notes → K.Key → Option K.Outcome
outcome_in [] k = None
outcome_in (n ∷ ns) k = if same_key k n.key then Some n.outcome else outcome_in ns k

-- sound notes, and whatever a note read has a note too
pub record AreResults (notes : Notes) : Type 0 where
  pub closed : AreClosed notes
  pub sound : AreSoundNotes notes
