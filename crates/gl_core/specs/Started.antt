-- What a core holds that was just started.
use Rattle.std.specs.Prelude.{◌≡◌, List, length}
use Rattle.gl_machine.specs.Machine as Machine
use Rattle.gl_calculus.specs.Evaluation.Key as K
use Rattle.gl_calculus.specs.Calculation.Memory.{Notes}
use Rattle.gl_core.specs.Held.{Held}
use Rattle.gl_core.specs.State.{state_of, notes_in}
use Rattle.gl_core.specs.Marks.{TellNothing}

-- these seeds, all idle, and these notes; and no mark tells anything
pub record IsStarted (ks : List K.Key) (ns : Notes) (c : Held) : Type 0 where
  pub state : state_of c ≡ Machine.start ks
  pub seeds : c.seeds ≡ length ks
  pub notes : notes_in c ≡ ns
  pub marked : length c.marks ≡ length (state_of c)
  pub marks : TellNothing c.marks
