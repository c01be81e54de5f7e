-- What holds of each core, and what makes it one for a sheet, an oracle and a version.
use Rattle.std.specs.Prelude.{◌≡◌, ℕ, ◌≤◌, length, slice_get, Some, true}
use Rattle.gl_calculus.specs.Computation.Lists.{Member, AreDistinct}
use Rattle.gl_machine.specs.Machine as Machine
use Rattle.gl_machine.specs.Quiet.{IsRight}
use Rattle.gl_machine.specs.Remembered.{AreTrue}
use Rattle.gl_calculus.specs.Grid.Limits.{max_demanded}
use Rattle.gl_calculus.specs.Evaluation.Key as K
use Rattle.gl_calculus.specs.Evaluation.Key.{same_key}
use Rattle.gl_calculus.specs.Evaluation.World.{World}
use Rattle.gl_calculus.specs.Evaluation.Evaluation.{program}
use Rattle.gl_calculus.specs.Evaluation.Sound.{IsProperKey}
use Rattle.gl_demand.specs.Marks.{PlainMark}
use Rattle.gl_core.specs.Held.{Held}
use Rattle.gl_core.specs.Marks.{IsMark}
use Rattle.gl_core.specs.State.{state_of, seeds_of, notes_in, is_noted, IsFor}

-- no key is known twice, the seeds stand first, each resolved key has a note and each known one a mark
pub record IsWhole (c : Held) : Type 0 where
  pub apart : AreDistinct (Machine.keys (state_of c))
  pub within : length (state_of c) ≤ max_demanded
  pub first : c.seeds ≤ length (state_of c)
  pub noted : (k : K.Key) (o : K.Outcome) → Machine.at same_key (state_of c) k ≡ Some (Machine.Resolved o) → is_noted (notes_in c) k ≡ true
  pub marked : length c.marks ≡ length (state_of c)

-- the seeds are proper, the notes are true, what the state says of each key is right, and what each key was reading is ahead of its evaluation
pub record SaysTrue (W : World) (c : Held) : Type 0 where
  pub proper : (k : K.Key) → Member k (seeds_of c) → IsProperKey W.sheet k
  pub true_notes : AreTrue same_key (program W) (notes_in c)
  pub right : IsRight same_key (program W) (seeds_of c) (state_of c)
  pub ahead : (p : ℕ) (k : K.Key) (m : PlainMark) → slice_get (Machine.keys (state_of c)) p ≡ Some k → slice_get c.marks p ≡ Some m → IsMark W.sheet W.oracle (program W k) (Machine.table same_key (state_of c)) m

-- A core is for a sheet, an oracle and a version exactly where it says what is true there.
abbrev pub CoresByFacts : Type 0
CoresByFacts = (W : World) (c : Held) → (IsFor W c → IsWhole c × SaysTrue W c) × (IsWhole c → SaysTrue W c → IsFor W c)
