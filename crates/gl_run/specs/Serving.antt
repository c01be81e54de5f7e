-- What a session answers and writes, to a sink that is told by its members: the bytes taken, how many more it takes, whether its count of failed writes is exact, and that count.
use Rattle.std.specs.Prelude.{◌≡◌, ℕ, Bool, List, Option, Result, IfOk, IfErr, OnOk}
use Rattle.std.specs.Option.{option_to_list}
use Rattle.gl_port.specs.Causes.{Stays}
use Rattle.gl_protocol.specs.Framing.Framing.{Item, has_quit}
use Rattle.gl_protocol.specs.Framing.Stream.{step, closing}
use Rattle.gl_script.specs.Framer.{told, stream_at}
use Rattle.gl_script.specs.declared.framer.Ended.{Ended}
use Rattle.gl_script.specs.declared.framer.Framer.{Framer}
use Rattle.gl_run.specs.Emitted.{Emits, Leaves}
use Rattle.gl_run.specs.State.{state_of}
use Rattle.gl_run.specs.declared.session.Session.{Session}
use Rattle.gl_run.specs.declared.session.Stop.{Stop}

-- ---- items

-- the item that ended, if one did
abbrev pub ended_item : Ended → Framer → List Item
ended_item ended f = option_to_list (told ended f)

-- the item that a byte ends, if it ends one
abbrev pub byte_item : Framer → ℕ → List Item
byte_item f b = option_to_list (step (stream_at f) b).1

-- the item that the end of the input ends
abbrev pub last_item : Framer → List Item
last_item f = option_to_list (closing (stream_at f))

-- the answer tells whether a `quit` is among the items
abbrev pub TellsQuit : {E : Type 0} → Result Bool E → List Item → Type 0
TellsQuit r is = IfOk r (λ quits. quits ≡ has_quit is)

-- ---- a sink, at one moment and at a later one

-- Where the session goes on, these items were answered, their replies written, and no write failed; where it stops, some of them were, by the cause.
pub record Serves {K X : Type 0} (taken : K → Option (List ℕ)) (takes : K → ℕ → Type 0) (is_exact : K → Type 0) (faults : K → ℕ) (k k' : K) (r : Result X Stop) (old : Session) (n : ℕ) (new : Session) (m : ℕ) (is : List Item) : Type 0 where
  pub ok : OnOk r (Emits old new n m (taken k) (taken k') (takes k) (takes k') is)
  pub err : IfErr r (λ stop. Leaves stop (state_of old n) (taken k) (taken k') (takes k) (is_exact k) (is_exact k') (faults k) (faults k') is)
  pub count : OnOk r (Stays (is_exact k) (is_exact k') (faults k) (faults k'))
