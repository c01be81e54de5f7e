-- Replies that are collected, and then written together.
-- Of a sink stand here the bytes taken, where these are told, `room`, for which n it tells that it takes so many more bytes, whether its count of failed writes is exact, and that count: at one moment and at a later one.
use Rattle.std.specs.Prelude.{◌≡◌, ◌++◌, ℕ, ◌<◌, ◌≤◌, ◌-◌, List, length, take, Result, Err, OnOk, IfErr, ◌⊎◌, Option, Some}
use Rattle.std.specs.Io.KnownBytes.{Appends}
use Rattle.gl_protocol.specs.Framing.Framing.{Item}
use Rattle.gl_protocol.specs.Run.Causes.{Rose}
use Rattle.gl_port.specs.Causes.{Stays}
use Rattle.gl_run.specs.Emitted.{Emits}
use Rattle.gl_run.specs.declared.session.Session.{Session}
use Rattle.gl_run.specs.declared.session.Stop.{Stop}
use Rattle.gl_run.specs.declared.session.Stop.TheVariants.{WriteFault}

-- these items were answered, and their replies appended to what is collected, whatever was written before
abbrev pub Collects : Session → Session → ℕ → ℕ → List ℕ → List ℕ → List Item → Type 0
Collects old new n m out out' is = (before : List ℕ) → Emits old new n m (Some (before ++ out)) (Some (before ++ out')) (λ _. ⊥) (λ _. ⊥) is

-- all of these bytes were written, and no write failed
pub record WroteWhole (k k' : Option (List ℕ)) (room room' : ℕ → Type 0) (exact exact' : Type 0) (f f' : ℕ) (bytes : List ℕ) : Type 0 where
  pub written : Appends k k' bytes
  pub left_room : (n : ℕ) → room n → length bytes ≤ n → room' (n - length bytes)
  pub stays : Stays exact exact' f f'

-- a write failed, for which no room was told, behind a proper part of them
pub record WroteFront (k k' : Option (List ℕ)) (room : ℕ → Type 0) (f f' : ℕ) (bytes : List ℕ) : Type 0 where
  pub count : ℕ
  pub short : count < length bytes
  pub written : Appends k k' (take count bytes)
  pub no_room : (n : ℕ) → room n → length bytes ≤ n → ⊥
  pub later : f ≤ f'
  pub rose : Rose f f'

-- what is answered is what was given where all bytes were written, else that a write failed
abbrev pub Sends : {X : Type 0} → Option (List ℕ) → Option (List ℕ) → (ℕ → Type 0) → (ℕ → Type 0) → (exact exact' : Type 0) → ℕ → ℕ → List ℕ → Result X Stop → Result X Stop → Type 0
Sends k k' room room' exact exact' f f' bytes given r = (r ≡ given) × WroteWhole k k' room room' exact exact' f f' bytes ⊎ (r ≡ Err WriteFault) × WroteFront k k' room f f' bytes

-- so many bytes are written before more are collected
abbrev pub full : ℕ
full = 65536

-- a front of what is collected was written, none of it or all where it was much, or a write failed
pub record Passes (k k' : Option (List ℕ)) (room room' : ℕ → Type 0) (exact exact' : Type 0) (f f' : ℕ) (out out' : List ℕ) (r : Result (Unit {0}) Stop) : Type 0 where
  pub ok : OnOk r ((front : List ℕ) × (out ≡ front ++ out') × WroteWhole k k' room room' exact exact' f f' front)
  pub left : OnOk r (length out' < full)
  pub err : IfErr r (λ stop. (stop ≡ WriteFault) × WroteFront k k' room f f' out)
