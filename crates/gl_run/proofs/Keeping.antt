-- Each item leaves a state that is kept.
use Rattle.std.proofs.Common.{◌≡◌, ◌<◌, List, [], ◌∷◌, length, Result, Ok, Err, IfOk, OnErr, sym, subst, arith}
use Rattle.gl_calculus.specs.Formulas.Formula.{Version, Cells}
use Rattle.gl_language.specs.Texts.Text.{Bytes}
use Rattle.gl_calculus.specs.Edits.Replicas.{Changes}
use Rattle.gl_calculus.specs.Edits.Steps.{Step, befores, afters}
use Rattle.gl_protocol.specs.Framing.Framing.{Item}
use Rattle.gl_protocol.specs.Scripts.Script.{Script, new_script}
use Rattle.gl_protocol.specs.Scripts.Acts.{Acts}
use Rattle.gl_protocol.specs.Run.Records.{csv_records}
use Rattle.laws_protocol.specs.Rooms.{HasRoom, RoomBack, RoomOn}
use Rattle.laws_protocol.proofs.Scripts.Roomy.{acts_keep_rooms}
use Rattle.laws_protocol.proofs.Scripts.States.{acts_keep_states, new_state}
use Rattle.std.proofs.Math.Logic.{∥∥₁_elim, ∥∥₁_map}
use Rattle.std.proofs.Props.{props}
use Rattle.gl_run.specs.Kept.{IsKept}
use Rattle.gl_protocol.specs.Run.Touched.{latest_changes}

pub new_kept : IsKept new_script
new_kept = ∣ record { state = new_state; roomy = record { back = tt; on = tt } } ∣₁

pub kept_by : {V E : Type 0} (items : V → Bytes) (version : Version) (s s' : Script) (x : Item) (r : Result V E) → IsKept s → IfOk r (λ v. Acts csv_records version s x s' (items v)) → OnErr r (s' ≡ s) → IsKept s'
kept_by items version s s' x (Ok v) h a e = ∥∥₁_map h (λ k. record { state = acts_keep_states csv_records version s s' x (items v) k.state a; roomy = acts_keep_rooms csv_records version s s' x (items v) k.state k.roomy a })
kept_by items version s s' x (Err u) h a e = subst IsKept (sym e) h

-- what comes with the latest step has room
room_back : (S : Cells) (ds : List Step) → 0 < length ds → RoomBack S ds → HasRoom S (latest_changes befores ds)
room_back S [] l h = absurd (omega (arith, l))
room_back S (d ∷ ds) l h = h.0

room_on : (S : Cells) (us : List Step) → 0 < length us → RoomOn S us → HasRoom S (latest_changes afters us)
room_on S [] l h = absurd (omega (arith, l))
room_on S (u ∷ us) l h = h.0

has_room : (S : Cells) (cs : Changes) → IsProp (HasRoom S cs)
has_room S cs = hlevel props

pub can_undo : (s : Script) → IsKept s → 0 < length s.history.done → HasRoom s.sheet (latest_changes befores s.history.done)
can_undo s h l = ∥∥₁_elim h (has_room s.sheet (latest_changes befores s.history.done)) (λ k. room_back s.sheet s.history.done l k.roomy.back)

pub can_redo : (s : Script) → IsKept s → 0 < length s.history.undone → HasRoom s.sheet (latest_changes afters s.history.undone)
can_redo s h l = ∥∥₁_elim h (has_room s.sheet (latest_changes afters s.history.undone)) (λ k. room_on s.sheet s.history.undone l k.roomy.on)
