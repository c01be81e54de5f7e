-- What comes of an edit of another replica, and what is told of the edits of this one.
use Rattle.std.specs.Prelude.{codes}
use Rattle.std.specs.Prelude.{◌≡◌, ◌+◌, ◌<◌, ◌≤◌, ◌⊎◌, ⊤, [], ◌∷◌, length, Option, Some, None, IsSome, Result, Ok, Err}
use Rattle.gl_calculus.specs.Grid.Grid.{Addr}
use Rattle.gl_language.specs.Texts.Text.{Bytes}
use Rattle.gl_calculus.specs.Edits.Limits.{max_registers}
use Rattle.gl_calculus.specs.Edits.Replicas as R
use Rattle.gl_calculus.specs.Edits.Replicas.{IsJudged, IsTakeable, missing, register_at, taking}
use Rattle.gl_protocol.specs.Scripts.Commands as C
use Rattle.gl_protocol.specs.Scripts.Commands.{error_line}
use Rattle.gl_protocol.specs.Scripts.Script as P
use Rattle.gl_protocol.specs.Scripts.Script.{register_of, merge}
use Rattle.gl_protocol.specs.Replies.Tables.{export_text}
use Rattle.gl_merge.specs.Edit.{EditValue, edit_tree}
use Rattle.gl_merge.specs.Judging.{judged_tree}
use Rattle.gl_merge.specs.Replica.{ReplicaValue, registers_of, AreOrdered}
use Rattle.gl_merge.specs.Replica as replica
use Rattle.gl_merge.specs.declared.judging.Judged.{Judged}
use Rattle.gl_merge.specs.declared.fault.RoomFault.{RoomFault}
use Rattle.gl_merge.specs.declared.fault.RoomFault.TheVariants as fault
use Rattle.gl_run.specs.Changed.{IsChanged}
use Rattle.gl_protocol.specs.Run.Known.{Known}
use Rattle.gl_protocol.specs.Run.Spends.{Touches}
use Rattle.gl_protocol.specs.Run.Touched.{touched_by}
use Rattle.gl_run.specs.declared.script.Script.{Script}

-- what an edit leaves, and what is replied, by what it is to the register of its address
abbrev pub IsMerged : P.Script → R.Edit → P.Script → Bytes → Type 0
IsMerged s e s' reply = (j : R.Judged) × IsJudged (register_of s e.place) e j × IsChanged (merge s e j) s s' reply

abbrev pub TouchesMerged : Bytes → R.Edit → Known → Known → Type 0
TouchesMerged reply e K K' = Touches reply (touched_by K.script (C.Request.Merge e)) K K'

-- the script is a replica, and the edit is this to the register of its address
abbrev pub IsJudgedIn : P.Script → R.Edit → R.Judged → Type 0
IsJudgedIn s e j = (r : R.Replica) × (s.replica ≡ Some r) × IsJudged (register_at r.registers e.place) e j

abbrev pub Judges : P.Script → R.Edit → Option Judged → Type 0
Judges s e (Some j) = IsJudgedIn s e (judged_tree j)
Judges s e None = s.replica ≡ None

abbrev pub IsLater : P.Script → R.Edit → Type 0
IsLater s e = IsJudgedIn s e R.Judged.Wins

abbrev pub IsKnown : P.Script → R.Edit → Type 0
IsKnown s e = IsJudgedIn s e R.Judged.Loses ⊎ IsJudgedIn s e R.Judged.Same

-- the replica has room for an edit of this address, within the limit
pub record HasRoom (x : Script) (a : Addr) : Type 0 where
  pub replica : ReplicaValue
  pub is : x.replica ≡ Some replica
  pub ordered : AreOrdered replica
  pub few : length (registers_of replica) + missing (registers_of replica) (a ∷ []) ≤ max_registers
  pub spare : missing (registers_of replica) (a ∷ []) ≤ replica.spare

-- one more register would be too many
pub record IsFull (x : Script) (a : Addr) : Type 0 where
  pub replica : ReplicaValue
  pub is : x.replica ≡ Some replica
  pub ordered : AreOrdered replica
  pub many : max_registers < length (registers_of replica) + missing (registers_of replica) (a ∷ [])

-- what comes of the wish for room
abbrev pub Rooms : Result (Unit {0}) RoomFault → Script → Addr → Type 0
Rooms (Ok u) x a = HasRoom x a
Rooms (Err fault.Edits) x a = IsFull x a
Rooms (Err fault.NoMemory) x a = ⊤

-- the replica can take the edit without memory
abbrev pub CanTakeOne : Script → EditValue → Type 0
CanTakeOne x e =
    (r : ReplicaValue) × (x.replica ≡ Some r) × IsTakeable (replica.register_of r e.place) (edit_tree e)
    × (IsSome (replica.register_of r e.place) ⊎ (1 ≤ r.spare))

-- the replica has taken the edit, and the rest is the same
abbrev pub Takes : P.Script → R.Edit → P.Script → Type 0
Takes s e s' = (r : R.Replica) → s.replica ≡ Some r → s' ≡ record s { replica = Some (taking r e) }

-- the reply to `export`
abbrev pub IsExport : P.Script → Bytes → Type 0
IsExport s reply = by s.replica
  where
    by : Option R.Replica → Type 0
    by (Some r) = reply ≡ export_text r.registers
    by None = reply ≡ error_line (codes "site")
