-- What an edit of the sheet becomes, with all room taken.
use Rattle.std.specs.Prelude.{codes}
use Rattle.gl_language.specs.Texts.Text.{Bytes}
use Rattle.std.specs.Prelude.{◌≡◌, ◌≤◌, ⊤, true, false, List, map, Option, None, Some, Result, Ok, Err}
use Rattle.gl_calculus.specs.Grid.Grid.{Addr, AreInOrder}
use Rattle.gl_calculus.specs.Formulas.Formula.{Content, Cells}
use Rattle.gl_calculus.specs.Edits.Replicas.{Stamp, Changes, AreOlder, missing, next_stamp, stamped, taking_all, has_room}
use Rattle.gl_calculus.specs.Edits.Steps.{step_of, pushed}
use Rattle.gl_protocol.specs.Scripts.Commands.{Read, Not}
use Rattle.gl_protocol.specs.Scripts.Script as P
use Rattle.gl_protocol.specs.Scripts.Script.{edited}
use Rattle.gl_calc.specs.View.{sheet_of}
use Rattle.gl_merge.specs.Edit.{EditValue}
use Rattle.gl_merge.specs.Index.{trees}
use Rattle.gl_merge.specs.Replica.{ReplicaValue, registers_of, replica_tree}
use Rattle.gl_undo.specs.View.{step_tree}
use Rattle.gl_run.specs.Script.{script_of}
use Rattle.gl_run.specs.declared.script.Script.{Script}
use Rattle.gl_run.specs.declared.local.LocalFault.{LocalFault}
use Rattle.gl_run.specs.declared.local.LocalFault.TheVariants as fault
use Rattle.gl_run.specs.declared.local.Ready.{Ready}
use Rattle.gl_run.specs.declared.local.Ready.TheVariants as ready

abbrev pub places : Changes → List Addr
places cs = map (λ (c : Addr × Option Content). c.0) cs

-- The replica can take edits of its own for these changes, all with this stamp, one after the other.
pub record CanTake (t : Stamp) (cs : Changes) (r : ReplicaValue) : Type 0 where
  pub ordered : AreInOrder (places cs)
  pub older : AreOlder (registers_of r) t cs
  pub room : missing (registers_of r) (places cs) ≤ r.spare

-- these are such edits
abbrev pub CanTakeThese : ReplicaValue → List EditValue → Type 0
CanTakeThese r es = (t : Stamp) × (cs : Changes) × (trees es ≡ stamped t cs) × CanTake t cs r

-- the edits are those that a replica takes for these changes, and it can take them
pub record AreOwn (r : ReplicaValue) (cs : Changes) (es : List EditValue) : Type 0 where
  pub stamp : Stamp
  pub next : next_stamp (replica_tree r) ≡ Some stamp
  pub edits : trees es ≡ stamped stamp cs
  pub takes : CanTake stamp cs r
  pub few : has_room (taking_all (replica_tree r) (stamped stamp cs)) ≡ true

-- how a replica answers these changes
abbrev pub Stamps : {Z : Type 0} → (Z → List EditValue) → Result Z LocalFault → ReplicaValue → Changes → Type 0
Stamps f (Ok es) r cs = AreOwn r cs (f es)
Stamps f (Err fault.Stamp) r cs = next_stamp (replica_tree r) ≡ None
Stamps f (Err fault.Edits) r cs = (t : Stamp) × (next_stamp (replica_tree r) ≡ Some t) × (has_room (taking_all (replica_tree r) (stamped t cs)) ≡ false)
Stamps f (Err fault.NoMemory) r cs = ⊤

-- it is what these changes of the script become
abbrev pub IsReady : Script → Changes → Ready → Type 0
IsReady x cs (ready.Step d) = (x.replica ≡ None) × (step_tree d ≡ step_of (sheet_of x.calc) cs)
IsReady x cs (ready.Edits es) = (r : ReplicaValue) × (x.replica ≡ Some r) × AreOwn r cs es.items

-- the word of a refusal; a want of memory has none
abbrev pub local_word : LocalFault → Option Bytes
local_word fault.Stamp = Some (codes "stamp")
local_word fault.Edits = Some (codes "edits")
local_word fault.NoMemory = None

abbrev pub IsRefusedBy : Option Bytes → P.Script → Changes → Type 0
IsRefusedBy (Some w) s cs = (goal : Read Cells) → edited s cs goal ≡ Not w
IsRefusedBy None s cs = ⊤

abbrev pub Prepares : Result Ready LocalFault → Script → Changes → Type 0
Prepares (Ok x) s cs = IsReady s cs x
Prepares (Err e) s cs = IsRefusedBy (local_word e) (script_of s) cs

-- the replica can take these edits
abbrev pub HasRoomFor : Script → List EditValue → Type 0
HasRoomFor x es = (r : ReplicaValue) × (x.replica ≡ Some r) × CanTakeThese r es

-- the replica has taken them, and the rest is the same
abbrev pub TakesAll : Script → List EditValue → P.Script → Type 0
TakesAll x es s' = (r : ReplicaValue) → x.replica ≡ Some r → s' ≡ record (script_of x) { replica = Some (taking_all (replica_tree r) (trees es)) }

-- it can be committed to this script
abbrev pub CanCommit : Script → Ready → Type 0
CanCommit x (ready.Step d) = ⊤
CanCommit x (ready.Edits es) = HasRoomFor x es.items

-- what the state is then
abbrev pub Commits : Script → Ready → P.Script → Type 0
Commits x (ready.Step d) s' = s' ≡ record (script_of x) { history = pushed (script_of x).history (step_tree d) }
Commits x (ready.Edits es) s' = TakesAll x es.items s'
