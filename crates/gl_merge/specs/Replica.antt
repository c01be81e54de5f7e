-- The plain replica that a replica of the code stands for.
use Rattle.std.specs.Prelude.{ℕ, ◌+◌, ◌-◌, ◌<◌, ◌≤◌, min, List, [], ◌∷◌, ◌++◌, map, length, Option, is_some, if◌then◌else◌, Result, Ok, Err, Vec, vec_len, vec_capacity}
use Rattle.std.specs.List.{AllByRecursion}
use Rattle.gl_calculus.specs.Grid.Grid.{Addr, AreInOrder}
use Rattle.gl_calculus.specs.Edits.Limits.{max_time, max_site, max_registers}
use Rattle.gl_calculus.specs.Edits.Joins.{HasTaken}
use Rattle.gl_calculus.specs.Edits.Replicas as R
use Rattle.gl_merge.specs.Edit.{EditValue}
use Rattle.gl_merge.specs.Index.{Index, IsIndex, listed, trees}
use Rattle.gl_merge.specs.declared.fault.RoomFault.{RoomFault}
use Rattle.gl_merge.specs.declared.fault.RoomFault.TheVariants.{Edits, NoMemory}

-- a replica, with its registers as the code holds them, and for how many more there is room
pub record ReplicaValue : Type 0 where
  pub site : ℕ
  pub clock : ℕ
  pub registers : List EditValue
  pub spare : ℕ

abbrev pub registers_of : ReplicaValue → List R.Edit
registers_of r = trees r.registers

abbrev pub replica_tree : ReplicaValue → R.Replica
replica_tree r = record { site = r.site; clock = r.clock; registers = registers_of r }

-- the room in these, within the limit
abbrev pub spare_of : {X Y Z : Type 0} → Vec X Z → Vec Y Z → ℕ
spare_of es ix = min (min (vec_capacity es - vec_len es) (vec_capacity ix - vec_len ix)) (max_registers - vec_len ix)

pub record IsReplica (site clock : ℕ) (es : List EditValue) (ix : Index) : Type 0 where
  pub index : IsIndex es ix
  pub few : length ix ≤ max_registers
  pub is_site : site ≤ max_site
  pub within : clock ≤ max_time
  pub past : AllByRecursion (λ (e : EditValue). e.stamp.time ≤ clock) es

-- the value of these fields
abbrev pub value_of : {Z : Type 0} → ℕ → ℕ → Vec EditValue Z → Vec (Addr × ℕ) Z → ReplicaValue
value_of s t es ix = record { site = s; clock = t; registers = listed es.items ix.items; spare = spare_of es ix }

-- the register of an address
abbrev pub register_of : ReplicaValue → Addr → Option R.Edit
register_of r a = R.register_at (registers_of r) a

-- the registers are in the order of their addresses
abbrev pub AreOrdered : ReplicaValue → Type 0
AreOrdered r = AreInOrder (map (λ (e : R.Edit). e.place) (registers_of r))

-- every edit with this stamp wins
abbrev pub IsLatest : ReplicaValue → R.Stamp → Type 0
IsLatest r t = (a : Addr) → R.IsOlder (register_of r a) t

-- what comes of the wish for room for edits of these addresses, which leaves room for so many
abbrev pub Makes : Result (Unit {0}) RoomFault → ReplicaValue → List Addr → ℕ → Type 0
Makes (Ok x) r ps spare = (length (registers_of r) + R.missing (registers_of r) ps ≤ max_registers) × (R.missing (registers_of r) ps ≤ spare)
Makes (Err Edits) r ps spare = max_registers < length (registers_of r) + R.missing (registers_of r) ps
Makes (Err NoMemory) r ps spare = Unit {0}

-- the room that is left behind an edit of this address
abbrev pub spare_after : ReplicaValue → Addr → ℕ
spare_after r a = r.spare - (if is_some (register_of r a) then 0 else 1)

-- whatever the first has taken, the other has taken that and the edit
abbrev pub Joins : ReplicaValue → R.Edit → ReplicaValue → Type 0
Joins q e r = (es : List R.Edit) → HasTaken es (replica_tree q) → HasTaken (es ++ e ∷ []) (replica_tree r)
