-- The state of a script, and what its commands make of it.
use Rattle.std.specs.Prelude.{ℕ, Bool, true, false, List, [], ◌∷◌, Option, Some, None}
use Rattle.std.specs.Prelude.{codes, if◌then◌else◌}
use Rattle.std.specs.Option.{option_and_then, option_map_or}
use Rattle.gl_calculus.specs.Grid.Grid.{Addr, single}
use Rattle.gl_calculus.specs.Formulas.Formula.{Content, Cells}
use Rattle.gl_calculus.specs.Edits.Replicas.{Edit, Changes, Replica, Judged, Wins}
use Rattle.gl_calculus.specs.Edits.Replicas.{Conflict, register_at, new_replica, next_stamp}
use Rattle.gl_calculus.specs.Edits.Replicas.{taking, taking_all, stamped, has_room}
use Rattle.gl_calculus.specs.Edits.Steps.{Step, step_of, befores, afters, History, no_history}
use Rattle.gl_calculus.specs.Edits.Steps.{pushed}
use Rattle.gl_protocol.specs.Scripts.Commands.{Read, Is, Not, onto}
use Rattle.gl_protocol.specs.Scripts.Commands.{Request, Set, Clear}
use Rattle.gl_protocol.specs.Scripts.Commands.{Site, Undo, Redo, allowed}
use Rattle.gl_calculus.specs.Edits.Sheets.{with_content, without, with_changes, removals}

-- the sheet, the replica if the script is one, and what can be undone
pub record Script : Type 0 where
  pub sheet : Cells
  pub replica : Option Replica
  pub history : History

abbrev pub new_script : Script
new_script = record { sheet = []; replica = None; history = no_history }

-- ---- commands

-- what a script leaves whose replica becomes this one, if that has room, and its sheet the goal
abbrev pub taken : Script → Replica → Read Cells → Read Script
taken s q goal =
    if has_room q then onto (λ S. record s { sheet = S; replica = Some q }) goal
    else Not (codes "edits")

-- What an edit leaves that makes these changes of the sheet, so that it is the goal, if that isn't
-- refused: a replica takes an edit for each change, all with its next stamp; else they are one
-- step.
abbrev pub edited : Script → Changes → Read Cells → Read Script
edited s cs goal = elim s.replica [
  | None ↦ onto (λ S. record s { sheet = S; history = pushed s.history (step_of s.sheet cs) }) goal
  | Some r ↦ option_map_or (λ t. taken s (taking_all r (stamped t cs)) goal) (next_stamp r)
      (Not (codes "stamp"))
]

-- a replica begins while the sheet is empty, and then nothing is undone
abbrev pub sited : Script → ℕ → Read Script
sited s n = by s.replica s.sheet
  where
    by : Option Replica → Cells → Read Script
    by None [] = Is (record { sheet = []; replica = Some (new_replica n); history = no_history })
    by r S = Not (codes "site")

abbrev pub undone : Script → Read Script
undone s = by s.replica s.history.done
  where
    by : Option Replica → List Step → Read Script
    by (Some r) ds = Not (codes "site")
    by None [] = Not (codes "undo")
    by None (d ∷ ds) =
        Is (record s {
          sheet = with_changes s.sheet (befores d);
          history = record { done = ds; undone = d ∷ s.history.undone };
        })

abbrev pub redone : Script → Read Script
redone s = by s.replica s.history.undone
  where
    by : Option Replica → List Step → Read Script
    by (Some r) us = Not (codes "site")
    by None [] = Not (codes "redo")
    by None (u ∷ us) =
        Is (record s {
          sheet = with_changes s.sheet (afters u);
          history = record { done = u ∷ s.history.done; undone = us };
        })

-- the commands that may change the state, and do so by this
abbrev pub is_change : Request → Bool
is_change (Set a c) = true
is_change (Clear r) = true
is_change (Site n) = true
is_change Undo = true
is_change Redo = true
is_change x = false

abbrev pub change : Script → Request → Read Script
change s (Set a c) = edited s ((a, Some c) ∷ []) (allowed (with_content s.sheet a c))
change s (Clear r) = edited s (removals s.sheet r) (Is (without s.sheet r))
change s (Site n) = sited s n
change s Undo = undone s
change s Redo = redone s
change s x = Is s

-- ---- edits of other replicas

abbrev pub register_of : Script → Addr → Option Edit
register_of s a = option_and_then (λ r. register_at r.registers a) s.replica

-- a sheet with one change, within the limits
abbrev pub allowed_change : Cells → Addr → Option Content → Read Cells
allowed_change S a (Some c) = allowed (with_content S a c)
allowed_change S a None = Is (without S (single a))

-- what the edit leaves that is this to the register of its address
abbrev pub merge : Script → Edit → Judged → Read Script
merge s e j = by s.replica j
  where
    by : Option Replica → Judged → Read Script
    by None j = Not (codes "site")
    by (Some r) Wins = taken s (taking r e) (allowed_change s.sheet e.place e.content)
    by (Some r) Conflict = Not (codes "conflict")
    by (Some r) j = Is (record s { replica = Some (taking r e) })
