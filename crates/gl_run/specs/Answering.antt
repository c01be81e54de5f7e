-- What the functions that answer leave of a script, and what they reply.
use Rattle.std.specs.Prelude.{◌≡◌, ℕ, List, map, None, Result, IfOk, OnErr, IfSome, Option, Vec}
use Rattle.std.specs.declared.alloc.Global.{Global}
use Rattle.gl_calculus.specs.Grid.Grid.{Addr}
use Rattle.gl_calculus.specs.Formulas.Formula.{Version, Content, Cells}
use Rattle.gl_calculus.specs.Edits.Replicas.{Edit}
use Rattle.gl_language.specs.Texts.Text.{Bytes}
use Rattle.gl_protocol.specs.Scripts.Acts.{Acts}
use Rattle.gl_protocol.specs.Scripts.Commands as C
use Rattle.gl_protocol.specs.Scripts.Commands.{Read}
use Rattle.gl_protocol.specs.Framing.Framing.{Item, Line}
use Rattle.gl_protocol.specs.Framing.Header.{payload_len}
use Rattle.gl_protocol.specs.Scripts.Script as P
use Rattle.gl_protocol.specs.Scripts.Script.{change}
use Rattle.gl_plane.specs.declared.NoMemory.{NoMemory}
use Rattle.gl_protocol.specs.Run.Records.{csv_records}
use Rattle.gl_script.specs.Command.{Asks}
use Rattle.gl_script.specs.declared.requests.Request.{Request}
use Rattle.gl_run.specs.Act.{Act}
use Rattle.gl_run.specs.Changed.{IsChanged, imported_state}
use Rattle.gl_run.specs.Merged.{IsMerged, TouchesMerged}
use Rattle.gl_run.specs.Script.{known_of, script_of}
use Rattle.gl_protocol.specs.Run.Spends.{Spends, Touches}
use Rattle.gl_run.specs.State.{State}
use Rattle.gl_protocol.specs.Run.Touched.{touched_by}
use Rattle.gl_run.specs.declared.script.Script.{Script}

-- a reply, or no memory
abbrev pub Reply : Type 0
Reply = Result (Vec ℕ Global) NoMemory

-- without a reply the state stays
abbrev pub StaysOnErr : Script → Reply → Script → Type 0
StaysOnErr old r new = OnErr r (script_of new ≡ script_of old)

-- ---- changes

-- The state was changed to the goal, or this was refused, as the reply tells, and these addresses were touched where it wasn't. Without a reply the state stays.
pub record ChangesTo (goal : Read P.Script) (places : List Addr) (old : Script) (r : Reply) (new : Script) : Type 0 where
  pub does : IfOk r (λ reply. IsChanged goal (script_of old) (script_of new) reply.items)
  pub touches : IfOk r (λ reply. Touches reply.items places (known_of old) (known_of new))
  pub err : StaysOnErr old r new

-- what a request does
abbrev pub DoesRequest : C.Request → Script → Reply → Script → Type 0
DoesRequest x old r new = ChangesTo (change (script_of old) x) (touched_by (script_of old) x) old r new

-- what an import of these contents does
abbrev pub Imports : Cells → Script → Reply → Script → Type 0
Imports cs old r new = ChangesTo (imported_state (script_of old) cs) (map (λ (c : Addr × Content). c.0) cs) old r new

-- The edit was taken or refused, as the reply tells, and its address was touched where the sheet changed by it. Without a reply the state stays.
pub record Merges (e : Edit) (old : Script) (r : Reply) (new : Script) : Type 0 where
  pub does : IfOk r (λ reply. IsMerged (script_of old) e (script_of new) reply.items)
  pub touches : IfOk r (λ reply. TouchesMerged reply.items e (known_of old) (known_of new))
  pub err : StaysOnErr old r new

-- ---- items

-- the reply to an item and the state behind it are by the rules
abbrev pub ActsOn : Version → Item → Script → Reply → Script → Type 0
ActsOn version x old r new = IfOk r (λ reply. Acts csv_records version (script_of old) x (script_of new) reply.items)

-- the steps that it takes go from n to m
abbrev pub SpendsOn : Version → Item → Script → ℕ → Reply → Script → ℕ → Type 0
SpendsOn version x old n r new m = IfOk r (λ reply. Spends version (known_of old) x reply.items (known_of new) n m)

-- the same of an item that may have come
abbrev pub ActsOnSome : Version → Option Item → Script → Reply → Script → Type 0
ActsOnSome version o old r new = IfOk r (λ reply. IfSome o (λ item. Acts csv_records version (script_of old) item (script_of new) reply.items))

abbrev pub SpendsOnSome : Version → Option Item → Script → ℕ → Reply → Script → ℕ → Type 0
SpendsOnSome version o old n r new m = IfOk r (λ reply. IfSome o (λ item. Spends version (known_of old) item reply.items (known_of new) n m))

-- it leads from one state of a run to another
abbrev pub Leads : Option Item → State → Reply → State → Type 0
Leads o s r s' = IfOk r (λ reply. IfSome o (λ item. Act s item s' reply.items))

-- ---- requests

-- the fact holds of each line that asks the request and is no header
abbrev pub OfLines : Request → (Bytes → Type 0) → Type 0
OfLines q P = (l : Bytes) → payload_len l ≡ None → Asks l q → P l

-- the reply to a request and the state behind it are by the rules
abbrev pub ActsOnLines : Version → Request → Script → Reply → Script → Type 0
ActsOnLines version q old r new = IfOk r (λ reply. OfLines q (λ l. Acts csv_records version (script_of old) (Line l) (script_of new) reply.items))

-- the steps that it takes go from n to m
abbrev pub SpendsOnLines : Version → Request → Script → ℕ → Reply → Script → ℕ → Type 0
SpendsOnLines version q old n r new m = IfOk r (λ reply. OfLines q (λ l. Spends version (known_of old) (Line l) reply.items (known_of new) n m))
