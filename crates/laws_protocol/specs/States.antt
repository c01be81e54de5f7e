-- What every state that a script leads to keeps, and what follows for undo and for replicas.
use Rattle.std.specs.Prelude.{◌≡◌, ◌+◌, ◌≤◌, ℕ, suc, Bool, true, false, IsTrue, IsFalse, ⊤, List, [], ◌∷◌, ◌++◌, length, map, replicate, codes, Option, Some, None, IfSome}
use Rattle.gl_calculus.specs.Computation.Lists.{Member}
use Rattle.gl_calculus.specs.Grid.Grid.{Addr, AreInOrder}
use Rattle.gl_calculus.specs.Formulas.Formula.{Version, Cells, IsSheet}
use Rattle.gl_language.specs.Texts.Text.{Bytes}
use Rattle.gl_calculus.specs.Edits.Limits.{max_time, max_registers, max_steps}
use Rattle.gl_calculus.specs.Edits.Replicas.{Stamp, Edit, Replica, Changes, contents_of, next_stamp, stamped}
use Rattle.gl_calculus.specs.Edits.Joins.{HaveSameMembers, HasTaken}
use Rattle.gl_calculus.specs.Edits.Steps.{Step, befores, afters}
use Rattle.gl_protocol.specs.Framing.Framing.{Item, Line, Import}
use Rattle.gl_protocol.specs.Scripts.Commands.{Is, Request, Set, Clear, Merge, Show, View, Get, ListAll, Calculate, ShowOracle, Why, Explain, Flow, ReadsLine, ImportWords, words_of, IsAddress, imported, without_mark, ok_line}
use Rattle.gl_protocol.specs.Scripts.Script.{Script, new_script}
use Rattle.gl_calculus.specs.Edits.Sheets.{with_changes, settings, removals}
use Rattle.gl_protocol.specs.Scripts.Acts.{Acts}
use Rattle.gl_protocol.specs.Scripts.Output.{Runs, is_refusal}
use Rattle.laws_protocol.specs.Acts.{AreProper}
use Rattle.laws_protocol.specs.Replies.{IsWithinLimits}

-- ---- what a state keeps

pub record IsGood (S : Cells) : Type 0 where
  pub ordered : IsSheet S
  pub proper : AreProper S
  pub small : IsWithinLimits S

-- the steps lead back from the sheet, each to a good one from which it leads on to the one before
abbrev pub LeadBack : Cells → List Step → Type 0
LeadBack S [] = ⊤
LeadBack S (d ∷ ds) = IsGood (with_changes S (befores d)) × (with_changes (with_changes S (befores d)) (afters d) ≡ S) × LeadBack (with_changes S (befores d)) ds

abbrev pub LeadOn : Cells → List Step → Type 0
LeadOn S [] = ⊤
LeadOn S (u ∷ us) = IsGood (with_changes S (afters u)) × (with_changes (with_changes S (afters u)) (befores u) ≡ S) × LeadOn (with_changes S (afters u)) us

-- the sheet is what the registers hold, and no register is ahead of the clock
pub record IsReplicaOf (S : Cells) (r : Replica) : Type 0 where
  pub ordered : AreInOrder (map (λ e. e.place) r.registers)
  pub holds : S ≡ contents_of r.registers
  pub past : (e : Edit) → Member e r.registers → e.stamp.time ≤ r.clock
  pub clock : r.clock ≤ max_time
  pub few : length r.registers ≤ max_registers

pub record IsState (s : Script) : Type 0 where
  pub sheet : IsGood s.sheet
  pub back : LeadBack s.sheet s.history.done
  pub on : LeadOn s.sheet s.history.undone
  pub few : length s.history.done + length s.history.undone ≤ max_steps
  pub replica : IfSome s.replica (λ r. IsReplicaOf s.sheet r × (s.history.done ≡ []) × (s.history.undone ≡ []))

module _ (records : Bytes → List (List Bytes)) (version : Version) where
  -- ---- edits and their undoing

  abbrev pub is_edit : Request → Bool
  is_edit (Set a c) = true
  is_edit (Clear r) = true
  is_edit x = false

  pub data IsEditItem : Item → Type 0 where
    line : {l : Bytes} (x : Request) → ReadsLine l (Is x) → IsTrue (is_edit x) → IsEditItem (Line l)
    import : {l p : Bytes} → IsEditItem (Import l p)

  -- so many accepted edits, one after the other
  pub data Edits : ℕ → Script → Script → Type 0 where
    none : {s : Script} → Edits 0 s s
    edit : {n : ℕ} {s u : Script} (t : Script) (x : Item) (r : Bytes) → IsEditItem x → Acts records version s x t r → IsFalse (is_refusal r) → Edits n t u → Edits (suc n) s u

  -- ---- the edits that a replica takes

  abbrev pub own : Script → Changes → List Edit
  own s cs = by s.replica
    where
      stamped_by : Option Stamp → List Edit
      stamped_by (Some t) = stamped t cs
      stamped_by None = []

      by : Option Replica → List Edit
      by (Some r) = stamped_by (next_stamp r)
      by None = []

  abbrev pub edits_of : Script → Request → List Edit
  edits_of s (Set a c) = own s ((a, Some c) ∷ [])
  edits_of s (Clear r) = own s (removals s.sheet r)
  edits_of s (Merge e) = e ∷ []
  edits_of s x = []

  -- the edits that an accepted item takes
  pub data Takes (s : Script) : Item → List Edit → Type 0 where
    line : {l : Bytes} (x : Request) → ReadsLine l (Is x) → Takes s (Line l) (edits_of s x)
    import : {l p : Bytes} (place n : Bytes) (a : Addr) (cs : Cells) → words_of l ≡ Some (ImportWords place n) → IsAddress place a → imported a (records (without_mark p)) ≡ Is cs → Takes s (Import l p) (own s (settings cs))

  -- a run, with the edits that its accepted items take, in their order
  pub data Took : Script → List Item → Script → List Edit → Type 0 where
    none : {s : Script} → Took s [] s []
    refused : {s u : Script} {x : Item} {xs : List Item} {es : List Edit} (t : Script) (r : Bytes) → Acts records version s x t r → IsTrue (is_refusal r) → Took t xs u es → Took s (x ∷ xs) u es
    accepted : {s u : Script} {x : Item} {xs : List Item} {ds es : List Edit} (t : Script) (r : Bytes) → Acts records version s x t r → IsFalse (is_refusal r) → Takes s x ds → Took t xs u es → Took s (x ∷ xs) u (ds ++ es)

-- ---- the laws

-- Each item leaves a state that is one.
abbrev pub ActsKeepStates : Type 0
ActsKeepStates =
    (records : Bytes → List (List Bytes)) (version : Version) (s s' : Script) (x : Item) (r : Bytes) →
    IsState s → Acts records version s x s' r → IsState s'

-- Every state that a script leads to is one.
abbrev pub ScriptsKeepStates : Type 0
ScriptsKeepStates = (records : Bytes → List (List Bytes)) (version : Version) (is : List Item) (s : Script) (rs : List Bytes) → Runs records version new_script is s rs → IsState s

-- After up to 256 accepted edits as many undos give the contents from before the first, and as many redos then those behind the last.
abbrev pub UndoTakesBack : Type 0
UndoTakesBack =
    (records : Bytes → List (List Bytes)) (version : Version) (n : ℕ) (s t u v : Script) (rs qs : List Bytes) →
    IsState s → s.replica ≡ None → n ≤ max_steps → Edits records version n s t →
    Runs records version t (replicate n (Line (codes "undo"))) u rs → Runs records version u (replicate n (Line (codes "redo"))) v qs →
    (u.sheet ≡ s.sheet) × (v.sheet ≡ t.sheet) × (rs ≡ replicate n ok_line) × (qs ≡ replicate n ok_line)

-- Behind them so many undos, and then so many redos, run through, and none is refused.
abbrev pub UndosRun : Type 0
UndosRun =
    (records : Bytes → List (List Bytes)) (version : Version) (n : ℕ) (s t : Script) →
    IsState s → s.replica ≡ None → n ≤ max_steps → Edits records version n s t →
    (u v : Script) ×
    Runs records version t (replicate n (Line (codes "undo"))) u (replicate n ok_line) ×
    Runs records version u (replicate n (Line (codes "redo"))) v (replicate n ok_line)

-- Each run takes some edits.
abbrev pub EveryRunTook : Type 0
EveryRunTook =
    (records : Bytes → List (List Bytes)) (version : Version) (is : List Item) (s t : Script)
    (rs : List Bytes) → Runs records version s is t rs →
    (es : List Edit) × Took records version s is t es

-- The registers of a replica are the join of the edits that it took, and its clock is their greatest time.
abbrev pub ReplicasJoin : Type 0
ReplicasJoin =
    (records : Bytes → List (List Bytes)) (version : Version) (is : List Item) (s : Script) (es : List Edit) (r : Replica) →
    Took records version new_script is s es → s.replica ≡ Some r → HasTaken es r × (s.sheet ≡ contents_of r.registers)

-- Replicas that took the same edits have the same sheet, whatever their order, their repeats and their versions.
abbrev pub ReplicasAgree : Type 0
ReplicasAgree =
    (records : Bytes → List (List Bytes)) (v w : Version) (is js : List Item) (s t : Script) (ds es : List Edit) (q r : Replica) →
    Took records v new_script is s ds → Took records w new_script js t es → s.replica ≡ Some q → t.replica ≡ Some r → HaveSameMembers ds es → s.sheet ≡ t.sheet

abbrev pub asks_sheet : Request → Bool
asks_sheet (Show a) = true
asks_sheet (View r) = true
asks_sheet (Get a) = true
asks_sheet ListAll = true
asks_sheet Calculate = true
asks_sheet ShowOracle = true
asks_sheet (Why a) = true
asks_sheet (Explain a) = true
asks_sheet Flow = true
asks_sheet x = false

-- What asks for the sheet alone has the same reply in states with the same sheet.
abbrev pub SameSheetsReply : Type 0
SameSheetsReply =
    (records : Bytes → List (List Bytes)) (version : Version) (s s' t t' : Script) (l r q : Bytes) (x : Request) →
    s.sheet ≡ t.sheet → ReadsLine l (Is x) → IsTrue (asks_sheet x) → Acts records version s (Line l) s' r → Acts records version t (Line l) t' q → r ≡ q
