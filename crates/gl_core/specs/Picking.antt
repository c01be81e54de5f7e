-- What picks of the key at a place need, and what they do.
use Rattle.std.specs.Prelude.{◌≡◌, ℕ, ◌<◌, length, slice_get, Option, Some, true, Result, OnOk, OnErr, IfOk}
use Rattle.gl_calculus.specs.Computation.Lists.{Member}
use Rattle.gl_calculus.specs.Computation.Query.{Query, Found, Need, found, IsTrueTable}
use Rattle.gl_machine.specs.Remembered.{AreTrue}
use Rattle.gl_machine.specs.Machine as Machine
use Rattle.gl_machine.specs.Machine.{table}
use Rattle.gl_calculus.specs.Grid.Limits.{max_demanded}
use Rattle.gl_calculus.specs.Grid.Grid.{Range}
use Rattle.gl_calculus.specs.Evaluation.Key as K
use Rattle.gl_calculus.specs.Evaluation.Key.{same_key}
use Rattle.gl_calculus.specs.Evaluation.World.{World}
use Rattle.gl_calculus.specs.Evaluation.Evaluation.{program}
use Rattle.gl_calculus.specs.Evaluation.Sound.{IsProperKey}
use Rattle.gl_plane.specs.declared.NoMemory.{NoMemory}
use Rattle.gl_support.specs.declared.row.Row.{Row}
use Rattle.gl_demand.specs.Marks.{PlainMark}
use Rattle.gl_demand.specs.declared.outcome.Outcome.{Outcome}
use Rattle.gl_core.specs.Marks.{IsMark, MarksBy}
use Rattle.gl_core.specs.Numbers.{numbers_of}
use Rattle.gl_core.specs.Ledger.{written}
use Rattle.gl_core.specs.Statuses.{has}
use Rattle.gl_core.specs.Table.{known_keys, table_of, marks_of, waiters, IsCore}
use Rattle.gl_core.specs.Noting.{Noting}
use Rattle.gl_core.specs.Answers.{picked_tree}
use Rattle.gl_core.specs.declared.status.Status.TheVariants.{Idle}
use Rattle.gl_core.specs.declared.answers.Picked.{Picked}
use Rattle.gl_core.specs.declared.answers.Picked.TheVariants.{Full, Waits}
use Rattle.gl_core.specs.declared.ledger.Ledger.{Ledger}
use Rattle.gl_core.specs.declared.entries.Entries.{Entries}

-- the outcomes of the resolved keys
abbrev pub outcomes_of : Ledger → Entries → K.Key → Option K.Outcome
outcomes_of l e = table same_key (table_of l e)

-- the fact holds of the key at a place
abbrev pub OfKeyAt : ℕ → Ledger → Entries → (K.Key → Type 0) → Type 0
OfKeyAt p l e P = (k : K.Key) → slice_get (known_keys l e) p ≡ Some k → P k

-- the keys of the mark are ahead of the key's evaluation
abbrev pub IsMarkOf : World → Ledger → Entries → K.Key → PlainMark → Type 0
IsMarkOf W l e k m = IsMark W.sheet W.oracle (program W k) (outcomes_of l e) m

-- ---- what picks need

-- the key at a place is idle, in what a core keeps
pub record IsIdleAt (p : ℕ) (l : Ledger) (e : Entries) : Type 0 where
  pub core : IsCore l e
  pub there : p < length e.known.items
  pub idle : slice_get e.statuses.items.items p ≡ Some Idle

-- it is proper too, and the outcomes are true
pub record IsPickable (W : World) (p : ℕ) (l : Ledger) (e : Entries) : Type 0 where
  pub place : IsIdleAt p l e
  pub proper : OfKeyAt p l e (IsProperKey W.sheet)
  pub outcomes : IsTrueTable (program W) (outcomes_of l e)

-- what it was reading is ahead of its evaluation
abbrev pub IsMarkedAt : World → ℕ → Ledger → Entries → Type 0
IsMarkedAt W p l e = (k : K.Key) (m : PlainMark) → slice_get (known_keys l e) p ≡ Some k → slice_get (marks_of e) p ≡ Some m → IsMarkOf W l e k m

-- it has the note in a row
abbrev pub IsNotedIn : ℕ → ℕ → Ledger → Entries → Type 0
IsNotedIn row p l e = (x : Row Outcome Range) × (slice_get l.rows.items row ≡ Some x) × (slice_get e.known.items p ≡ Some x.by)

-- it has no note
abbrev pub IsUnnoted : ℕ → Ledger → Entries → Type 0
IsUnnoted p l e = (n : ℕ) → slice_get e.known.items p ≡ Some n → Member n (numbers_of l.rows.items) → ⊥

-- the fact holds of each program for which the notes and the outcomes are true
abbrev pub OfTruePrograms : Ledger → Entries → ((K.Key → Query K.Key K.Outcome Range K.Outcome) → Type 0) → Type 0
OfTruePrograms l e P = (program : K.Key → Query K.Key K.Outcome Range K.Outcome) → AreTrue same_key program (written l) → IsTrueTable program (outcomes_of l e) → P program

-- ---- what they do

-- what a key finds among the outcomes
abbrev pub found_by : (K.Key → Query K.Key K.Outcome Range K.Outcome) → Ledger → Entries → K.Key → Found K.Key K.Outcome
found_by program l e k = found (outcomes_of l e) (program k)

-- the key at a place goes on by what it finds
abbrev pub TurnsBy : (K.Key → Found K.Key K.Outcome) → ℕ → Ledger → Entries → Ledger → Entries → Type 0
TurnsBy finds p l e l' e' = OfKeyAt p l e (λ k. table_of l' e' ≡ Machine.turn same_key max_demanded (table_of l e) k (finds k))

-- the answer of a key that finds this
abbrev pub answer_by : Found K.Key K.Outcome → Ledger → Entries → Machine.Picked
answer_by x l e = Machine.turn_answer same_key max_demanded (table_of l e) x

-- the answer is that of the key at a place, and the notes change by it
abbrev pub AnswersBy : (K.Key → Query K.Key K.Outcome Range K.Outcome) → ℕ → Ledger → Entries → Machine.Picked → Ledger → Type 0
AnswersBy program p l e a l' = OfKeyAt p l e (λ k. (a ≡ answer_by (found_by program l e k) l e) × Noting program (outcomes_of l e) k (written l) a (written l'))

-- the state and the notes stay
abbrev pub StateAndNotesStay : Ledger → Entries → Ledger → Entries → Type 0
StateAndNotesStay l e l' e' = (table_of l' e' ≡ table_of l e) × (written l' ≡ written l)

-- The key at a place was picked: state, answer and notes are by what it finds, and its mark is right. Without memory or room nothing changes.
pub record IsPicked (W : World) (p : ℕ) (l : Ledger) (e : Entries) (r : Result Picked NoMemory) (l' : Ledger) (e' : Entries) : Type 0 where
  pub state : OnOk r (TurnsBy (found_by (program W) l e) p l e l' e')
  pub answer : IfOk r (λ a. AnswersBy (program W) p l e (picked_tree a) l')
  pub err : OnErr r (StateAndNotesStay l e l' e')
  pub core : IsCore l' e'
  pub marks : OnOk r (OfKeyAt p l e (λ k. MarksBy (IsMarkOf W l e k) p (marks_of e) (marks_of e')))
  pub marks_err : OnErr r (e'.marks.items ≡ e.marks.items)
  pub marks_full : IfOk r (λ a. a ≡ Full → e'.marks.items ≡ e.marks.items)

-- The key at a place needs another, `on`. The notes stay, and without memory the state does. If it waits, it is among those that came to wait.
pub record NeedsAt (on : K.Key) (p : ℕ) (l : Ledger) (e : Entries) (r : Result Picked NoMemory) (l' : Ledger) (e' : Entries) : Type 0 where
  pub state : OnOk r (TurnsBy (λ k. Need on) p l e l' e')
  pub answer : IfOk r (λ a. picked_tree a ≡ answer_by (Need on) l e)
  pub notes : written l' ≡ written l
  pub err : OnErr r (table_of l' e' ≡ table_of l e)
  pub core : IsCore l' e'
  pub marks_err : OnErr r (e'.marks.items ≡ e.marks.items)
  pub marks_full : IfOk r (λ a. a ≡ Full → e'.marks.items ≡ e.marks.items)
  pub waits : IfOk r (λ a. a ≡ Waits → has (waiters e'.waited.items) p ≡ true)
