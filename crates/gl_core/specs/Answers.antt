-- What picks and runs answer, and the steps that they take.
use Rattle.std.specs.Prelude.{◌≡◌, ◌⊎◌, ℕ, List, slice_get, Option, Some, None, Bool, false, cond, IsTrue, IfSome, IsSome}
use Rattle.gl_calculus.specs.Computation.Demanded.{Demanded}
use Rattle.gl_machine.specs.Machine as Machine
use Rattle.gl_calculus.specs.Grid.Grid.{Range}
use Rattle.gl_calculus.specs.Evaluation.Key as K
use Rattle.gl_calculus.specs.Evaluation.World.{World}
use Rattle.gl_calculus.specs.Evaluation.Evaluation.{program}
use Rattle.gl_calculus.specs.Evaluation.Sound.{is_sound_outcome, is_outcome_of}
use Rattle.gl_demand.specs.View.{outcome_tree}
use Rattle.gl_demand.specs.Steps.{one_more}
use Rattle.gl_core.specs.declared.answers.Picked.{Picked}
use Rattle.gl_core.specs.declared.answers.Picked.TheVariants.{Resolved, Waits, Full}
use Rattle.gl_core.specs.declared.quiet.Seen.{Seen}
use Rattle.gl_core.specs.declared.quiet.Seen.TheVariants.{Known, Loops}
use Rattle.gl_demand.specs.declared.outcome.Outcome.{Outcome}
use Rattle.gl_core.specs.declared.status.Status.{Status}
use Rattle.gl_support.specs.declared.row.Row.{Row}
use Rattle.gl_core.specs.State.{State}

abbrev pub picked_tree : Picked → Machine.Picked
picked_tree Resolved = Machine.Picked.Resolved
picked_tree Waits = Machine.Picked.Waits
picked_tree Full = Machine.Picked.Full

-- the count of steps after a pick of this key: one more where the key has no note
abbrev pub counted : (K.Key → Bool) → Option K.Key → ℕ → ℕ
counted noted None n = n
counted noted (Some k) n = cond (noted k) n (one_more n)

-- the same, or one less: a pick may take no step
abbrev pub AtMostCounted : (K.Key → Bool) → Option K.Key → ℕ → ℕ → Type 0
AtMostCounted noted v n m = (m ≡ n) ⊎ (m ≡ counted noted v n)

-- the key is demanded from these seeds, and had no note at the start
abbrev pub IsUnnoted : World → List K.Key → (K.Key → Bool) → K.Key → Type 0
IsUnnoted W seeds noted k = Demanded (program W) seeds k × (noted k ≡ false)

-- what is seen of a key by its status, where no key is idle
abbrev pub IsSeen : Seen → Option (Machine.Status K.Key K.Outcome) → Type 0
IsSeen (Known o) s = s ≡ Some (Machine.Resolved (outcome_tree o.now))
IsSeen Loops s = (j : K.Key) × (s ≡ Some (Machine.Waiting j))

-- what is seen of the key of an entry
abbrev pub IsSeenAt : Option (Machine.Entry K.Key K.Outcome) → Seen → Type 0
IsSeenAt None s = ⊥
IsSeenAt (Some x) s = IsSeen s (Some x.status)

-- an outcome that is seen is sound, and one of the key
abbrev pub IsSoundSeen : K.Key → Seen → Type 0
IsSoundSeen k (Known o) = IsTrue (is_sound_outcome (outcome_tree o.now)) × IsTrue (is_outcome_of k (outcome_tree o.now))
IsSoundSeen k Loops = Unit {0}

abbrev pub IsKnown : Outcome → Seen → Type 0
IsKnown o (Known x) = x.now ≡ o
IsKnown o Loops = ⊥

-- what is seen by a status: nothing where there is none, or it is idle
abbrev pub IsSeenStatus : List (Row Outcome Range) → Option Seen → Option Status → Type 0
IsSeenStatus rows r None = r ≡ None
IsSeenStatus rows r (Some Status.Idle) = r ≡ None
IsSeenStatus rows r (Some (Status.Waiting p)) = r ≡ Some Loops
IsSeenStatus rows r (Some (Status.Resolved i)) = (x : Row Outcome Range) → slice_get rows i ≡ Some x → IfSome r (IsKnown x.outcome) × IsSome r
