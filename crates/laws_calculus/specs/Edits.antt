-- What holds of joins, and of replicas that take edits.
use Rattle.std.specs.Prelude.{◌≡◌, ℕ, List, [], ◌∷◌, ◌++◌}
use Rattle.gl_calculus.specs.Edits.Replicas.{Edit, Replica, IsTakeable, AreTakeable, register_at, new_replica, taking, taking_all}
use Rattle.gl_calculus.specs.Edits.Joins.{IsJoin, IsSound, HaveSameMembers, HasTaken}

-- Edits with the same members have one join, whatever their order and repeats, and sound ones have one.
abbrev pub OneJoin : Type 0
OneJoin = (ds es rs ss : List Edit) → HaveSameMembers ds es → IsJoin ds rs → IsJoin es ss → rs ≡ ss

abbrev pub SoundJoin : Type 0
SoundJoin = (es : List Edit) → IsSound es → (rs : List Edit) × IsJoin es rs

-- A new replica has taken no edits; one that takes an edit that is no conflict has taken this one too.
abbrev pub NoneTaken : Type 0
NoneTaken = (n : ℕ) → HasTaken [] (new_replica n)

abbrev pub OneMoreTaken : Type 0
OneMoreTaken = (es : List Edit) (r : Replica) (e : Edit) → HasTaken es r → IsTakeable (register_at r.registers e.place) e → HasTaken (es ++ e ∷ []) (taking r e)

-- So what a replica takes one after the other leaves the join of all of them, and their greatest time as its clock.
abbrev pub AllTaken : Type 0
AllTaken = (n : ℕ) (es : List Edit) → AreTakeable (new_replica n) es → HasTaken es (taking_all (new_replica n) es)

-- Two replicas that have taken edits with the same members agree.
abbrev pub TakenAlike : Type 0
TakenAlike = (ds es : List Edit) (q r : Replica) → HaveSameMembers ds es → HasTaken ds q → HasTaken es r → (q.registers ≡ r.registers) × (q.clock ≡ r.clock)
