-- Which of the calls to come fail, where this is known beforehand.
use Rattle.std.specs.Prelude.{◌≡◌, ℕ, ◌+◌, ◌-◌, ◌^◌, ◌==◌, nat_lt, Bool, false, ◌||◌, List}
use Rattle.std.specs.Prelude.{IsTrue, IsFalse}
use Rattle.std.specs.Prelude.{Option, None, Some, IfSome, if◌then◌else◌}
use Rattle.std.specs.Option.{option_map_or}
use Rattle.std.specs.List.{list_any}

-- the number of the next call, the numbers of the calls that fail, and the most bytes of one call
pub record Plan : Type 0 where
  -- there is none behind the last that a list can name
  pub next : Option ℕ
  pub failing : List ℕ
  pub step : ℕ

abbrev pub is_listed : Plan → Bool
is_listed p = option_map_or (λ n. list_any (λ m. m == n) p.failing) p.next false

abbrev pub number_behind : Option ℕ → Option ℕ
number_behind None = None
number_behind (Some n) = if nat_lt (n + 1) (2 ^ 64) then Some (n + 1) else None

-- the plan behind one call
abbrev pub behind : Plan → Plan
behind p = record p { next = number_behind p.next }

-- a plan of writes, and the bytes that still find room
pub record WritePlan : Type 0 where
  pub calls : Plan
  pub room : ℕ

-- a write fails where it is listed or no room is left
abbrev pub must_fail : WritePlan → Bool
must_fail p = is_listed p.calls || p.room == 0

-- the plan behind a write of so many bytes
abbrev pub behind_write : WritePlan → ℕ → WritePlan
behind_write p n = record { calls = behind p.calls; room = p.room - n }

module _ {P : Type 0} (fails : P → Bool) (next : P → ℕ → P) where
  -- some calls that don't fail, of so many bytes each, and then one that does
  pub data EndsAtFault : P → P → Type 0 where
    fault : {p : P} → IsTrue (fails p) → EndsAtFault p (next p 0)
    goes_on : {p q : P} (n : ℕ) → IsFalse (fails p) → EndsAtFault (next p n) q → EndsAtFault p q

  -- where it is known, the first call that fails is the last one
  abbrev pub EndsByPlan : Option P → Option P → Type 0
  EndsByPlan old new = IfSome old (λ p. (q : P) × (new ≡ Some q) × EndsAtFault p q)
