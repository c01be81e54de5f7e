-- The steps of picks where a pick that doesn't resolve its key may take none.
use Rattle.std.specs.Prelude.{◌≡◌, ◌⊎◌, ℕ, ◌+◌, List, [], ◌∷◌, Bool, cond, Option, Some, None, nat_lt, if◌then◌else◌}
use Rattle.gl_calculus.specs.Computation.Query.{Query}
use Rattle.gl_machine.specs.Machine.{Entry, idle_keys, nth, pick, Resolved}
use Rattle.gl_machine.specs.Machine as Machine
use Rattle.gl_machine.specs.Costs.{step_at, answer_at}

-- So many steps may be spent by these picks: none or one in each, and one where a key without a note is resolved.
pub data Spent {K O A : Type 0} (same : K → K → Bool) (limit : ℕ) (program : K → Query K O A O) (noted : K → Bool) : List (Entry K O) → List ℕ → ℕ → Type 0 where
  Over : {st : List (Entry K O)} → Spent same limit program noted st [] 0
  One : {st : List (Entry K O)} {i : ℕ} {is : List ℕ} {n : ℕ} → Spent same limit program noted (pick same limit program st i) is n → Spent same limit program noted st (i ∷ is) (step_at noted (nth (idle_keys st) i) + n)
  Free : {st : List (Entry K O)} {i : ℕ} {is : List ℕ} {n : ℕ} → (answer_at same limit program st (nth (idle_keys st) i) ≡ Machine.Picked.Resolved → ⊥) → Spent same limit program noted (pick same limit program st i) is n → Spent same limit program noted st (i ∷ is) n

-- one step more, in a count that stays at its most
abbrev pub one_more : ℕ → ℕ
one_more n = if nat_lt n 18446744073709551615 then n + 1 else n

-- the count behind a pick that evaluates its key, unless that has a note
abbrev pub counted : {K : Type 0} → (K → Bool) → Option K → ℕ → ℕ
counted noted None n = n
counted noted (Some k) n = cond (noted k) n (one_more n)

-- a pick may take no step
abbrev pub AtMostCounted : {K : Type 0} → (K → Bool) → Option K → ℕ → ℕ → Type 0
AtMostCounted noted v n m = (m ≡ n) ⊎ (m ≡ counted noted v n)
