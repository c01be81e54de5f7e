-- A machine that keeps, beside its state, what each key will need next.
use Rattle.std.specs.Prelude.{◌≡◌, ℕ, ◌+◌, List, [], ◌∷◌, Bool, cond, Some}
use Rattle.gl_calculus.specs.Computation.Query.{Query, found}
use Rattle.gl_machine.specs.Machine.{Entry, at, table, idle_keys, nth, need, turn}
use Rattle.gl_machine.specs.Costs.{step_of}
use Rattle.gl_machine.specs.Ahead.Ahead.{first_lacked, IsAhead}

pub record Kept (K O : Type 0) : Type 0 where
  pub state : List (Entry K O)
  pub ahead : K → List K

-- what is kept of each key holds in the state
abbrev pub AreAhead : {K O A : Type 0} → (K → K → Bool) → (O → Bool) → (K → Query K O A O) → Kept K O → Type 0
AreAhead {K} same on program s = (k : K) → IsAhead on (program k) (table same s.state) (s.ahead k)

-- A pick of an idle key: it waits for the first lacked of what is kept, without a step; or it is evaluated, and what it then needs is kept.
pub data Goes {K O A : Type 0} (same : K → K → Bool) (limit : ℕ) (on : O → Bool) (program : K → Query K O A O) (noted : K → Bool) (s : Kept K O) (i : ℕ) : Kept K O → ℕ → Type 0 where
  by_ahead : (k j : K) → nth (idle_keys s.state) i ≡ Some k → first_lacked on (table same s.state) (s.ahead k) ≡ Some j → Goes same limit on program noted s i (record { state = need same limit s.state k j (at same s.state j); ahead = s.ahead }) 0
  by_step : (k : K) (ks : List K) → nth (idle_keys s.state) i ≡ Some k → IsAhead on (program k) (table same s.state) ks → Goes same limit on program noted s i (record { state = turn same limit s.state k (found (table same s.state) (program k)); ahead = λ x. cond (same x k) ks (s.ahead x) }) (step_of noted k)

pub data GoesAll {K O A : Type 0} (same : K → K → Bool) (limit : ℕ) (on : O → Bool) (program : K → Query K O A O) (noted : K → Bool) : Kept K O → List ℕ → Kept K O → ℕ → Type 0 where
  Over : {s : Kept K O} → GoesAll same limit on program noted s [] s 0
  Then : {s t u : Kept K O} {i m n : ℕ} {is : List ℕ} → Goes same limit on program noted s i t m → GoesAll same limit on program noted t is u n → GoesAll same limit on program noted s (i ∷ is) u (m + n)
