-- The machine: known keys, each idle, waiting for another or resolved, and what a pick does.
use Rattle.std.specs.Prelude.{◌≡◌, ℕ, zero, suc, ◌+◌, List, [], ◌∷◌, ◌++◌, Bool, cond, Option, Some, None, length, nat_lt, ◌-◌, ◌*◌}
use Rattle.gl_calculus.specs.Computation.Lists.{Member, AreDistinct}
use Rattle.gl_calculus.specs.Computation.Query.{Query, Found, Ready, Need, run, found, Has}
use Rattle.gl_calculus.specs.Computation.Demanded.{Demanded}

pub data Status (K O : Type 0) : Type 0 where
  Idle : Status K O
  Waiting : K → Status K O
  Resolved : O → Status K O

pub record Entry (K O : Type 0) : Type 0 where
  pub key : K
  pub status : Status K O

-- the status of a key in a state, which is a list of entries
abbrev pub at : {K O : Type 0} → (K → K → Bool) → List (Entry K O) → K → Option (Status K O)
at same [] k = None
at same (x ∷ xs) k = cond (same k x.key) (Some x.status) (at same xs k)

abbrev pub outcome_of : {K O : Type 0} → Option (Status K O) → Option O
outcome_of None = None
outcome_of (Some Idle) = None
outcome_of (Some (Waiting j)) = None
outcome_of (Some (Resolved o)) = Some o

-- the outcomes that a state knows
abbrev pub table : {K O : Type 0} → (K → K → Bool) → List (Entry K O) → K → Option O
table same st k = outcome_of (at same st k)

-- an entry with the status that its key and its status give
abbrev pub changed : {K O : Type 0} → (K → Status K O → Status K O) → Entry K O → Entry K O
changed g x = record { key = x.key; status = g x.key x.status }

-- each entry's status by its key and its status before
abbrev pub change : {K O : Type 0} → (K → Status K O → Status K O) → List (Entry K O) → List (Entry K O)
change g [] = []
change g (x ∷ xs) = record { key = x.key; status = g x.key x.status } ∷ change g xs

-- a key that waited for `k` is idle again
abbrev pub woken : {K O : Type 0} → (K → K → Bool) → K → Status K O → Status K O
woken same k Idle = Idle
woken same k (Waiting j) = cond (same j k) Idle (Waiting j)
woken same k (Resolved o) = Resolved o

-- `k` becomes resolved, and each key that waited for it idle
abbrev pub resolve : {K O : Type 0} → (K → K → Bool) → K → O → List (Entry K O) → List (Entry K O)
resolve same k o st = change (λ x s. cond (same x k) (Resolved o) (woken same k s)) st

-- `k` waits for `j`
abbrev pub wait : {K O : Type 0} → (K → K → Bool) → K → K → List (Entry K O) → List (Entry K O)
wait same k j st = change (λ x s. cond (same x k) (Waiting j) s) st

abbrev pub add_idle : {K O : Type 0} → K → List (Entry K O) → List (Entry K O)
add_idle j st = st ++ (record { key = j; status = Idle } ∷ [])

-- `k`, whose evaluation needs `j`: it waits, `j` is added if it isn't known and there is room, else nothing changes
abbrev pub need : {K O : Type 0} → (K → K → Bool) → ℕ → List (Entry K O) → K → K → Option (Status K O) → List (Entry K O)
need same limit st k j (Some s) = wait same k j st
need same limit st k j None = cond (nat_lt (length st) limit) (wait same k j (add_idle j st)) st

-- one evaluation of `k` against the outcomes that the state knows
abbrev pub turn : {K O : Type 0} → (K → K → Bool) → ℕ → List (Entry K O) → K → Found K O → List (Entry K O)
turn same limit st k (Ready o) = resolve same k o st
turn same limit st k (Need j) = need same limit st k j (at same st j)

-- the idle keys, in the order in which keys became known
abbrev pub idle_then : {K O : Type 0} → Status K O → K → List K → List K
idle_then Idle k ks = k ∷ ks
idle_then (Waiting j) k ks = ks
idle_then (Resolved o) k ks = ks

abbrev pub idle_keys : {K O : Type 0} → List (Entry K O) → List K
idle_keys [] = []
idle_keys (x ∷ xs) = idle_then x.status x.key (idle_keys xs)

-- the known keys
abbrev pub keys : {K O : Type 0} → List (Entry K O) → List K
keys [] = []
keys (x ∷ xs) = x.key ∷ keys xs

abbrev pub nth : {X : Type 0} → List X → ℕ → Option X
nth [] i = None
nth (x ∷ xs) zero = Some x
nth (x ∷ xs) (suc i) = nth xs i

abbrev pub picked : {K O A : Type 0} → (K → K → Bool) → ℕ → (K → Query K O A O) → List (Entry K O) → Option K → List (Entry K O)
picked same limit program st None = st
picked same limit program st (Some k) = turn same limit st k (found (table same st) (program k))

-- a pick of the i-th idle key
abbrev pub pick : {K O A : Type 0} → (K → K → Bool) → ℕ → (K → Query K O A O) → List (Entry K O) → ℕ → List (Entry K O)
pick same limit program st i = picked same limit program st (nth (idle_keys st) i)

-- any list of picks
abbrev pub picks : {K O A : Type 0} → (K → K → Bool) → ℕ → (K → Query K O A O) → List (Entry K O) → List ℕ → List (Entry K O)
picks same limit program st [] = st
picks same limit program st (i ∷ is) = picks same limit program (pick same limit program st i) is

-- the seeds, all idle
abbrev pub start : {K O : Type 0} → List K → List (Entry K O)
start [] = []
start (k ∷ ks) = record { key = k; status = Idle } ∷ start ks

abbrev pub IsKnown : {K O : Type 0} → (K → K → Bool) → List (Entry K O) → K → Type 0
IsKnown {K} {O} same st k = (s : Status K O) × (at same st k ≡ Some s)

-- What holds of each state that picks reach.
pub record IsSound {K O A : Type 0} (same : K → K → Bool) (program : K → Query K O A O) (seeds : List K) (st : List (Entry K O)) : Type 0 where
  -- no key is known twice, the seeds are known, and each known key is demanded
  pub apart : AreDistinct (keys st)
  pub seeded : (k : K) → Member k seeds → IsKnown same st k
  pub demanded : (k : K) → IsKnown same st k → Demanded program seeds k
  -- a resolved outcome is the key's, and what one level over the resolved outcomes gives
  pub has : (k : K) (o : O) → at same st k ≡ Some (Resolved o) → Has program k o
  pub level : (k : K) (o : O) → at same st k ≡ Some (Resolved o) → run (table same st) (program k) ≡ Some o
  -- a waiting key waits for the first that its evaluation lacks, which is known
  pub needs : (k j : K) → at same st k ≡ Some (Waiting j) → found (table same st) (program k) ≡ Need j
  pub waited : (k j : K) → at same st k ≡ Some (Waiting j) → IsKnown same st j

-- what a pick answers
pub data Picked : Type 0 where
  Resolved : Picked
  Waits : Picked
  Full : Picked

abbrev pub need_answer : {K O : Type 0} → ℕ → List (Entry K O) → Option (Status K O) → Picked
need_answer limit st (Some s) = Waits
need_answer limit st None = cond (nat_lt (length st) limit) Waits Full

abbrev pub turn_answer : {K O : Type 0} → (K → K → Bool) → ℕ → List (Entry K O) → Found K O → Picked
turn_answer same limit st (Ready o) = Resolved
turn_answer same limit st (Need j) = need_answer limit st (at same st j)

-- what the evaluation of `k` in this state answers
abbrev pub answer : {K O A : Type 0} → (K → K → Bool) → ℕ → (K → Query K O A O) → List (Entry K O) → K → Picked
answer same limit program st k = turn_answer same limit st (found (table same st) (program k))

-- How much is left to do: each pick that isn't Full takes something off.
abbrev pub left_of : {K O : Type 0} → ℕ → Status K O → ℕ
left_of limit Idle = limit + 1
left_of limit (Waiting j) = limit
left_of limit (Resolved o) = 0

abbrev pub left_in : {K O : Type 0} → ℕ → List (Entry K O) → ℕ
left_in limit [] = 0
left_in limit (x ∷ xs) = left_of limit x.status + left_in limit xs

abbrev pub left : {K O : Type 0} → ℕ → List (Entry K O) → ℕ
left limit st = (limit - length st) * (limit + 1) + left_in limit st
