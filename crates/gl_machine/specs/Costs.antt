-- The steps that picks add, and what the keys allow.
use Rattle.std.specs.Prelude.{◌≡◌, ℕ, suc, ◌+◌, List, [], ◌∷◌, Bool, cond, Option, Some, None, length}
use Rattle.gl_calculus.specs.Computation.Lists.{distinct}
use Rattle.gl_calculus.specs.Computation.Query.{Query, Return, Look, Ask, next}
use Rattle.gl_machine.specs.Machine.{table, Status, Idle, Waiting, Resolved, Entry, idle_keys, nth, pick, Picked, Waits, Full, answer}

-- one step for the evaluation of a key without a note, none for a key with one
abbrev pub step_of : {K : Type 0} → (K → Bool) → K → ℕ
step_of noted k = cond (noted k) 0 1

abbrev pub step_at : {K : Type 0} → (K → Bool) → Option K → ℕ
step_at noted None = 0
step_at noted (Some k) = step_of noted k

-- the steps of a list of picks
abbrev pub steps : {K O A : Type 0} → (K → K → Bool) → ℕ → (K → Query K O A O) → (K → Bool) → List (Entry K O) → List ℕ → ℕ
steps same limit program noted st [] = 0
steps same limit program noted st (i ∷ is) = step_at noted (nth (idle_keys st) i) + steps same limit program noted (pick same limit program st i) is

abbrev pub answer_at : {K O A : Type 0} → (K → K → Bool) → ℕ → (K → Query K O A O) → List (Entry K O) → Option K → Picked
answer_at same limit program st None = Waits
answer_at same limit program st (Some k) = answer same limit program st k

-- none of these picks is Full
abbrev pub HaveRoom : {K O A : Type 0} → (K → K → Bool) → ℕ → (K → Query K O A O) → List (Entry K O) → List ℕ → Type 0
HaveRoom same limit program st [] = Unit {0}
HaveRoom same limit program st (i ∷ is) = (answer_at same limit program st (nth (idle_keys st) i) ≡ Full → ⊥) × HaveRoom same limit program (pick same limit program st i) is

-- the keys asked for that the table has outcomes of
abbrev pub answered_keys : {K O A : Type 0} → (K → Option O) → Query K O A O → List K
answered_keys f (Return o) = []
answered_keys f (Look a q) = answered_keys f q
answered_keys f (Ask k c) = next [] (f k) (λ o. k ∷ answered_keys f (c o))

abbrev pub known_reads : {K O A : Type 0} → (K → K → Bool) → (K → Option O) → Query K O A O → ℕ
known_reads same f q = length (distinct same (answered_keys f q))

-- what the known keys without a note allow by the reads that are resolved: 1 and one for each
abbrev pub allowed : {K O A : Type 0} → (K → K → Bool) → (K → Query K O A O) → (K → Bool) → (K → Option O) → List (Entry K O) → ℕ
allowed same program noted f [] = 0
allowed same program noted f (x ∷ xs) = cond (noted x.key) 0 (suc (known_reads same f (program x.key))) + allowed same program noted f xs

-- the known keys without a note, in order
abbrev pub unnoted : {K O : Type 0} → (K → Bool) → List (Entry K O) → List K
unnoted noted [] = []
unnoted noted (x ∷ xs) = cond (noted x.key) (unnoted noted xs) (x.key ∷ unnoted noted xs)

-- the number of keys resolved that have no note
abbrev pub settled_of : {K O : Type 0} → Status K O → ℕ → ℕ
settled_of Idle n = 0
settled_of (Waiting j) n = 0
settled_of (Resolved o) n = n

abbrev pub settled : {K O : Type 0} → (K → Bool) → List (Entry K O) → ℕ
settled noted [] = 0
settled noted (x ∷ xs) = settled_of x.status (step_of noted x.key) + settled noted xs

-- what the evaluations of a key so far are at most, by its status and the number of its resolved reads
abbrev pub spent_of : {K O : Type 0} → Status K O → ℕ → ℕ
spent_of Idle n = n
spent_of (Waiting j) n = suc n
spent_of (Resolved o) n = suc n

abbrev pub credit : {K O A : Type 0} → (K → K → Bool) → (K → Query K O A O) → (K → Bool) → (K → Option O) → Entry K O → ℕ
credit same program noted f x = cond (noted x.key) 0 (spent_of x.status (known_reads same f (program x.key)))

abbrev pub credits : {K O A : Type 0} → (K → K → Bool) → (K → Query K O A O) → (K → Bool) → (K → Option O) → List (Entry K O) → ℕ
credits same program noted f [] = 0
credits same program noted f (x ∷ xs) = credit same program noted f x + credits same program noted f xs

-- what the evaluations of the known keys without a note so far are at most
abbrev pub total : {K O A : Type 0} → (K → K → Bool) → (K → Query K O A O) → (K → Bool) → List (Entry K O) → ℕ
total same program noted st = credits same program noted (table same st) st
