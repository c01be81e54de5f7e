-- The reads of a key, what it looked at, and notes.
use Rattle.std.specs.Prelude.{◌≡◌, List, Bool}
use Rattle.gl_calculus.specs.Computation.Lists.{distinct}
use Rattle.gl_calculus.specs.Computation.Query.{Query, Found, Ready, Path, Has, Loops}

-- the distinct keys that the evaluation of `k` asks for, in order of first demand, up to and with
-- the first that loops
abbrev pub IsReads : {K O A : Type 0} → (K → K → Bool) → (K → Query K O A O) → K → List K → Type 0
IsReads {K} {O} {A} same program k rs =
    (ks : List K) × (ls : List A) × (e : Found K O)
    × Path (Has program) (Loops program) (program k) ks ls e × (rs ≡ distinct same ks)

-- the places that it looks at up to there
abbrev pub IsLooked : {K O A : Type 0} → (K → Query K O A O) → K → List A → Type 0
IsLooked {K} {O} {A} program k ls =
    (ks : List K) × (e : Found K O) × Path (Has program) (Loops program) (program k) ks ls e

-- the key has this outcome, these reads, and looked at these places
abbrev pub IsNote : {K O A : Type 0} →
    (K → K → Bool) → (K → Query K O A O) → K → O → List K → List A → Type 0
IsNote {K} {O} {A} same program k o rs ls =
    (ks : List K) × Path (Has program) (Loops program) (program k) ks ls (Ready o)
    × (rs ≡ distinct same ks)
