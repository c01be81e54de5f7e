-- How many steps an explanation may take.
use Rattle.std.specs.Prelude.{◌≡◌, ℕ, ◌+◌, List, [], ◌++◌, map, Bool}
use Rattle.gl_calculus.specs.Computation.Lists.{Member}
use Rattle.gl_calculus.specs.Computation.Query.{Query}
use Rattle.gl_calculus.specs.Computation.Demanded.{Demanded}
use Rattle.gl_calculus.specs.Grid.Grid.{Addr}
use Rattle.gl_calculus.specs.Grid.Limits.{max_demanded}
use Rattle.gl_calculus.specs.Evaluation.Key.{Key, Outcome, same_key}
use Rattle.gl_calculus.specs.Evaluation.World.{World}
use Rattle.gl_calculus.specs.Evaluation.Evaluation.{program}
use Rattle.gl_calculus.specs.Explanation.Walk.{Claim, Explained, walk}
use Rattle.gl_calculus.specs.Explanation.Certificate.{Answer, Cert, Work, Aborts, key_at, start}
use Rattle.gl_calculus.specs.Explanation.Certificate.{IsWalked}
use Rattle.gl_calculus.specs.Steps.Allowance.{Allows, HasReads}

-- the key of a note or of a loop, whose reads are there
abbrev pub IsExplainedKey : World → List (Claim Key Outcome) → List Key → Key → Type 0
IsExplainedKey W notes loops k = Member k (map (λ n. n.0) notes ++ loops) × HasReads W k

-- the steps from n to m of the walk with this end, as the keys allow that were on its stack
abbrev pub AllowsWalk : World → Addr → Answer → ℕ → ℕ → Type 0
AllowsWalk W a (Cert c) n m = Allows W (IsExplainedKey W c.notes c.loops) n m
AllowsWalk W a (Aborts b) n m = (notes : List (Claim Key Outcome)) × (loops : List Key) ×
    IsWalked W a (Explained notes loops) × Allows W (IsExplainedKey W notes loops) n m
AllowsWalk W a Work n m = Allows W (Demanded (program W) (start (key_at W.sheet W.oracle a))) n m

-- after some turns the walk from a stack, with no notes, stands at these notes, the last first, and
-- this stack, its top first
abbrev pub Passes : {K O A : Type 0} → (K → K → Bool) → ℕ → (K → Query K O A O) →
    List K → List (Claim K O) → List K → Type 0
Passes same limit program from notes stack =
    (i : ℕ) × ((n : ℕ) →
    walk same limit program (i + n) [] from ≡ walk same limit program n notes stack)

-- a key that was on the stack until the walk came to these notes and this stack
abbrev pub IsStackedKey : List (Claim Key Outcome) → List Key → Key → Type 0
IsStackedKey notes stack k = Member k (stack ++ map (λ n. n.0) notes)

-- the steps from n to m of the walk from a stack as far as it came, however it ends, as the keys
-- allow that were on its stack
abbrev pub AllowsPart : World → List Key → ℕ → ℕ → Type 0
AllowsPart W from n m =
    (notes : List (Claim Key Outcome)) × (stack : List Key) ×
    Passes same_key max_demanded (program W) from notes stack ×
    Allows W (IsStackedKey notes stack) n m
