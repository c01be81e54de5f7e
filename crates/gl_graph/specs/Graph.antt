-- What leads to what in a graph whose nodes are numbers, and what paths weigh.
use Rattle.std.specs.Prelude.{◌≡◌, ◌⊎◌, ℕ, ◌+◌, ◌≤◌, List}
use Rattle.gl_calculus.specs.Computation.Lists.{Member}

module _ (steps : ℕ → List ℕ) where
  -- the first node leads to the second by one step or more
  pub data Leads : ℕ → ℕ → Type 0 where
    once : {m n : ℕ} → Member n (steps m) → Leads m n
    further : {l m n : ℕ} → Member m (steps l) → Leads m n → Leads l n

  -- from the node on there is a path that weighs so much, with the node itself
  pub data Path (weight : ℕ → ℕ) : ℕ → ℕ → Type 0 where
    ends : {n : ℕ} → Path weight n (weight n)
    goes : {m n h : ℕ} → Member n (steps m) → Path weight n h → Path weight m (weight m + h)

  -- the same node, or one to which it leads
  abbrev pub Reaches : ℕ → ℕ → Type 0
  Reaches m n = (m ≡ n) ⊎ Leads m n

  -- the node is in no circle, and this is the weight of a path from it; of the heaviest one where it
  -- leads to no circle
  pub record IsPlain (weight : ℕ → ℕ) (m h : ℕ) : Type 0 where
    pub apart : Leads m m → ⊥
    pub path : Path weight m h
    pub most : ((x : ℕ) → Leads m x → Leads x x → ⊥) → (k : ℕ) → Path weight m k → k ≤ h
