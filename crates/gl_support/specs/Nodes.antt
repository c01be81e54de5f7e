-- Keys by numbers: a key's number is its place in a list.
use Rattle.std.specs.Prelude.{ℕ, zero, suc, Bool, true, false, ◌&&◌, not, List, [], ◌∷◌}
use Rattle.std.specs.List.{list_any}

-- the first key that is equal to k stands at place i
abbrev pub stands_at : {K : Type 0} → (K → K → Bool) → List K → K → ℕ → Bool
stands_at same [] k i = false
stands_at same (x ∷ xs) k zero = same k x
stands_at same (x ∷ xs) k (suc i) = not (same k x) && stands_at same xs k i

-- one of the keys stands at place i
abbrev pub reads_at : {K : Type 0} → (K → K → Bool) → List K → List K → ℕ → Bool
reads_at same ks reads i = list_any (λ k. stands_at same ks k i) reads

-- the keys at the marked places
abbrev pub marked_keys : {K : Type 0} → List Bool → List K → List K
marked_keys [] ks = []
marked_keys (m ∷ ms) [] = []
marked_keys (true ∷ ms) (k ∷ ks) = k ∷ marked_keys ms ks
marked_keys (false ∷ ms) (k ∷ ks) = marked_keys ms ks
