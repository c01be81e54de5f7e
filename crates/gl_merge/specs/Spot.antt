-- Where an address stands among addresses in their order.
use Rattle.std.specs.Prelude.{◌≡◌, ℕ, ◌<◌, ◌≤◌, IsTrue, List, length, slice_index_or}
use Rattle.gl_calculus.specs.Grid.Grid.{Addr, addr, is_before}
use Rattle.gl_merge.specs.declared.index.Spot.{Spot}
use Rattle.gl_merge.specs.declared.index.Spot.TheVariants.{Found, Gap}

abbrev pub place_at : List Addr → ℕ → Addr
place_at ps k = slice_index_or ps k (addr 0 0)

-- the first so many come before the address, and those from there on after it
abbrev pub AreBefore : List Addr → Addr → ℕ → Type 0
AreBefore ps a i = (k : ℕ) → k < i → IsTrue (is_before (place_at ps k) a)

abbrev pub AreAfter : List Addr → Addr → ℕ → Type 0
AreAfter ps a i = (k : ℕ) → i ≤ k → k < length ps → IsTrue (is_before a (place_at ps k))

pub record IsFoundAt (ps : List Addr) (a : Addr) (i : ℕ) : Type 0 where
  pub within : i < length ps
  pub here : place_at ps i ≡ a
  pub before : AreBefore ps a i

pub record IsGapAt (ps : List Addr) (a : Addr) (i : ℕ) : Type 0 where
  pub within : i ≤ length ps
  pub before : AreBefore ps a i
  pub after : AreAfter ps a i

abbrev pub IsSpot : List Addr → Addr → Spot → Type 0
IsSpot ps a (Found i) = IsFoundAt ps a i
IsSpot ps a (Gap i) = IsGapAt ps a i
