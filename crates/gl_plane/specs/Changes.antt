-- What changed, as a list of ranges.
use Rattle.std.specs.Prelude.{◌≡◌, ℕ, ◌+◌, ◌*◌, ◌/◌, ◌<◌, ◌≤◌, Bool, true, false, ◌||◌, List, length, Option, Some, None, slice_get}
use Rattle.std.specs.List.{list_any}
use Rattle.gl_calculus.specs.Grid.Grid.{Addr, Range, addresses, covers}

-- some range of the list covers the address
abbrev pub is_covered : List Range → Addr → Bool
is_covered rs a = list_any (λ r. covers r a) rs

-- the ranges cover exactly the addresses that pass the test
abbrev pub AreWhere : List Range → (Addr → Bool) → Type 0
AreWhere rs p = (a : Addr) → is_covered rs a ≡ p a

-- what passes the first test passes the second
abbrev pub Within : (Addr → Bool) → (Addr → Bool) → Type 0
Within p q = (a : Addr) → p a ≡ true → q a ≡ true

-- some address of the range has changed
abbrev pub reaches : List Range → Range → Bool
reaches cs r = list_any (is_covered cs) (addresses r)

-- no hull covers nothing
abbrev pub hull_covers : Option Range → Addr → Bool
hull_covers None a = false
hull_covers (Some h) a = covers h a

-- the hull covers all that the ranges do
abbrev pub IsHull : Option Range → List Range → Type 0
IsHull hull rs = Within (is_covered rs) (hull_covers hull)

-- ranges that come at the place n and behind lie each within the hull of its block of 64
pub record AreHulls (n : ℕ) (rs hulls : List Range) : Type 0 where
  pub enough : n + length rs ≤ 64 * length hulls
  pub covered : (k : ℕ) (r : Range) → slice_get rs k ≡ Some r → Within (covers r) (hull_covers (slice_get hulls ((n + k) / 64)))

-- no hull is lost, and none covers less than before
pub record AreWider (old new : List Range) : Type 0 where
  pub kept : length old ≤ length new
  pub above : (k : ℕ) → Within (hull_covers (slice_get old k)) (hull_covers (slice_get new k))

-- the hull of the block covers the range
pub record IsWithin (hulls : List Range) (block : ℕ) (r : Range) : Type 0 where
  pub present : block < length hulls
  pub covered : Within (covers r) (hull_covers (slice_get hulls block))

-- the range covers what one of the two does
abbrev pub IsBoth : Range → Range → Range → Type 0
IsBoth a b r = (p : Addr) → covers r p ≡ (covers a p || covers b p)

-- the ranges or the one beside them cover the address
abbrev pub beside : List Range → Range → Addr → Bool
beside rs r a = is_covered rs a || covers r a

-- the ranges or one of the two beside them cover the address
abbrev pub beside_two : List Range → Range → Range → Addr → Bool
beside_two rs r s a = is_covered rs a || (covers r a || covers s a)
