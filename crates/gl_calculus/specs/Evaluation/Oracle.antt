-- What an oracle says of an address, and how the rounds give permits.
use Rattle.std.specs.Prelude.{◌≡◌, ◌≢◌, ◌⊎◌, ℕ, ◌-◌, Bool, ◌&&◌, ◌||◌, not, find, map, List, []}
use Rattle.std.specs.Prelude.{◌∷◌, Option, Some, None, IsTrue, IsFalse, true, false, if◌then◌else◌}
use Rattle.std.specs.Prelude.{option_map, option_and_then}
use Rattle.std.specs.List.{list_any, list_all}
use Rattle.gl_calculus.specs.Computation.Lists.{Member}
use Rattle.gl_calculus.specs.Grid.Grid.{Addr, AreInOrder, same_addr, is_before, Range, Size, area}
use Rattle.gl_calculus.specs.Grid.Grid.{addresses, covers, lies_in, meets, grid}
use Rattle.gl_calculus.specs.Values.Value.{Permit, Permitted, Refused, Entry, Oracle}
use Rattle.gl_calculus.specs.Values.Same.{is_permitted, same_entry}
use Rattle.std.specs.Option.{option_or}

-- the roots increase strictly, in row-major order
abbrev pub IsInOrder : Oracle → Type 0
IsInOrder o = AreInOrder (map (λ x. x.root) o)

abbrev pub entry_at : Oracle → Addr → Option Entry
entry_at o a = find (λ x. same_addr a x.root) o

-- the permit of the address's entry, if it has one
abbrev pub status : Oracle → Addr → Option Permit
status o a = option_map (λ x. x.permit) (entry_at o a)

abbrev pub area_of : Entry → Range
area_of x = area x.root x.size

-- the entry is permitted, and its area exists and covers the address
abbrev pub spills_over : Addr → Entry → Bool
spills_over a x = is_permitted x.permit && lies_in (area_of x) grid && covers (area_of x) a

-- a root, and the rows and columns from it to an address that its area covers
pub record Cover : Type 0 where
  pub root : Addr
  pub rows : ℕ
  pub cols : ℕ

-- the first root that spills over the address
abbrev pub cover : Oracle → Addr → Option Cover
cover [] a = None
cover (x ∷ xs) a =
    if spills_over a x
    then Some (record { root = x.root; rows = a.row - x.root.row; cols = a.col - x.root.col })
    else cover xs a

-- the addresses whose own values are arrays, with their sizes, in row-major order
abbrev pub Sizes : Type 0
Sizes = List (Addr × Size)

abbrev pub AreSizes : Sizes → Type 0
AreSizes xs = AreInOrder (map (λ x. x.0) xs)

-- the area lies in the bound, holds no content but its root, and meets no area already taken
abbrev pub is_free : Range → (Addr → Bool) → List Range → Addr → Range → Bool
is_free bound held taken root r =
    lies_in r bound && list_all (λ b. same_addr b root || not (held b)) (addresses r)
    && not (list_any (meets r) taken)

-- permits in order, beside areas already taken
abbrev pub grant_beside : Range → (Addr → Bool) → List Range → Sizes → Oracle
grant_beside bound held taken [] = []
grant_beside bound held taken (x ∷ xs) =
    let r = area x.0 x.1 in
    let free = is_free bound held taken x.0 r in
    record { root = x.0; size = x.1; permit = if free then Permitted else Refused }
    ∷ grant_beside bound held (if free then r ∷ taken else taken) xs

-- Each array in turn is permitted where its area is free beside the areas permitted before it.
abbrev pub grant : Range → (Addr → Bool) → Sizes → Oracle
grant bound held xs = grant_beside bound held [] xs

-- What permits of the entries keep, said without an order of granting.
pub record ArePermits (bound : Range) (held : Addr → Bool) (w : Oracle) : Type 0 where
  -- a permitted area lies in the bound, has no content but its root, and meets no other one
  pub inside : (x : Entry) → Member x w → x.permit ≡ Permitted → IsTrue (lies_in (area_of x) bound)
  pub alone : (x : Entry) (a : Addr) → Member x w → x.permit ≡ Permitted →
      IsTrue (covers (area_of x) a) → IsTrue (held a) → a ≡ x.root
  pub apart : (x y : Entry) → Member x w → Member y w → x.permit ≡ Permitted →
      y.permit ≡ Permitted → IsTrue (meets (area_of x) (area_of y)) → x.root ≡ y.root
  -- a refused area leaves the bound, has other content, or meets the area of an earlier permitted
  -- root
  pub refused : (x : Entry) → Member x w → x.permit ≡ Refused →
      IsFalse (lies_in (area_of x) bound)
      ⊎ ((a : Addr) × IsTrue (covers (area_of x) a) × IsTrue (held a) × (a ≢ x.root))
      ⊎ ((y : Entry) × Member y w × (y.permit ≡ Permitted) × IsTrue (is_before y.root x.root)
      × IsTrue (meets (area_of x) (area_of y)))

-- the roots and sizes of the entries
abbrev pub sizes_of : Oracle → Sizes
sizes_of o = map (λ x. (x.root, x.size)) o

-- the least address at which the entries differ, or one has none
abbrev pub first_difference : Oracle → Oracle → Option Addr
first_difference [] [] = None
first_difference (x ∷ xs) [] = Some x.root
first_difference [] (y ∷ ys) = Some y.root
first_difference (x ∷ xs) (y ∷ ys) =
    if same_entry x y then first_difference xs ys
    else Some (if is_before y.root x.root then y.root else x.root)

-- ---- what stands in a refused root's way

pub data Obstacle : Type 0 where
  Edge : Obstacle
  Content Root : Addr → Obstacle

-- the first that holds: the area leaves the bound, there is other content, a permitted area meets
abbrev pub first_obstacle : Bool → Option Addr → Option Entry → Option Obstacle
first_obstacle false b x = Some Edge
first_obstacle true b x = option_or (option_map Content b) (option_map (λ y. Root y.root) x)

-- what stands in the way of a root that would have this area
abbrev pub obstacle : Range → (Addr → Bool) → Oracle → Addr → Range → Option Obstacle
obstacle bound held w root r =
    first_obstacle (lies_in r bound) (find (λ b. held b && not (same_addr b root)) (addresses r))
    (find (λ x. is_permitted x.permit && meets r (area_of x)) w)

-- what stands in the way of a root that isn't permitted
abbrev pub blocker : Range → (Addr → Bool) → Oracle → Addr → Option Obstacle
blocker bound held w root =
    option_and_then
    (λ x. if is_permitted x.permit then None else obstacle bound held w x.root (area_of x))
    (entry_at w root)
