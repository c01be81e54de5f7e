-- What edits come to that are taken in any order.
use Rattle.std.specs.Prelude.{◌≡◌, ℕ, max, IsTrue, ◌⊎◌, List, [], ◌∷◌, map}
use Rattle.gl_calculus.specs.Computation.Lists.{Member}
use Rattle.gl_calculus.specs.Grid.Grid.{AreInOrder}
use Rattle.gl_calculus.specs.Edits.Replicas.{Edit, Replica, is_earlier}

-- the second is the first, or a later one of its address
abbrev pub IsUpTo : Edit → Edit → Type 0
IsUpTo e r = (e ≡ r) ⊎ ((e.place ≡ r.place) × IsTrue (is_earlier e.stamp r.stamp))

-- The join of edits: of each address that occurs the one with the greatest stamp, in the order of
-- addresses.
pub record IsJoin (es rs : List Edit) : Type 0 where
  pub ordered : AreInOrder (map (λ r. r.place) rs)
  pub among : (r : Edit) → Member r rs → Member r es
  pub greatest : (e : Edit) → Member e es → (r : Edit) × Member r rs × IsUpTo e r

-- no two edits of one address and one stamp differ
abbrev pub IsSound : List Edit → Type 0
IsSound es =
    (d e : Edit) → Member d es → Member e es → d.place ≡ e.place → d.stamp ≡ e.stamp → d ≡ e

abbrev pub HaveSameMembers : List Edit → List Edit → Type 0
HaveSameMembers ds es =
    ((e : Edit) → Member e ds → Member e es) × ((e : Edit) → Member e es → Member e ds)

-- the greatest time, 0 of no edits
abbrev pub latest : List Edit → ℕ
latest [] = 0
latest (e ∷ es) = max e.stamp.time (latest es)

-- the replica has taken these edits
pub record HasTaken (es : List Edit) (r : Replica) : Type 0 where
  pub join : IsJoin es r.registers
  pub clock : r.clock ≡ latest es
