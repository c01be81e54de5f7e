-- The words of sheet values.
use Rattle.std.proofs.Common.{◌≡◌, List, [], ◌∷◌, map, refl, ap}
use Rattle.gl_calculus.specs.Grid.Grid.{Addr}
use Rattle.gl_value.specs.View.{override_trees}
use Rattle.gl_value.specs.declared.Value.{Value}
use Rattle.gl_demand.specs.Outline.{plain_override, listed}

-- the overrides of the code, as the list that they are
pub listed_trees : (os : List (Addr × Value)) → listed (override_trees os) ≡ map plain_override os
listed_trees [] = refl
listed_trees (o ∷ os) = ap (λ ps. plain_override o ∷ ps) (listed_trees os)
