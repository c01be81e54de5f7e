-- A list in rows.
use Rattle.std.specs.Prelude.{ℕ, zero, suc, List, [], ◌∷◌, take, drop}

-- so many rows of so many elements each, in turn
abbrev pub in_rows : {X : Type 0} → (rows cols : ℕ) → List X → List (List X)
in_rows zero cols xs = []
in_rows (suc n) cols xs = take cols xs ∷ in_rows n cols (drop cols xs)
