-- The differences of two oracles, part by part.
use Rattle.std.specs.Prelude.{◌≡◌, ℕ, ◌+◌, List, [], ◌∷◌, ◌++◌, drop, Option, Some, None, if◌then◌else◌}
use Rattle.std.specs.List.{flat_map}
use Rattle.gl_calculus.specs.Grid.Grid.{Range, single}
use Rattle.gl_calculus.specs.Values.Value.{Entry, Oracle}
use Rattle.gl_calculus.specs.Values.Same.{same_permit}
use Rattle.gl_calculus.specs.Evaluation.Oracle.{entry_at}
use Rattle.gl_calculus.specs.Calculation.Differences.{minus, by_entry, by_new}

-- what these entries say that those of the oracle don't
abbrev pub by_entries : Oracle → Oracle → List Range
by_entries v xs = flat_map (λ x. by_entry x (entry_at v x.root)) xs

-- what these entries say at roots of which the oracle has none
abbrev pub by_news : Oracle → Oracle → List Range
by_news w ys = flat_map (λ y. by_new y (entry_at w y.root)) ys

-- the entry at place i of the second oracle is listed, as one that the first lacks or has otherwise
abbrev pub ListsEntry : Oracle → Oracle → ℕ → List Range → List Range → Type 0
ListsEntry v w i old new = new ++ by_entries v (drop (i + 1) w) ≡ old ++ by_entries v (drop i w)

-- the entry at place i of the second oracle is listed, as one that the first lacks
abbrev pub ListsNew : Oracle → Oracle → ℕ → List Range → List Range → Type 0
ListsNew w v i old new = new ++ by_news w (drop (i + 1) v) ≡ old ++ by_news w (drop i v)

-- the root of two entries with different permits
abbrev pub root_apart : Entry → Entry → List Range
root_apart x y = if same_permit y.permit x.permit then [] else single x.root ∷ []

-- what only one of two areas with the same first corner covers, of those that there are
abbrev pub between : Option Range → Option Range → List Range
between (Some a) (Some b) = minus a b ++ minus b a
between (Some a) None = a ∷ []
between None (Some b) = b ∷ []
between None None = []
