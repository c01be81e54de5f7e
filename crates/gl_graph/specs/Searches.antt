-- What a search says of its graph between visits.
use Rattle.std.specs.Prelude.{ℕ, List, [], ◌∷◌, ◌++◌, vec_len}
use Rattle.gl_graph.specs.declared.graph.Place.{Place}
use Rattle.gl_graph.specs.declared.mark.Mark.{Mark}
use Rattle.gl_graph.specs.declared.search.Search.{Search}
use Rattle.gl_graph.specs.declared.state.Frame.{Frame}
use Rattle.gl_graph.specs.Search.{mark_of, Knows, IsState, IsTurn}

-- how many nodes it knows of
abbrev pub nodes_in : Search → ℕ
nodes_in s = vec_len s.marks

-- what it knows of a node
abbrev pub known_of : Search → ℕ → Mark
known_of s m = mark_of s.marks.items m

-- it is a search of the graph with these steps, weights and so many nodes
abbrev pub IsSearchOf : (ℕ → Place → List ℕ) → (ℕ → ℕ) → ℕ → Search → Type 0
IsSearchOf left weight size s = Knows left weight size s.marks.items s.open.items s.starts.items s.frames.items

-- it is such a search in the midst of a visit, once this frame is put back
abbrev pub IsSearchWith : (ℕ → Place → List ℕ) → (ℕ → ℕ) → ℕ → Search → Frame → Type 0
IsSearchWith left weight size s f = IsState left weight size s.marks.items s.open.items s.starts.items (s.frames.items ++ f ∷ [])

-- a turn leads from there to the new search
abbrev pub Turns : (ℕ → Place → List ℕ) → (ℕ → ℕ) → ℕ → Search → Frame → Search → Type 0
Turns left weight size old f new = IsTurn left weight size old.marks.items (old.frames.items ++ f ∷ []) new.marks.items new.open.items new.starts.items new.frames.items
