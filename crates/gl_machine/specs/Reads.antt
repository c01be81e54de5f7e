-- How an evaluation ends, told by its note.
use Rattle.std.specs.Prelude.{List, [], ◌∷◌, Option, Some, None}
use Rattle.gl_calculus.specs.Computation.Query.{Found, Ready, Need, next}

-- the first of the keys that the table has no outcome of
abbrev pub first_without : {K O : Type 0} → (K → Option O) → List K → Option K
first_without f [] = None
first_without f (k ∷ ks) = next (Some k) (f k) (λ o. first_without f ks)

abbrev pub needs_of : {K O : Type 0} → Found K O → Option K
needs_of (Ready o) = None
needs_of (Need k) = Some k

-- how the evaluation of a key with this outcome ends, by the first of its reads without known outcome
abbrev pub end_by_note : {K O : Type 0} → O → Option K → Found K O
end_by_note o None = Ready o
end_by_note o (Some j) = Need j
