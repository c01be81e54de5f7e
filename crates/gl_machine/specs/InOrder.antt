-- Notes in the order in which they were made, and one pass over them that decides which go.
use Rattle.std.specs.Prelude.{Bool, ◌||◌, cond, List, [], ◌∷◌}
use Rattle.std.specs.List.{list_any}
use Rattle.gl_calculus.specs.Computation.Lists.{Member, has_member}
use Rattle.gl_calculus.specs.Computation.Notes.{Note}

-- each key that a note read has a note before it
abbrev pub AreOrdered : {K O A : Type 0} → List K → List (Note K O A) → Type 0
AreOrdered before [] = Unit {0}
AreOrdered {K} before (n ∷ ns) = ((j : K) → Member j n.reads → Member j before) × AreOrdered (n.key ∷ before) ns

-- the note looked at something touched, or read one of these keys
abbrev pub must_go : {K O A : Type 0} → (K → K → Bool) → (A → Bool) → List K → Note K O A → Bool
must_go same touched gone n = list_any touched n.looked || list_any (λ j. has_member same j gone) n.reads

-- the keys to drop, gathered from the first note to the last
abbrev pub gone_after : {K O A : Type 0} → (K → K → Bool) → (A → Bool) → List K → List (Note K O A) → List K
gone_after same touched gone [] = gone
gone_after same touched gone (n ∷ ns) = gone_after same touched (cond (must_go same touched gone n) (n.key ∷ gone) gone) ns

-- and the notes that stay
abbrev pub kept_after : {K O A : Type 0} → (K → K → Bool) → (A → Bool) → List K → List (Note K O A) → List (Note K O A)
kept_after same touched gone [] = []
kept_after same touched gone (n ∷ ns) =
    cond (must_go same touched gone n) (kept_after same touched (n.key ∷ gone) ns) (n ∷ kept_after same touched gone ns)
