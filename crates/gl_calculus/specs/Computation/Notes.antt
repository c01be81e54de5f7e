-- Notes of what keys gave, and which are kept.
use Rattle.std.specs.Prelude.{◌≡◌, List, Bool, false, [], ◌∷◌}
use Rattle.gl_calculus.specs.Computation.Lists.{Member}

-- what a key gave, the keys that it read and the places that it looked at
pub record Note (K O A : Type 0) : Type 0 where
  pub key : K
  pub outcome : O
  pub reads : List K
  pub looked : List A

-- `j` is `k` or reached from it through reads of notes
pub data IsReached {K O A : Type 0} (notes : List (Note K O A)) : K → K → Type 0 where
  Here : {k : K} → IsReached notes k k
  Through : {k j : K} (n : Note K O A) (i : K) → Member n notes → k ≡ n.key →
      Member i n.reads → IsReached notes i j → IsReached notes k j

-- the key and all that is reached from it have notes, and none of these looked at a touched place
abbrev pub IsKept : {K O A : Type 0} → (A → Bool) → List (Note K O A) → K → Type 0
IsKept {K} {O} {A} touched notes k =
    (j : K) → IsReached notes k j →
    (n : Note K O A) × Member n notes × (n.key ≡ j)
    × ((a : A) → Member a n.looked → touched a ≡ false)

-- the keys of notes
abbrev pub note_keys : {K O A : Type 0} → List (Note K O A) → List K
note_keys [] = []
note_keys (n ∷ ns) = n.key ∷ note_keys ns
