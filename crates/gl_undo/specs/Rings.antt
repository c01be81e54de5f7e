-- Two rings of steps, each from the latest step on.
use Rattle.std.specs.Prelude.{◌≡◌, ◌+◌, ◌≤◌, List, ◌∷◌, length}
use Rattle.circular_buffer.specs.Buffer.{Buffer}
use Rattle.gl_calculus.specs.Edits.Limits.{max_steps}

-- both rings hold so many steps, and no more are in both
abbrev pub AreRings : {X : Type 0} → Buffer X → Buffer X → Type 0
AreRings done undone = (done.capacity ≡ max_steps) × (undone.capacity ≡ max_steps) × (length done.items + length undone.items ≤ max_steps)

-- the first of these goes before those
abbrev pub MovesFirst : {X : Type 0} → List X → List X → List X → List X → Type 0
MovesFirst {X} xs ys xs' ys' = (x : X) × (xs ≡ x ∷ xs') × (ys' ≡ x ∷ ys)
