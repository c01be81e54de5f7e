-- Explanations, for any keys and outcomes: claims of outcomes that follow one from another, keys
-- that wait for each other in a circle, and the walk that finds both.
use Rattle.std.specs.Prelude.{◌≡◌, ℕ, zero, suc, ◌+◌, ◌==◌, length, List, [], ◌∷◌, Bool, true}
use Rattle.std.specs.Prelude.{false, cond, Option, Some, None, option_map, reverse}
use Rattle.gl_calculus.specs.Computation.Lists.{has_member}
use Rattle.gl_calculus.specs.Computation.Query.{Query, Found, Ready, Need, found}

-- a key with the outcome that is claimed of it
abbrev pub Claim : Type 0 → Type 0 → Type 0
Claim K O = K × O

-- the outcome that the first claim of a key claims
abbrev pub noted : {K O : Type 0} → (K → K → Bool) → List (Claim K O) → K → Option O
noted same [] k = None
noted same (n ∷ ns) k = cond (same k n.0) (Some n.1) (noted same ns k)

-- nothing is claimed
abbrev pub is_unnoted : {O : Type 0} → Option O → Bool
is_unnoted None = true
is_unnoted (Some o) = false

-- the evaluation came to this outcome
abbrev pub comes_to : {K O : Type 0} → (O → O → Bool) → O → Found K O → Bool
comes_to same_outcome o (Ready p) = same_outcome o p
comes_to same_outcome o (Need j) = false

-- the evaluation lacked one of these keys
abbrev pub waits_among : {K O : Type 0} → (K → K → Bool) → List K → Found K O → Bool
waits_among same loops (Ready o) = false
waits_among same loops (Need j) = has_member same j loops

module _ {K O A : Type 0} (same : K → K → Bool) (same_outcome : O → O → Bool)
    (allowed : K → Bool) (program : K → Query K O A O) where
  -- the claim is of an allowed key without claim before it, and one level over the claims before
  -- it comes to its outcome
  abbrev pub follows : List (Claim K O) → Claim K O → Bool
  follows before n = cond (allowed n.0) (cond (is_unnoted (noted same before n.0))
      (comes_to same_outcome n.1 (found (noted same before) (program n.0))) false) false

  -- the number of the first claim that doesn't follow from those before it, of which the last
  -- stands first
  abbrev pub first_stray : List (Claim K O) → List (Claim K O) → Option ℕ
  first_stray before [] = None
  first_stray before (n ∷ ns) =
      cond (follows before n) (option_map suc (first_stray (n ∷ before) ns)) (Some 0)

  -- the key is allowed, and what one level over the claims first lacks is one of the loops
  abbrev pub waits : List (Claim K O) → List K → K → Bool
  waits notes loops k =
      cond (allowed k) (waits_among same loops (found (noted same notes) (program k))) false

  -- the number of the first key that doesn't wait so
  abbrev pub first_free : List (Claim K O) → List K → List K → Option ℕ
  first_free notes loops [] = None
  first_free notes loops (k ∷ ks) =
      cond (waits notes loops k) (option_map suc (first_free notes loops ks)) (Some 0)

-- what a walk finds: claims, and keys that wait for each other, if it ends in a circle; or that
-- more keys than the limit would be put on its stack
pub data Walked (K O : Type 0) : Type 0 where
  Explained : List (Claim K O) → List K → Walked K O
  Exhausted : Walked K O

module _ {K O A : Type 0} (same : K → K → Bool) (limit : ℕ) (program : K → Query K O A O) where
  -- a turn on the top of the stack, by what one level over the notes finds: an outcome is noted,
  -- and the key taken off; a key that is on the stack ends the walk in a circle; another one is put
  -- on, unless as many keys as the limit were
  abbrev pub turn : (List (Claim K O) → List K → Option (Walked K O)) →
      List (Claim K O) → K → List K → Found K O → Option (Walked K O)
  turn go notes k rest (Ready o) = go ((k, o) ∷ notes) rest
  turn go notes k rest (Need j) =
      cond (has_member same j (k ∷ rest)) (Some (Explained (reverse notes) (reverse (k ∷ rest))))
      (cond (length notes + length (k ∷ rest) == limit) (Some Exhausted) (go notes (j ∷ k ∷ rest)))

  -- the walk with at most so many turns, from these notes, the last first, and this stack, its top
  -- first
  abbrev pub walk : ℕ → List (Claim K O) → List K → Option (Walked K O)
  walk zero notes stack = None
  walk (suc n) notes [] = Some (Explained (reverse notes) [])
  walk (suc n) notes (k ∷ rest) = turn (walk n) notes k rest (found (noted same notes) (program k))

  -- the walk from this stack, with no notes, finds this
  abbrev pub IsWalk : List K → Walked K O → Type 0
  IsWalk stack r = (n : ℕ) × (walk n [] stack ≡ Some r)
