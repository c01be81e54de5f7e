-- Induction along a relation on finitely many things that leads from none back to itself.
use Rattle.std.proofs.Common.{inl, inr, ℕ, zero, suc, ◌+◌, ◌≤◌, ◌<◌, List, [], ◌∷◌, length, sym, subst, arith}
use Rattle.gl_calculus.specs.Computation.Lists.{Member, AreDistinct}
use Rattle.laws_calculus.proofs.Query.Quiet.{distinct_within}

-- from one to another by one step or more
pub data Chain {X : Type 0} (R : X → X → Type 0) : X → X → Type 0 where
  once : {x y : X} → R x y → Chain R x y
  further : {x y z : X} → R x y → Chain R y z → Chain R x z

module _ {X : Type 0} (R : X → X → Type 0) (things : List X) (within : (x y : X) → Member x things → R x y → Member y things) (no_circle : (x : X) → Member x things → Chain R x x → ⊥) where
  behind : (x y z : X) → Chain R x y → R y z → Chain R x z
  behind x y z (once r) s = further r (once s)
  behind x y z (further {y = u} r c) s = further r (behind u y z c s)

  -- what was gone through: distinct, and each leads to the next thing
  abbrev Through : X → List X → Type 0
  Through x seen = (y : X) → Member y seen → Member y things × Chain R y x

  module _ (P : X → Type 0) (step : (x : X) → Member x things → ((y : X) → R x y → P y) → P x) where
    go : (n : ℕ) (seen : List X) (x : X) → AreDistinct seen → Through x seen → Member x things → length things < n + length seen → P x
    go zero seen x d t m l = let b : length seen ≤ length things = distinct_within seen things d (λ y i. (t y i).0) in absurd (omega (arith, l, b))
    go (suc n) seen x d t m l =
        step x m (λ y r. go n (x ∷ seen) y ((λ i. no_circle x m (t x i).1), d) (longer y r) (within x y m r) (omega (arith, l)))
      where
        longer : (y : X) → R x y → Through y (x ∷ seen)
        longer y r z (inl e) = (subst (λ u. Member u things) (sym e) m, subst (λ u. Chain R u y) (sym e) (once r))
        longer y r z (inr i) = ((t z i).0, behind z x y (t z i).1 r)

    pub along : (x : X) → Member x things → P x
    along x m = go (suc (length things)) [] x tt (λ y i. absurd i) m (omega arith)
