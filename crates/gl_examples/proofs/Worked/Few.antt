-- Lists of at most two distinct members.
use Rattle.std.proofs.Common.{◌≡◌, ◌⊎◌, inl, inr, ◌<◌, List, [], ◌∷◌, length, refl, sym, ◌∙◌, arith}
use Rattle.gl_calculus.specs.Computation.Lists.{Member, AreDistinct}

-- with only two values to choose from, distinct ones are at most two
pub two_at_most : {X : Type 0} (a b : X) (xs : List X) → AreDistinct xs → ((x : X) → Member x xs → (x ≡ a) ⊎ (x ≡ b)) → length xs < 3
two_at_most a b [] d e = omega arith
two_at_most a b (x ∷ []) d e = omega arith
two_at_most a b (x ∷ y ∷ []) d e = omega arith
two_at_most {X} a b (x ∷ y ∷ z ∷ xs) (dx, (dy, dz)) e = third (e x (inl refl)) (e y (inr (inl refl))) (e z (inr (inr (inl refl))))
  where
    third : (x ≡ a) ⊎ (x ≡ b) → (y ≡ a) ⊎ (y ≡ b) → (z ≡ a) ⊎ (z ≡ b) → length (x ∷ y ∷ z ∷ xs) < 3
    third (inl p) (inl q) r = absurd (dx (inl (p ∙ sym q)))
    third (inr p) (inr q) r = absurd (dx (inl (p ∙ sym q)))
    third (inl p) (inr q) (inl r) = absurd (dx (inr (inl (p ∙ sym r))))
    third (inl p) (inr q) (inr r) = absurd (dy (inl (q ∙ sym r)))
    third (inr p) (inl q) (inl r) = absurd (dy (inl (q ∙ sym r)))
    third (inr p) (inl q) (inr r) = absurd (dx (inr (inl (p ∙ sym r))))
