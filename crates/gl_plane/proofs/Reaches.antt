-- The reaches of entries with one more.
use Rattle.std.proofs.Common.{◌≡◌, ℕ, zero, suc, ◌/◌, ◌≤◌, ◌+◌, ◌⊎◌, inl, inr, List, [], ◌∷◌, ◌++◌, length, Some, slice_get, slice_index, refl, ap, sym, subst, arith, rules}
use Rattle.std.proofs.lemmas.Grind.{common_steps}
use Rattle.gl_calculus.specs.Values.Value.{Entry}
use Rattle.gl_plane.specs.Reach.{AreReaches, IsRaised}

more_length : (es : List Entry) (x : Entry) → length (es ++ x ∷ []) ≡ length es + 1
more_length es x = grind (arith, common_steps)

earlier_or_last : (es : List Entry) (k : ℕ) (x y : Entry) → slice_get (es ++ x ∷ []) k ≡ Some y → (slice_get es k ≡ Some y) ⊎ ((k ≡ length es) × (x ≡ y))
earlier_or_last [] zero x y h = inr (refl, search (rules, h))
earlier_or_last [] (suc k) x y h = absurd (search (rules, h))
earlier_or_last (e ∷ es) zero x y h = inl h
earlier_or_last (e ∷ es) (suc k) x y h = later (earlier_or_last es k x y h) where
  later : (slice_get es k ≡ Some y) ⊎ ((k ≡ length es) × (x ≡ y)) → (slice_get es k ≡ Some y) ⊎ ((suc k ≡ suc (length es)) × (x ≡ y))
  later (inl p) = inl p
  later (inr p) = inr (ap suc p.0, p.1)

no_less : (a b c : ℕ) → a ≤ b → b ≤ c → a ≤ c
no_less a b c h k = omega (arith, h, k)

bound : (size : ℕ) (reach : Entry → ℕ) (es : List Entry) (x y : Entry) (k : ℕ) (old new : List ℕ) → AreReaches size reach es old → IsRaised old new (length es / size) (reach x) → (slice_get es k ≡ Some y) ⊎ ((k ≡ length es) × (x ≡ y)) → reach y ≤ slice_index new (k / size)
bound size reach es x y k old new a r (inl p) = no_less (reach y) (slice_index old (k / size)) (slice_index new (k / size)) (a.bounds k y p) (r.above (k / size))
bound size reach es x y k old new a r (inr p) = subst (λ z. reach z ≤ slice_index new (k / size)) p.1 (subst (λ n. reach x ≤ slice_index new (n / size)) (sym p.0) r.raised)

pub near_more : (reach : Entry → ℕ) (es : List Entry) (x : Entry) (old new : List ℕ) → AreReaches 64 reach es old → IsRaised old new (length es / 64) (reach x) → AreReaches 64 reach (es ++ x ∷ []) new
near_more reach es x old new a r = record {
  enough = omega (arith, more_length es x, a.enough, r.present);
  bounds = λ k y h. bound 64 reach es x y k old new a r (earlier_or_last es k x y h);
}

pub far_more : (reach : Entry → ℕ) (es : List Entry) (x : Entry) (old new : List ℕ) → AreReaches 4096 reach es old → IsRaised old new (length es / 4096) (reach x) → AreReaches 4096 reach (es ++ x ∷ []) new
far_more reach es x old new a r = record {
  enough = omega (arith, more_length es x, a.enough, r.present);
  bounds = λ k y h. bound 4096 reach es x y k old new a r (earlier_or_last es k x y h);
}

-- numbers that were raised bound the same entries
pub near_kept : (reach : Entry → ℕ) (es : List Entry) (old new : List ℕ) (block row : ℕ) → AreReaches 64 reach es old → IsRaised old new block row → AreReaches 64 reach es new
near_kept reach es old new block row a r = record {
  enough = omega (arith, a.enough, r.kept);
  bounds = λ k y h. omega (arith, a.bounds k y h, r.above (k / 64));
}

pub far_kept : (reach : Entry → ℕ) (es : List Entry) (old new : List ℕ) (block row : ℕ) → AreReaches 4096 reach es old → IsRaised old new block row → AreReaches 4096 reach es new
far_kept reach es old new block row a r = record {
  enough = omega (arith, a.enough, r.kept);
  bounds = λ k y h. omega (arith, a.bounds k y h, r.above (k / 4096));
}
