-- A table that is a list of keys with their outcomes.
use Rattle.std.proofs.Common.{◌≡◌, ℕ, ◌+◌, ◌<◌, List, [], ◌∷◌, length, drop, get_or, Some, Bool, true, false, cond, refl, subst, option_map}
use Rattle.std.specs.List.{find}
use Rattle.std.proofs.lemmas.List.{drop_more}
use Rattle.gl_calculus.specs.Computation.Query.{Ready}
use Rattle.gl_calculus.specs.Evaluation.Key.{Key, Outcome, same_key}
use Rattle.gl_calculus.proofs.Tests.{key_equality}
use Rattle.gl_demand.specs.Sound.{IsSoundTable, IsSoundFound}

pub find_drop : {A : Type 0} (p : A → Bool) (xs : List A) (i : ℕ) (x : A) → i < length xs → x ≡ get_or xs i x → find p (drop i xs) ≡ cond (p x) (Some x) (find p (drop (i + 1) xs))
find_drop p xs i x h is = rw (drop_more xs i x h, ← is) refl

-- a table is sound whose items are, each for its key
pub sound_told : {A : Type 0} (key : A → Key) (outcome : A → Outcome) → ((x : A) → IsSoundFound (key x) (Ready (outcome x))) → (xs : List A) → IsSoundTable (λ k. option_map outcome (find (λ x. same_key (key x) k) xs))
sound_told key outcome h [] k o e = absurd (cc e)
sound_told key outcome h (x ∷ xs) k o e = by (same_key (key x) k) refl e (sound_told key outcome h xs k o)
  where
    by : (b : Bool) → same_key (key x) k ≡ b → option_map outcome (cond b (Some x) (find (λ y. same_key (key y) k) xs)) ≡ Some o
        → (option_map outcome (find (λ y. same_key (key y) k) xs) ≡ Some o → IsSoundFound k (Ready o)) → IsSoundFound k (Ready o)
    by true s d rest =
        let p : outcome x ≡ o = cc d in
        subst (λ j. IsSoundFound j (Ready o)) (key_equality.0 (key x) k s) (subst (λ p. IsSoundFound (key x) (Ready p)) p (h x))
    by false s d rest = rest d
