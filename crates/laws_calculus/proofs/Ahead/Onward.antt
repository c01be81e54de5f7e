-- What is ahead of a query.
use Rattle.std.proofs.Common.{◌≡◌, List, [], ◌∷◌, ◌++◌, ◌⊎◌, inl, inr, Bool, true, false, cond, Option, Some, None, refl, ap, ◌∙◌}
use Rattle.gl_calculus.specs.Computation.Query.{Query, Return, Look, Ask, Ready, Need, next, found}
use Rattle.gl_calculus.specs.Computation.Evaluation.{given, then_found}
use Rattle.laws_calculus.proofs.Query.Forming.{found-bind}
use Rattle.gl_machine.specs.Ahead.Ahead.{Extends, first_lacked, AreThrough}
use Rattle.laws_calculus.specs.Ahead.{AheadStays, AheadOnward, AheadComposes}

module _ {K O A R : Type 0} (f g : K → Option O) (h : Extends f g) where
  pub ready_still : (q : Query K O A R) (r : R) → found f q ≡ Ready r → found g q ≡ Ready r
  ready_still (Return x) r e = e
  ready_still (Look a q) r e = ready_still q r e
  ready_still (Ask k c) r e =
      (elim (f k) as (λ v. f k ≡ v → next (Need k) v (λ o. found f (c o)) ≡ Ready r → next (Need k) (g k) (λ o. found g (c o)) ≡ Ready r) [
        | None ↦ λ d u. absurd (cc u)
        | Some o ↦ λ d u. rw (h k o d) (ready_still (c o) r u)
      ]) refl e

module _ {K O : Type 0} (on : O → Bool) where
  -- keys that are gone through may be left out
  pub past : (f g : K → Option O) → Extends f g → (js ks : List K) → AreThrough on f js → first_lacked on g (js ++ ks) ≡ first_lacked on g ks
  past f g h [] ks t = refl
  past f g h (j ∷ js) ks ((o, e, u), t) = rw (h j o e, u) (past f g h js ks t)

  -- the first lacked of two lists stands in the first, or this is gone through
  pub split : (g : K → Option O) (ks js : List K) (i : K) → first_lacked on g (ks ++ js) ≡ Some i → (first_lacked on g ks ≡ Some i) ⊎ (AreThrough on g ks × (first_lacked on g js ≡ Some i))
  split g [] js i e = inr (tt, e)
  split g (k ∷ ks) js i e =
      (elim (g k) as (λ v. g k ≡ v → next (Some k) v (λ o. cond (on o) (first_lacked on g (ks ++ js)) None) ≡ Some i → (next (Some k) v (λ o. cond (on o) (first_lacked on g ks) None) ≡ Some i) ⊎ (AreThrough on g (k ∷ ks) × (first_lacked on g js ≡ Some i))) [
        | None ↦ λ d u. inl u
        | Some o ↦ λ d u. by (λ x. split g ks js i x) o d (on o) refl u
      ]) refl e
    where
      by : (first_lacked on g (ks ++ js) ≡ Some i → (first_lacked on g ks ≡ Some i) ⊎ (AreThrough on g ks × (first_lacked on g js ≡ Some i))) → (o : O) → g k ≡ Some o → (b : Bool) → on o ≡ b → cond b (first_lacked on g (ks ++ js)) None ≡ Some i → (cond b (first_lacked on g ks) None ≡ Some i) ⊎ (AreThrough on g (k ∷ ks) × (first_lacked on g js ≡ Some i))
      by ih o d true t u = elim (ih u) [ inl x ↦ inl x | inr x ↦ inr (((o, d, t), x.0), x.1) ]
      by ih o d false t u = absurd (cc u)

  pub both_through : (g : K → Option O) (ks js : List K) → AreThrough on g (ks ++ js) → AreThrough on g ks × AreThrough on g js
  both_through g [] js t = (tt, t)
  both_through g (k ∷ ks) js (x, t) = let (a, b) = both_through g ks js t in ((x, a), b)

pub ahead_stays : (K O A R : Type 0) → AheadStays K O A R
ahead_stays K O A R on q f g ks h a v m i e = a v (λ k o d. m k o (h k o d)) i e

pub ahead_onward : (K O A R : Type 0) → AheadOnward K O A R
ahead_onward K O A R on q f js ks = (
  λ t g h. past on f g h js ks t,
  λ m a g h i e. a g h i (m g h ∙ e),
)

pub ahead_composes : (K O A F R S : Type 0) → AheadComposes K O A F R S
ahead_composes K O A F R S on facts f p g ks = (
  λ a v h i e. found-bind facts v g p ∙ ap (λ t. then_found t (λ r. found v (given facts (g r)))) (a v h i e),
  λ r d a v h i e. found-bind facts v g p ∙ ap (λ t. then_found t (λ r. found v (given facts (g r)))) (ready_still f v h (given facts p) r d) ∙ a v h i e,
)
