-- Evaluations at facts: composition, and the law of one level.
use Rattle.std.proofs.Common.{◌≡◌, List, [], ◌∷◌, inl, inr, Option, Some, None, refl, ap, ◌∙◌}
use Rattle.gl_calculus.specs.Computation.Lists.{Member}
use Rattle.gl_calculus.specs.Computation.Query.{Found, Ready, Need, next, found, asked, looked}
use Rattle.gl_calculus.specs.Computation.Evaluation.{Evaluation, Done, LookAt, Demand, bind, given, then_found, then_list}
use Rattle.laws_calculus.proofs.Query.Remember.{AgreeWhere}

module _ {K O A F R S : Type 0} (facts : A → F) (f : K → Option O) (g : R → Evaluation K O A F S) where
  pub found-bind : (p : Evaluation K O A F R) → found f (given facts (bind p g)) ≡ then_found (found f (given facts p)) (λ r. found f (given facts (g r)))
  found-bind (Done r) = refl
  found-bind (LookAt a c) = found-bind (c (facts a))
  found-bind (Demand k c) =
      elim (f k) as (λ v. next (Need k) v (λ o. found f (given facts (bind (c o) g))) ≡ then_found (next (Need k) v (λ o. found f (given facts (c o)))) (λ r. found f (given facts (g r)))) [
        | None ↦ refl
        | Some o ↦ found-bind (c o)
      ]

  cons_then : {X : Type 0} (x : X) (xs : List X) (e : Found K R) (h : R → List X) → x ∷ then_list xs e h ≡ then_list (x ∷ xs) e h
  cons_then x xs (Ready r) h = refl
  cons_then x xs (Need k) h = refl

  pub asked-bind : (p : Evaluation K O A F R) → asked f (given facts (bind p g)) ≡ then_list (asked f (given facts p)) (found f (given facts p)) (λ r. asked f (given facts (g r)))
  asked-bind (Done r) = refl
  asked-bind (LookAt a c) = asked-bind (c (facts a))
  asked-bind (Demand k c) =
      elim (f k) as (λ v. k ∷ next [] v (λ o. asked f (given facts (bind (c o) g))) ≡ then_list (k ∷ next [] v (λ o. asked f (given facts (c o)))) (next (Need k) v (λ o. found f (given facts (c o)))) (λ r. asked f (given facts (g r)))) [
        | None ↦ refl
        | Some o ↦ ap (λ t. k ∷ t) (asked-bind (c o)) ∙ cons_then k (asked f (given facts (c o))) (found f (given facts (c o))) (λ r. asked f (given facts (g r)))
      ]

  pub looked-bind : (p : Evaluation K O A F R) → looked f (given facts (bind p g)) ≡ then_list (looked f (given facts p)) (found f (given facts p)) (λ r. looked f (given facts (g r)))
  looked-bind (Done r) = refl
  looked-bind (LookAt a c) = ap (λ t. a ∷ t) (looked-bind (c (facts a))) ∙ cons_then a (looked f (given facts (c (facts a)))) (found f (given facts (c (facts a)))) (λ r. looked f (given facts (g r)))
  looked-bind (Demand k c) =
      elim (f k) as (λ v. next [] v (λ o. looked f (given facts (bind (c o) g))) ≡ then_list (next [] v (λ o. looked f (given facts (c o)))) (next (Need k) v (λ o. found f (given facts (c o)))) (λ r. looked f (given facts (g r)))) [
        | None ↦ refl
        | Some o ↦ looked-bind (c o)
      ]

module _ {K O A F R : Type 0} (facts facts' : A → F) (Fine : A → Type 0) (same : (a : A) → Fine a → facts' a ≡ facts a) (f : K → Option O) where
  -- where each place on the way is fine, the walk is the same
  pub same_walk : (p : Evaluation K O A F R) → ((a : A) → Member a (looked f (given facts p)) → Fine a) →
      (found f (given facts' p) ≡ found f (given facts p)) × (asked f (given facts' p) ≡ asked f (given facts p)) × (looked f (given facts' p) ≡ looked f (given facts p))
  same_walk (Done r) h = (refl, refl, refl)
  same_walk (LookAt a c) h =
      let e : facts' a ≡ facts a = same a (h a (inl refl)) in
      let (x, y, z) = same_walk (c (facts a)) (λ b m. h b (inr m)) in
      (ap (λ t. found f (given facts' (c t))) e ∙ x, ap (λ t. asked f (given facts' (c t))) e ∙ y, ap (λ t. a ∷ looked f (given facts' (c t))) e ∙ ap (λ t. a ∷ t) z)
  same_walk (Demand k c) h =
      (elim (f k) as (λ v. ((a : A) → Member a (next [] v (λ o. looked f (given facts (c o)))) → Fine a) →
      (next (Need k) v (λ o. found f (given facts' (c o))) ≡ next (Need k) v (λ o. found f (given facts (c o)))) ×
      (k ∷ next [] v (λ o. asked f (given facts' (c o))) ≡ k ∷ next [] v (λ o. asked f (given facts (c o)))) ×
      (next [] v (λ o. looked f (given facts' (c o))) ≡ next [] v (λ o. looked f (given facts (c o))))) [
        | None ↦ λ m. (refl, refl, refl)
        | Some o ↦ λ m. let (x, y, z) = same_walk (c o) m in (x, ap (λ t. k ∷ t) y, z)
      ]) h

-- A program of evaluations goes the same way wherever the places on the way are fine.
pub agree_given : {K O A F : Type 0} (program : K → Evaluation K O A F O) (facts facts' : A → F) (Fine : A → Type 0) → ((a : A) → Fine a → facts' a ≡ facts a) → AgreeWhere Fine (λ k. given facts (program k)) (λ k. given facts' (program k))
agree_given program facts facts' Fine same f k h = same_walk facts facts' Fine same f (program k) h
