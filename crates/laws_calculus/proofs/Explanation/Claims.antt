-- Claims that follow one from another are true, and keys that wait for each other loop.
use Rattle.std.proofs.Common.{◌≡◌, inl, inr, ℕ, suc, List, [], ◌∷◌, Bool, true, false, cond, Option, Some, None, option_map, refl, sym, subst, ap, ◌∙◌}
use Rattle.gl_calculus.specs.Computation.Lists.{Member, IsEquality}
use Rattle.gl_calculus.specs.Computation.Query.{Query, Found, Ready, Need, found, asked, looked, Path, Has, Loops, IsTrueTable, IsAsked}
use Rattle.laws_calculus.proofs.Query.Levels.{found_run, Has-from_level}
use Rattle.laws_calculus.proofs.Query.Looping.{true_path, needs_asked, circle_loops}
use Rattle.laws_calculus.proofs.Query.Quiet.{seen_member}
use Rattle.gl_calculus.specs.Explanation.Walk.{Claim, noted, follows, comes_to, is_unnoted, first_stray, waits, waits_among, first_free}

-- a choice that is true has all its tests
pub both : (b c : Bool) → cond b c false ≡ true → (b ≡ true) × (c ≡ true)
both true c e = (refl, e)
both false c e = absurd (cc e)

module _ {K O A : Type 0} (same : K → K → Bool) (same_outcome : O → O → Bool) (allowed : K → Bool) (program : K → Query K O A O) (eq : IsEquality same) (eq_outcome : IsEquality same_outcome) where
  -- a claim more that is true
  pub more : (n : Claim K O) (before : List (Claim K O)) → Has program n.0 n.1 → IsTrueTable program (noted same before) → IsTrueTable program (noted same (n ∷ before))
  more n before h t k o e =
      (elim (same k n.0) as (λ b. same k n.0 ≡ b → cond b (Some n.1) (noted same before k) ≡ Some o → Has program k o) [
        | true ↦ λ u z. let p : n.1 ≡ o = cc z in subst (λ x. Has program x o) (sym (eq.0 k n.0 u)) (subst (Has program n.0) p h)
        | false ↦ λ u z. t k o z
      ]) refl e

  found_of : (o : O) (e : Found K O) → comes_to same_outcome o e ≡ true → e ≡ Ready o
  found_of o (Ready p) t = ap Ready (sym (eq_outcome.0 o p t))
  found_of o (Need j) t = absurd (cc t)

  pub follows_has : (before : List (Claim K O)) (n : Claim K O) → IsTrueTable program (noted same before) → follows same same_outcome allowed program before n ≡ true → Has program n.0 n.1
  follows_has before n t e =
      let p = both (allowed n.0) _ e in
      let q = both (is_unnoted (noted same before n.0)) _ p.1 in
      Has-from_level program (noted same before) t n.0 n.1 (found_run (noted same before) (program n.0) n.1 (found_of n.1 (found (noted same before) (program n.0)) q.1))

  pub stray_none : (b : Bool) (o : Option ℕ) → cond b (option_map suc o) (Some 0) ≡ None → (b ≡ true) × (o ≡ None)
  stray_none true None e = (refl, refl)
  stray_none true (Some i) e = absurd (cc e)
  stray_none false o e = absurd (cc e)

  -- each claim of a list of which none is stray is true
  pub all_true : (before notes : List (Claim K O)) → IsTrueTable program (noted same before) → first_stray same same_outcome allowed program before notes ≡ None → (n : Claim K O) → Member n notes → Has program n.0 n.1
  all_true before [] t e n m = absurd m
  all_true before (x ∷ notes) t e n (inl d) =
      let p = stray_none (follows same same_outcome allowed program before x) _ e in
      subst (λ u. Has program u.0 u.1) (sym d) (follows_has before x t p.0)
  all_true before (x ∷ notes) t e n (inr m) =
      let p = stray_none (follows same same_outcome allowed program before x) _ e in
      all_true (x ∷ before) notes (more x before (follows_has before x t p.0) t) p.1 n m

  pub noted_member : (notes : List (Claim K O)) (k : K) (o : O) → noted same notes k ≡ Some o → Member (k, o) notes
  noted_member [] k o e = absurd (cc e)
  noted_member (n ∷ notes) k o e =
      (elim (same k n.0) as (λ b. same k n.0 ≡ b → cond b (Some n.1) (noted same notes k) ≡ Some o → Member (k, o) (n ∷ notes)) [
        | true ↦ λ u z. let p : n.1 ≡ o = cc z in inl (ap (λ t. (t, o)) (eq.0 k n.0 u) ∙ ap (λ t. (n.0, t)) (sym p))
        | false ↦ λ u z. inr (noted_member notes k o z)
      ]) refl e

  pub true_notes : (notes : List (Claim K O)) → first_stray same same_outcome allowed program [] notes ≡ None → IsTrueTable program (noted same notes)
  true_notes notes e k o h = all_true [] notes (λ j x z. absurd (cc z)) e (k, o) (noted_member notes k o h)

  pub free_none : (notes : List (Claim K O)) (loops ks : List K) → first_free same same_outcome allowed program notes loops ks ≡ None → (k : K) → Member k ks → waits same same_outcome allowed program notes loops k ≡ true
  free_none notes loops [] e k m = absurd m
  free_none notes loops (x ∷ ks) e k (inl d) = let p = stray_none (waits same same_outcome allowed program notes loops x) _ e in subst (λ u. waits same same_outcome allowed program notes loops u ≡ true) (sym d) p.0
  free_none notes loops (x ∷ ks) e k (inr m) = let p = stray_none (waits same same_outcome allowed program notes loops x) _ e in free_none notes loops ks p.1 k m

  pub needs_member : (loops : List K) (e : Found K O) → waits_among same loops e ≡ true → (j : K) × (e ≡ Need j) × Member j loops
  needs_member loops (Ready o) t = absurd (cc t)
  needs_member loops (Need j) t = (j, refl, seen_member same eq loops j t)

  -- keys of which each waits for one of them loop
  pub all_loop : (notes : List (Claim K O)) (loops : List K) → IsTrueTable program (noted same notes) → first_free same same_outcome allowed program notes loops loops ≡ None → (k : K) → Member k loops → Loops program k
  all_loop notes loops t e = circle_loops program (λ k. Member k loops) by
    where
      by : (k : K) → Member k loops → (j : K) × IsAsked program (program k) j × Member j loops
      by k m =
          let f = noted same notes in
          let p = both (allowed k) _ (free_none notes loops loops e k m) in
          let (j, d, i) = needs_member loops (found f (program k)) p.1 in
          (j, needs_asked program (subst (λ u. Path (Has program) (λ x. f x ≡ None) (program k) (asked f (program k)) (looked f (program k)) u) d (true_path program f t (program k))), i)
