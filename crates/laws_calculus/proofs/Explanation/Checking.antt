-- What a check finds that goes through claims and keys one after the other.
use Rattle.std.proofs.Common.{◌≡◌, ℕ, suc, ◌+◌, List, [], ◌∷◌, ◌++◌, Bool, true, false, cond, Option, Some, None, option_map, refl, sym, ap, subst, ◌∙◌, append_assoc}
use Rattle.std.proofs.lemmas.List.{append-nil}
use Rattle.gl_calculus.specs.Computation.Lists.{IsEquality, has_member}
use Rattle.gl_calculus.specs.Computation.Query.{Query, Found, Ready, Need, found}
use mathlib.Core.Path.{fun_ext}
use Rattle.gl_calculus.specs.Explanation.Walk.{Claim, noted, is_unnoted, comes_to, follows, first_stray, waits_among, waits, first_free}
use Rattle.laws_calculus.proofs.Explanation.Numbering.{further, first_further, passes, fails}

module _ {K O : Type 0} (same : K → K → Bool) (eq : IsEquality same) where
  -- a claim of a key without one may stand last or first
  last_at : (done : List (Claim K O)) (n : Claim K O) (k : K) → noted same done n.0 ≡ None → noted same (done ++ n ∷ []) k ≡ noted same (n ∷ done) k
  last_at [] n k e = refl
  last_at (d ∷ ds) n k e = by (same k d.0) (same n.0 d.0) (same k n.0) refl refl refl e (last_at ds n k)
    where
      by : (b c t : Bool) → same k d.0 ≡ b → same n.0 d.0 ≡ c → same k n.0 ≡ t → cond c (Some d.1) (noted same ds n.0) ≡ None →
          (noted same ds n.0 ≡ None → noted same (ds ++ n ∷ []) k ≡ cond (same k n.0) (Some n.1) (noted same ds k)) →
          cond b (Some d.1) (noted same (ds ++ n ∷ []) k) ≡ cond t (Some n.1) (cond b (Some d.1) (noted same ds k))
      by b true t p q r z h = absurd (cc z)
      by true false true p q r z h =
          let u : same n.0 d.0 ≡ true = subst (λ x. same x d.0 ≡ true) (eq.0 k n.0 r) p in
          absurd (cc (u, q))
      by true false false p q r z h = refl
      by false false t p q r z h = h z ∙ ap (λ b. cond b (Some n.1) (noted same ds k)) r

  pub last_first : (done : List (Claim K O)) (n : Claim K O) → noted same done n.0 ≡ None → noted same (done ++ n ∷ []) ≡ noted same (n ∷ done)
  last_first done n e = fun_ext (λ k. last_at done n k e)

module _ {K O A : Type 0} (same : K → K → Bool) (same_outcome : O → O → Bool) (allowed : K → Bool) (program : K → Query K O A O) (eq : IsEquality same) where
  -- whether a claim follows is told by the table of those before it
  abbrev follows_over : (K → Option O) → Claim K O → Bool
  follows_over f n = cond (allowed n.0) (cond (is_unnoted (f n.0)) (comes_to same_outcome n.1 (found f (program n.0))) false) false

  -- so many claims were passed: those done, before the rest
  pub record Passed (all done rest : List (Claim K O)) (i : ℕ) : Type 0 where
    pub before : List (Claim K O)
    pub table : noted same before ≡ noted same done
    pub whole : first_stray same same_outcome allowed program [] all ≡ further i (first_stray same same_outcome allowed program before rest)
    pub parts : done ++ rest ≡ all

  pub none_passed : (all : List (Claim K O)) → Passed all [] all 0
  none_passed all = record { before = []; table = refl; whole = first_further _; parts = refl }

  seen : (all done rest : List (Claim K O)) (n : Claim K O) (i : ℕ) (p : Passed all done (n ∷ rest) i) → follows same same_outcome allowed program p.before n ≡ follows same same_outcome allowed program done n
  seen all done rest n i p = ap (λ f. follows_over f n) p.table

  free_of : (done : List (Claim K O)) (n : Claim K O) → follows same same_outcome allowed program done n ≡ true → noted same done n.0 ≡ None
  free_of done n e = by (allowed n.0) (noted same done n.0) e
    where
      by : (b : Bool) (o : Option O) → cond b (cond (is_unnoted o) (comes_to same_outcome n.1 (found (noted same done) (program n.0))) false) false ≡ true → o ≡ None
      by true None z = refl
      by true (Some o) z = absurd (cc z)
      by false o z = absurd (cc z)

  pub one_passed : (all done rest : List (Claim K O)) (n : Claim K O) (i : ℕ) → Passed all done (n ∷ rest) i → follows same same_outcome allowed program done n ≡ true → Passed all (done ++ n ∷ []) rest (i + 1)
  one_passed all done rest n i p e = record {
    before = n ∷ p.before;
    table = ap (λ f k. cond (same k n.0) (Some n.1) (f k)) p.table ∙ sym (last_first same eq done n (free_of done n e));
    whole = passes _ (first_stray same same_outcome allowed program (n ∷ p.before) rest) (follows same same_outcome allowed program p.before n) i (seen all done rest n i p ∙ e) p.whole;
    parts = append_assoc done (n ∷ []) rest ∙ p.parts;
  }

  pub one_strays : (all done rest : List (Claim K O)) (n : Claim K O) (i : ℕ) → Passed all done (n ∷ rest) i → follows same same_outcome allowed program done n ≡ false → first_stray same same_outcome allowed program [] all ≡ Some i
  one_strays all done rest n i p e = fails _ (first_stray same same_outcome allowed program (n ∷ p.before) rest) (follows same same_outcome allowed program p.before n) i (seen all done rest n i p ∙ e) p.whole

  pub all_passed : (all done : List (Claim K O)) (i : ℕ) → Passed all done [] i → (first_stray same same_outcome allowed program [] all ≡ None) × (done ≡ all)
  all_passed all done i p = (p.whole, sym (append-nil done) ∙ p.parts)

  -- ---- keys that wait

  -- which keys wait is told by which are among the loops
  waits_same : (notes : List (Claim K O)) (ls ms : List K) → ((j : K) → has_member same j ls ≡ has_member same j ms) → (k : K) → waits same same_outcome allowed program notes ls k ≡ waits same same_outcome allowed program notes ms k
  waits_same notes ls ms h k = ap (λ b. cond (allowed k) b false) (by (found (noted same notes) (program k)))
    where
      by : (f : Found K O) → waits_among same ls f ≡ waits_among same ms f
      by (Ready o) = refl
      by (Need j) = h j

  pub free_same : (notes : List (Claim K O)) (ls ms : List K) → ((j : K) → has_member same j ls ≡ has_member same j ms) → (ks : List K) → first_free same same_outcome allowed program notes ls ks ≡ first_free same same_outcome allowed program notes ms ks
  free_same notes ls ms h [] = refl
  free_same notes ls ms h (k ∷ ks) =
      ap (λ b. cond b (option_map suc (first_free same same_outcome allowed program notes ls ks)) (Some 0)) (waits_same notes ls ms h k)
      ∙ ap (λ o. cond (waits same same_outcome allowed program notes ms k) (option_map suc o) (Some 0)) (free_same notes ls ms h ks)
