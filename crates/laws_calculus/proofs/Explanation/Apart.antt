-- Claims that follow one from another are of distinct keys.
use Rattle.std.proofs.Common.{◌≡◌, inl, inr, List, [], ◌∷◌, map, Bool, true, false, cond, Option, Some, None, refl, sym, subst}
use Rattle.gl_calculus.specs.Computation.Lists.{Member, AreDistinct, IsEquality}
use Rattle.gl_calculus.specs.Computation.Query.{Query}
use Rattle.gl_calculus.specs.Evaluation.Key.{same_key}
use Rattle.gl_calculus.specs.Evaluation.SameOutcome.{same_outcome}
use Rattle.gl_calculus.specs.Evaluation.Evaluation.{program}
use Rattle.gl_calculus.proofs.Tests.{key_equality}
use Rattle.laws_calculus.proofs.Calculus.OutcomeTests.{outcome_equality}
use Rattle.gl_calculus.specs.Explanation.Walk.{Claim, noted, follows, is_unnoted, first_stray}
use Rattle.gl_calculus.specs.Explanation.Certificate.{is_proper}
use Rattle.laws_calculus.specs.Explanation.{ClaimsOnce}
use Rattle.laws_calculus.proofs.Explanation.Claims.{both, stray_none}
use Rattle.laws_calculus.proofs.Explanation.Explaining.{judged_parts}

module _ {K O A : Type 0} (same : K → K → Bool) (same_outcome : O → O → Bool) (allowed : K → Bool) (program : K → Query K O A O) (eq : IsEquality same) (eq_outcome : IsEquality same_outcome) where
  abbrev keys : List (Claim K O) → List K
  keys ns = map (λ n. n.0) ns

  is_none : (o : Option O) → is_unnoted o ≡ true → o ≡ None
  is_none None e = refl
  is_none (Some o) e = absurd (cc e)

  -- what is claimed of no key by one claim more was claimed of none before
  less : (b : Bool) (o : O) (p : Option O) → cond b (Some o) p ≡ None → p ≡ None
  less true o p e = absurd (cc e)
  less false o p e = e

  -- what the later claims are of has no claim before them
  later_free : (before notes : List (Claim K O)) → first_stray same same_outcome allowed program before notes ≡ None → (k : K) → Member k (keys notes) → noted same before k ≡ None
  later_free before [] e k m = absurd m
  later_free before (x ∷ notes) e k (inl d) =
      let p = stray_none same same_outcome allowed program eq eq_outcome (follows same same_outcome allowed program before x) _ e in
      let q = both (allowed x.0) _ p.0 in
      subst (λ t. noted same before t ≡ None) (sym d) (is_none (noted same before x.0) (both (is_unnoted (noted same before x.0)) _ q.1).0)
  later_free before (x ∷ notes) e k (inr m) =
      let p = stray_none same same_outcome allowed program eq eq_outcome (follows same same_outcome allowed program before x) _ e in
      less (same k x.0) x.1 (noted same before k) (later_free (x ∷ before) notes p.1 k m)

  pub are_apart : (before notes : List (Claim K O)) → first_stray same same_outcome allowed program before notes ≡ None → AreDistinct (keys notes)
  are_apart before [] e = tt
  are_apart before (x ∷ notes) e = (λ m. again (later_free (x ∷ before) notes p.1 x.0 m), are_apart (x ∷ before) notes p.1)
    where
      p : (follows same same_outcome allowed program before x ≡ true) × (first_stray same same_outcome allowed program (x ∷ before) notes ≡ None)
      p = stray_none same same_outcome allowed program eq eq_outcome (follows same same_outcome allowed program before x) _ e

      again : noted same (x ∷ before) x.0 ≡ None → ⊥
      again z = let y : Some x.1 ≡ None = rw (eq.1 x.0) at z in absurd (cc y)

pub claims_once : ClaimsOnce
claims_once W a c e = are_apart same_key same_outcome (is_proper W.sheet) (program W) key_equality outcome_equality [] c.notes (judged_parts _ _ _ e).0
