-- The laws that public functions state.
use Rattle.std.proofs.Common.{◌≡◌, IsTrue, List, [], ◌∷◌, inl, inr, Option, Some, None, refl, subst, sym}
use Rattle.gl_calculus.specs.Computation.Lists.{Member}
use Rattle.gl_calculus.specs.Computation.Query.{Query, Return, Look, Ask, Ready, Need, next, found, asked, IsAsked, EachAsked, look, ask}
use Rattle.gl_calculus.specs.Computation.Demanded.{Demanded, Seed, Read}
use Rattle.laws_calculus.proofs.Query.Asked.{Keeps, keeps_return, keeps_look, keeps_ask, kept_outcome}
use Rattle.gl_calculus.specs.Grid.Grid.{Range}
use Rattle.gl_calculus.specs.Evaluation.Key.{Key, Outcome}
use Rattle.gl_calculus.specs.Evaluation.Evaluation.{program}
use Rattle.gl_calculus.specs.Evaluation.Sound.{is_sound_key, IsProperKey}
use Rattle.laws_calculus.proofs.Calculus.Proved.{asks_proper}
use Rattle.laws_calculus.specs.Sound.{IsSoundOutcome, SoundOutcomes, SoundDemands, SoundReads}
use Rattle.laws_calculus.proofs.Sound.Evaluation.{keeps_sound}

-- ---- walks over known outcomes

module _ {K O A R : Type 0} (P : K → Type 0) (known : K → Option O) where
  -- what every answer keeps holds of each key that is asked for
  pub each_asked : (q : Query K O A R) (j : K) → EachAsked P q → Member j (asked known q) → P j
  each_asked (Return r) j e m = absurd m
  each_asked (Look a q) j (look e) m = each_asked q j e m
  each_asked (Ask k c) j (ask p e) (inl s) = subst P (sym s) p
  each_asked (Ask k c) j (ask p e) (inr m) =
      (elim (known k) as (λ v. Member j (next [] v (λ o. asked known (c o))) → P j) [ None ↦ λ n. absurd n | Some o ↦ λ n. each_asked (c o) j (e o) n ]) m

  -- the key that is needed is one that is asked for
  pub need_asked : (q : Query K O A R) (j : K) → found known q ≡ Need j → Member j (asked known q)
  need_asked (Return r) j e = absurd (cc e)
  need_asked (Look a q) j e = need_asked q j e
  need_asked (Ask k c) j e =
      (elim (known k) as (λ v. next (Need k) v (λ o. found known (c o)) ≡ Need j → Member j (k ∷ next [] v (λ o. asked known (c o)))) [
        | None ↦ λ n. inl (cc n)
        | Some o ↦ λ n. inr (need_asked (c o) j n)
      ]) e

module _ {K O A R : Type 0} (P : K → Type 0) (T : K → O → Type 0) (known : K → Option O) (true_answers : (k : K) (o : O) → P k → known k ≡ Some o → T k o) where
  pub kept_ready : (Q : R → Type 0) (q : Query K O A R) (r : R) → Keeps P T Q q → found known q ≡ Ready r → Q r
  kept_ready Q (Return x) r (keeps_return e) s = subst Q (cc s) e
  kept_ready Q (Look a q) r (keeps_look e) s = kept_ready Q q r e s
  kept_ready Q (Ask k c) r (keeps_ask p e) s =
      (elim (known k) as (λ v. known k ≡ v → next (Need k) v (λ o. found known (c o)) ≡ Ready r → Q r) [
        | None ↦ λ u z. absurd (cc z)
        | Some o ↦ λ u z. kept_ready Q (c o) r (e o (true_answers k o p u)) z
      ]) refl s

  pub kept_asked : (Q : R → Type 0) (q : Query K O A R) (j : K) → Keeps P T Q q → Member j (asked known q) → P j
  kept_asked Q (Return r) j e m = absurd m
  kept_asked Q (Look a q) j (keeps_look e) m = kept_asked Q q j e m
  kept_asked Q (Ask k c) j (keeps_ask p e) (inl s) = subst P (sym s) p
  kept_asked Q (Ask k c) j (keeps_ask p e) (inr m) =
      (elim (known k) as (λ v. known k ≡ v → Member j (next [] v (λ o. asked known (c o))) → P j) [
        | None ↦ λ u n. absurd n
        | Some o ↦ λ u n. kept_asked Q (c o) j (e o (true_answers k o p u)) n
      ]) refl m

-- ---- walks over true outcomes

module _ {K O A : Type 0} (program : K → Query K O A O) (P : K → Type 0) (T : K → O → Type 0) (keeps : (k : K) → P k → Keeps P T (T k) (program k)) where
  kept_read : (Q : O → Type 0) (q : Query K O A O) (j : K) → Keeps P T Q q → IsAsked program q j → P j
  kept_read Q (Return r) j e i = absurd i
  kept_read Q (Look a q) j (keeps_look e) i = kept_read Q q j e i
  kept_read Q (Ask k c) j (keeps_ask p e) (inl s) = subst P (sym s) p
  kept_read Q (Ask k c) j (keeps_ask p e) (inr (o, h, i)) = kept_read Q (c o) j (e o (kept_outcome program P T keeps k o p h)) i

  pub kept_demanded : (seeds : List K) → ((k : K) → Member k seeds → P k) → {j : K} → Demanded program seeds j → P j
  kept_demanded seeds s (Seed m) = s _ m
  kept_demanded seeds s (Read {k = k} {j = j} d i) = kept_read (T k) (program k) j (keeps k (kept_demanded seeds s d)) i

-- ---- the laws

pub sound_outcomes : SoundOutcomes
sound_outcomes W k o fit h has = kept_outcome (program W) (λ j. IsTrue (is_sound_key j)) IsSoundOutcome (keeps_sound W.sheet W.oracle fit W.version) k o h has

pub sound_demands : SoundDemands
sound_demands W seeds k fit s d = kept_demanded (program W) (λ j. IsTrue (is_sound_key j)) IsSoundOutcome (keeps_sound W.sheet W.oracle fit W.version) seeds s d

pub sound_reads : SoundReads
sound_reads W known k fit answers h = (
  λ o e. kept_ready P IsSoundOutcome known answers (IsSoundOutcome k) q o keeps e,
  λ j e. reads j (need_asked P known q j e),
  reads,
)
  where
    P : Key → Type 0
    P j = IsTrue (is_sound_key j)

    q : Query Key Outcome Range Outcome
    q = program W k

    keeps : Keeps P IsSoundOutcome (IsSoundOutcome k) q
    keeps = keeps_sound W.sheet W.oracle fit W.version k h

    reads : (j : Key) → Member j (asked known q) → IsTrue (is_sound_key j) × IsProperKey W.sheet j
    reads j m = (kept_asked P IsSoundOutcome known answers (IsSoundOutcome k) q j keeps m, each_asked (IsProperKey W.sheet) known q j (asks_proper W k) m)
