-- What holds of each key that is asked for holds of each key that is demanded.
use Rattle.std.proofs.Common.{◌≡◌, ℕ, zero, suc, List, inl, inr, Option, Some, None, refl, subst, sym}
use Rattle.gl_calculus.specs.Computation.Lists.{Member}
use Rattle.gl_calculus.specs.Computation.Query.{Query, Return, Look, Ask, next, run, val, Has, IsAsked, EachAsked, no_ask, look, ask}
use Rattle.gl_calculus.specs.Computation.Evaluation.{Evaluation, Done, LookAt, Demand, bind, given}
use Rattle.gl_calculus.specs.Computation.Demanded.{Demanded, Seed, Read}

module _ {K O A : Type 0} (program : K → Query K O A O) (P : K → Type 0) where
  pub asked_has : (q : Query K O A O) (j : K) → IsAsked program q j → EachAsked P q → P j
  asked_has (Return r) j i e = absurd i
  asked_has (Look a q) j i (look e) = asked_has q j i e
  asked_has (Ask k c) j (inl s) (ask p e) = subst P (sym s) p
  asked_has (Ask k c) j (inr (o, h, i)) (ask p e) = asked_has (c o) j i (e o)

  pub demanded_has : (seeds : List K) → ((k : K) → Member k seeds → P k) → ((k : K) → P k → EachAsked P (program k)) → {j : K} → Demanded program seeds j → P j
  demanded_has seeds s h (Seed m) = s _ m
  demanded_has seeds s h (Read {k = k} {j = j} d i) = asked_has (program k) j i (h k (demanded_has seeds s h d))

-- The query asks only keys with one property, and returns only results with another, where each answer has a third.
pub data Keeps {K O A R : Type 0} (P : K → Type 0) (T : K → O → Type 0) (Q : R → Type 0) : Query K O A R → Type 0 where
  keeps_return : {r : R} → Q r → Keeps P T Q (Return r)
  keeps_look : {a : A} {q : Query K O A R} → Keeps P T Q q → Keeps P T Q (Look a q)
  keeps_ask : {k : K} {c : O → Query K O A R} → P k → ((o : O) → T k o → Keeps P T Q (c o)) → Keeps P T Q (Ask k c)

pub keeps_bind : {K O A F R S : Type 0} (P : K → Type 0) (T : K → O → Type 0) (Q : R → Type 0) (Q' : S → Type 0) (facts : A → F) (p : Evaluation K O A F R) (g : R → Evaluation K O A F S) →
    Keeps P T Q (given facts p) → ((r : R) → Q r → Keeps P T Q' (given facts (g r))) → Keeps P T Q' (given facts (bind p g))
keeps_bind P T Q Q' facts (Done r) g (keeps_return e) h = h r e
keeps_bind P T Q Q' facts (LookAt a c) g (keeps_look e) h = keeps_look (keeps_bind P T Q Q' facts (c (facts a)) g e h)
keeps_bind P T Q Q' facts (Demand k c) g (keeps_ask p e) h = keeps_ask p (λ o t. keeps_bind P T Q Q' facts (c o) g (e o t) h)

-- where each answer has the property, each key that is asked for has its own
pub keeps_asked : {K O A R : Type 0} (P : K → Type 0) (T : K → O → Type 0) (Q : R → Type 0) (q : Query K O A R) → ((k : K) (o : O) → T k o) → Keeps P T Q q → EachAsked P q
keeps_asked P T Q (Return r) t (keeps_return e) = no_ask
keeps_asked P T Q (Look a q) t (keeps_look e) = look (keeps_asked P T Q q t e)
keeps_asked P T Q (Ask k c) t (keeps_ask p e) = ask p (λ o. keeps_asked P T Q (c o) t (e o (t k o)))

-- where each program keeps them, so does each outcome
module _ {K O A : Type 0} (program : K → Query K O A O) (P : K → Type 0) (T : K → O → Type 0) (keeps : (k : K) → P k → Keeps P T (T k) (program k)) where
  kept_run : {Q : O → Type 0} (f : K → Option O) → ((k : K) (o : O) → P k → f k ≡ Some o → T k o) → (q : Query K O A O) (r : O) → Keeps P T Q q → run f q ≡ Some r → Q r
  kept_run {Q} f h (Return x) r (keeps_return e) s = subst Q (cc s) e
  kept_run f h (Look a q) r (keeps_look e) s = kept_run f h q r e s
  kept_run {Q} f h (Ask k c) r (keeps_ask p e) s =
      (elim (f k) as (λ v. f k ≡ v → next None v (λ o. run f (c o)) ≡ Some r → Q r) [
        | None ↦ λ u z. absurd (cc z)
        | Some o ↦ λ u z. kept_run f h (c o) r (e o (h k o p u)) z
      ]) refl s

  kept_val : (n : ℕ) (k : K) (o : O) → P k → val program n k ≡ Some o → T k o
  kept_val zero k o p e = absurd (cc e)
  kept_val (suc n) k o p e = kept_run (val program n) (kept_val n) (program k) o (keeps k p) e

  pub kept_outcome : (k : K) (o : O) → P k → Has program k o → T k o
  kept_outcome k o p (n, e) = kept_val n k o p e
