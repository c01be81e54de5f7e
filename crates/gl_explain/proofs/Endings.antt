-- What is made of a walk that has ended.
use Rattle.std.proofs.Common.{◌≡◌, ◌⊎◌, ℕ, ◌+◌, ◌≤◌, List, [], ◌∷◌, length, map, Bool, true, false, Option, Some, None, IsTrue, refl, sym, ap, subst, ◌∙◌, inl, inr, arith}
use Rattle.gl_calculus.specs.Computation.Lists.{Member, has_member}
use Rattle.gl_calculus.specs.Computation.Demanded.{Demanded}
use Rattle.gl_calculus.specs.Grid.Limits.{max_demanded}
use Rattle.gl_calculus.specs.Grid.Grid.{Addr}
use Rattle.gl_calculus.specs.Values.Value.{Oracle, Top}
use Rattle.gl_calculus.specs.Formulas.Formula.{Cells, content}
use Rattle.gl_calculus.specs.Evaluation.Key.{Key, Cell, Budget, Outcome, Settled, Abort, same_key}
use Rattle.gl_calculus.specs.Evaluation.SameOutcome.{same_outcome}
use Rattle.gl_calculus.specs.Evaluation.Sound.{is_sound_key, is_outcome_of}
use Rattle.gl_calculus.specs.Evaluation.World.{World}
use Rattle.gl_calculus.specs.Evaluation.Evaluation.{program}
use Rattle.laws_calculus.proofs.Calculus.OutcomeTests.{outcome_equality}
use Rattle.laws_calculus.proofs.Calculus.Proper.{asks_proper}
use Rattle.gl_calculus.proofs.Tests.{key_equality}
use Rattle.gl_calculus.specs.Explanation.Walk.{Claim, noted, Walked, Explained, Exhausted, IsWalk}
use Rattle.gl_calculus.specs.Explanation.Certificate.{Certificate, Cert, Work, Aborts, work, aborts, cert, key_at, start, says, shown_by_key, shown_by_note, IsWalked, is_proper}
use Rattle.gl_calculus.specs.Steps.Allowance.{Allows}
use Rattle.gl_calculus.specs.Steps.Walk.{IsExplainedKey}
use Rattle.laws_calculus.proofs.Calculus.Allowances.{no_steps}
use Rattle.laws_calculus.proofs.Explanation.Explaining.{asks_test, root_proper, decides}
use Rattle.laws_calculus.proofs.Explanation.Few.{walk_few}
use Rattle.laws_calculus.proofs.Explanation.Walks as Wa
use Rattle.gl_demand.specs.Sound.{IsSoundTable, AreSoundKeys}
use Rattle.gl_explain.specs.Walked.{IsExplained}
use Rattle.gl_explain.specs.Walking.{HasEnded, IsFull}

pub root_sound : (S : Cells) (w : Oracle) (a : Addr) (k : Key) → key_at S w a ≡ Some k → IsTrue (is_sound_key k)
root_sound S w a k e = let (b, f, d, h) = decides S w a k e in subst (λ x. IsTrue (is_sound_key x)) (sym d) refl

pub few_ended : (W : World) (root : Key) (n m : ℕ) (done : List (Claim Key Outcome)) (up : List Key) → HasEnded W root n m done up → length done + length up ≤ max_demanded
few_ended W root n m done up h = by h.walked
  where
    by : IsWalk same_key max_demanded (program W) (root ∷ []) (Explained done up) → length done + length up ≤ max_demanded
    by (i, e) = walk_few same_key max_demanded (program W) i [] (root ∷ []) (Explained done up) (omega arith) e

module _ (W : World) (a : Addr) (root : Key) (decided : key_at W.sheet W.oracle a ≡ Some root) where
  from_start : (r : Walked Key Outcome) → IsWalk same_key max_demanded (program W) (root ∷ []) r → IsWalked W a r
  from_start r h = subst (λ o. IsWalk same_key max_demanded (program W) (start o) r) (sym decided) h

  rooted : (done : List (Claim Key Outcome)) (up : List Key) → IsWalk same_key max_demanded (program W) (root ∷ []) (Explained done up) →
      ((o : Outcome) × (noted same_key done root ≡ Some o)) ⊎ (Member root up × (noted same_key done root ≡ None))
  rooted done up (i, e) = (Wa.walk_finds same_key same_outcome (is_proper W.sheet) max_demanded (program W) key_equality outcome_equality (λ k. asks_test W.sheet (asks_proper W.sheet W.oracle W.version k)) root (root_proper W.sheet W.oracle a root decided) i (Explained done up) e).rooted

  says_by : (done : List (Claim Key Outcome)) (up : List Key) → says W.sheet W.oracle a done up ≡ shown_by_note W.oracle a (content W.sheet a) (noted same_key done root) (has_member same_key root up)
  says_by done up = ap (shown_by_key W.oracle a (content W.sheet a) done up) decided

  -- where the key that decides spends no budget, something is said
  pub says_some : (n m : ℕ) (done : List (Claim Key Outcome)) (up : List Key) → HasEnded W root n m done up → ((b : Budget) → noted same_key done root ≡ Some (Abort b) → ⊥) → IsSoundTable (noted same_key done) → says W.sheet W.oracle a done up ≡ None → ⊥
  says_some n m done up h free sound e = by (rooted done up h.walked)
    where
      no : (o : Option Outcome) (b : Bool) → noted same_key done root ≡ o → has_member same_key root up ≡ b → shown_by_note W.oracle a (content W.sheet a) o b ≡ None
      no o b p q = ap (λ x. shown_by_note W.oracle a (content W.sheet a) x b) (sym p) ∙ ap (shown_by_note W.oracle a (content W.sheet a) (noted same_key done root)) (sym q) ∙ sym (says_by done up) ∙ e

      of : (o : Outcome) → noted same_key done root ≡ Some o → ⊥
      of (Outcome.Value v) p = let z = no (Some (Outcome.Value v)) (has_member same_key root up) p refl in absurd (cc z)
      of (Settled s) p =
          let (b, f, d, c) = decides W.sheet W.oracle a root decided in
          let z : IsTrue (is_outcome_of (Cell Top b) (Settled s)) = subst (λ x. IsTrue (is_outcome_of x (Settled s))) d (sound root (Settled s) p).1 in
          absurd (cc z)
      of (Abort b) p = free b p

      by : ((o : Outcome) × (noted same_key done root ≡ Some o)) ⊎ (Member root up × (noted same_key done root ≡ None)) → ⊥
      by (inl (o, p)) = of o p
      by (inr (m, p)) =
          let i : has_member same_key root up ≡ true = Wa.member_has same_key same_outcome (is_proper W.sheet) max_demanded (program W) key_equality outcome_equality (λ k. asks_test W.sheet (asks_proper W.sheet W.oracle W.version k)) root (root_proper W.sheet W.oracle a root decided) up root m in
          let z = no None true p i in
          absurd (cc z)

  pub explained_abort : (n m : ℕ) (done : List (Claim Key Outcome)) (up : List Key) (b : Budget) → HasEnded W root n m done up → noted same_key done root ≡ Some (Abort b) → IsExplained W a n m (Aborts b)
  explained_abort n m done up b h e = record {
    explains = aborts (from_start (Explained done up) h.walked) decided e;
    sound = λ c z. absurd (cc z);
    allows = (done, up, from_start (Explained done up) h.walked, h.allows);
  }

  pub explained_cert : (n m : ℕ) (done : List (Claim Key Outcome)) (up : List Key) (t : Certificate) → HasEnded W root n m done up → t.notes ≡ done → t.loops ≡ up → says W.sheet W.oracle a done up ≡ Some t.shown →
      AreSoundKeys (map (λ k. k.0) done) → AreSoundKeys up → IsExplained W a n m (Cert t)
  explained_cert n m done up t h p q s f g = record {
    explains = cert {notes = t.notes} {loops = t.loops} {x = t.shown} (subst (λ x. IsWalked W a (Explained x t.loops)) (sym p) (subst (λ x. IsWalked W a (Explained done x)) (sym q) (from_start (Explained done up) h.walked)))
        (ap (λ x. says W.sheet W.oracle a x t.loops) p ∙ ap (says W.sheet W.oracle a done) q ∙ s);
    sound = λ c z. let d : t ≡ c = cc z in subst (λ c. AreSoundKeys (map (λ k. k.0) c.notes) × AreSoundKeys c.loops) d (subst (λ x. AreSoundKeys (map (λ k. k.0) x)) (sym p) f, subst AreSoundKeys (sym q) g);
    allows = subst (λ x. Allows W (IsExplainedKey W x t.loops) n m) (sym p) (subst (λ x. Allows W (IsExplainedKey W done x) n m) (sym q) h.allows);
  }

  pub explained_work : (n m : ℕ) → IsFull W root n m → IsExplained W a n m Work
  explained_work n m h = record {
    explains = work (from_start Exhausted h.walked);
    sound = λ c z. absurd (cc z);
    allows = subst (λ o. Allows W (Demanded (program W) (start o)) n m) (sym decided) h.allows;
  }

pub explained_plain : (W : World) (a : Addr) (n : ℕ) (t : Certificate) → key_at W.sheet W.oracle a ≡ None → t.notes ≡ [] → t.loops ≡ [] → says W.sheet W.oracle a [] [] ≡ Some t.shown → IsExplained W a n n (Cert t)
explained_plain W a n t e p q s = record {
  explains = cert {notes = t.notes} {loops = t.loops} {x = t.shown} (subst (λ x. IsWalked W a (Explained x t.loops)) (sym p) (subst (λ x. IsWalked W a (Explained [] x)) (sym q) walked))
      (ap (λ x. says W.sheet W.oracle a x t.loops) p ∙ ap (says W.sheet W.oracle a []) q ∙ s);
  sound = λ c z. let d : t ≡ c = cc z in subst (λ c. AreSoundKeys (map (λ k. k.0) c.notes) × AreSoundKeys c.loops) d (subst (λ x. AreSoundKeys (map (λ k. k.0) x)) (sym p) none, subst AreSoundKeys (sym q) none);
  allows = no_steps W (IsExplainedKey W t.notes t.loops) n;
}
  where
    none : AreSoundKeys []
    none k m = absurd m

    walked : IsWalked W a (Explained [] [])
    walked = subst (λ o. IsWalk same_key max_demanded (program W) (start o) (Explained [] [])) (sym e) (1, refl)
