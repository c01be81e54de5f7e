-- Each address has an explanation.
use Rattle.std.proofs.Common.{◌≡◌, ◌⊎◌, inl, inr, ℕ, zero, suc, ◌+◌, ◌*◌, ◌-◌, ◌==◌, ◌<◌, ◌≤◌, List, [], ◌∷◌, length, reverse, Bool, true, false, cond, Option, Some, None, IsTrue, refl, sym, ap, ◌∙◌, subst, arith}
use Rattle.std.proofs.lemmas.Bool.{eqb-false}
use Rattle.gl_calculus.specs.Computation.Lists.{Member, has_member}
use Rattle.gl_calculus.specs.Computation.Query.{Query, Found, Ready, Need, found}
use Rattle.gl_calculus.specs.Grid.Limits.{max_demanded}
use Rattle.gl_calculus.specs.Grid.Grid.{Addr}
use Rattle.gl_calculus.specs.Values.Value.{Top}
use Rattle.gl_calculus.specs.Formulas.Formula.{content}
use Rattle.gl_calculus.specs.Formulas.Fit.{AreFit}
use Rattle.gl_calculus.specs.Evaluation.Key.{Key, Cell, same_key, Outcome, Settled, Abort}
use Rattle.gl_calculus.specs.Evaluation.Sound.{is_sound_key, is_outcome_of}
use Rattle.gl_calculus.specs.Evaluation.SameOutcome.{same_outcome}
use Rattle.gl_calculus.specs.Evaluation.World.{World}
use Rattle.gl_calculus.specs.Evaluation.Evaluation.{program}
use Rattle.gl_calculus.proofs.Tests.{key_equality}
use Rattle.gl_calculus.specs.Calculation.Calculation.{Shown}
use Rattle.gl_calculus.specs.Explanation.Walk.{Claim, noted, Walked, Explained, Exhausted, turn, walk}
use Rattle.gl_calculus.specs.Explanation.Certificate.{Answer, Cert, Work, Aborts, Explains, work, aborts, cert, start, key_at, says, shown_by_key, shown_by_note, value_shown, loop_shown, constant_shown, is_proper, IsWalked}
use Rattle.laws_calculus.specs.Explanation.{SomeExplanation}
use Rattle.laws_calculus.proofs.Calculus.OutcomeTests.{outcome_equality}
use Rattle.laws_calculus.proofs.Calculus.Proper.{asks_proper}
use Rattle.laws_calculus.proofs.Sound.Proved.{sound_outcomes}
use Rattle.laws_calculus.proofs.Explanation.Claims.{true_notes}
use Rattle.laws_calculus.proofs.Explanation.Explaining.{asks_test, decides, root_proper, finds}
use Rattle.laws_calculus.proofs.Explanation.Walks as Wa

-- ---- a walk ends

module _ {K O A : Type 0} (same : K → K → Bool) (limit : ℕ) (program : K → Query K O A O) where
  -- each turn takes something off the room that is left, twice, and the stack
  pub walk_ends : (n : ℕ) (notes : List (Claim K O)) (stack : List K) → length notes + length stack ≤ limit →
      2 * (limit - (length notes + length stack)) + length stack < n → (r : Walked K O) × (walk same limit program n notes stack ≡ Some r)
  walk_ends zero notes stack a b = absurd (omega (arith, b))
  walk_ends (suc n) notes [] a b = (Explained (reverse notes) [], refl)
  walk_ends (suc n) notes (k ∷ rest) a b =
      by (found (noted same notes) (program k)) refl
      (λ o. walk_ends n ((k, o) ∷ notes) rest (omega (arith, a)) (omega (arith, a, b)))
      (λ j d. walk_ends n notes (j ∷ k ∷ rest) (omega (arith, a, d)) (omega (arith, a, b, d)))
    where
      onto : (j : K) (p q : Bool) → (length notes + length (k ∷ rest) == limit) ≡ q → ((j : K) → (length notes + length (k ∷ rest) ≡ limit → ⊥) → (r : Walked K O) × (walk same limit program n notes (j ∷ k ∷ rest) ≡ Some r)) →
          (r : Walked K O) × (cond p (Some (Explained (reverse notes) (reverse (k ∷ rest)))) (cond q (Some Exhausted) (walk same limit program n notes (j ∷ k ∷ rest))) ≡ Some r)
      onto j true q e on = (Explained (reverse notes) (reverse (k ∷ rest)), refl)
      onto j false true e on = (Exhausted, refl)
      onto j false false e on = on j (eqb-false (length notes + length (k ∷ rest)) limit e)

      by : (f : Found K O) → found (noted same notes) (program k) ≡ f → ((o : O) → (r : Walked K O) × (walk same limit program n ((k, o) ∷ notes) rest ≡ Some r)) → ((j : K) → (length notes + length (k ∷ rest) ≡ limit → ⊥) → (r : Walked K O) × (walk same limit program n notes (j ∷ k ∷ rest) ≡ Some r)) → (r : Walked K O) × (walk same limit program (suc n) notes (k ∷ rest) ≡ Some r)
      by (Ready o) e off on = let (r, h) = off o in (r, ap (turn same limit program (walk same limit program n) notes k rest) e ∙ h)
      by (Need j) e off on =
          let (r, h) = onto j (has_member same j (k ∷ rest)) (length notes + length (k ∷ rest) == limit) refl on in
          (r, ap (turn same limit program (walk same limit program n) notes k rest) e ∙ h)

-- ---- what it says

module _ (W : World) (a : Addr) (fit : AreFit W.sheet) where
  certifies : (notes : List (Claim Key Outcome)) (loops : List Key) (x : Shown) → IsWalked W a (Explained notes loops) → says W.sheet W.oracle a notes loops ≡ Some x → (y : Answer) × Explains W a y
  certifies notes loops x h e = (Cert (record { notes = notes; loops = loops; shown = x }), cert {notes = notes} {loops = loops} {x = x} h e)

  module _ (notes : List (Claim Key Outcome)) (loops : List Key) (h : IsWalked W a (Explained notes loops)) (k : Key) (decided : key_at W.sheet W.oracle a ≡ Some k) where
    says_by : (o : Option Outcome) (b : Bool) → noted same_key notes k ≡ o → has_member same_key k loops ≡ b → says W.sheet W.oracle a notes loops ≡ shown_by_note W.oracle a (content W.sheet a) o b
    says_by o b p q =
        ap (shown_by_key W.oracle a (content W.sheet a) notes loops) decided
        ∙ ap (λ x. shown_by_note W.oracle a (content W.sheet a) x (has_member same_key k loops)) p
        ∙ ap (shown_by_note W.oracle a (content W.sheet a) o) q

    -- a cell has no outcome of a settling
    of_cell : (o : Outcome) → noted same_key notes k ≡ Some o → IsTrue (is_outcome_of k o)
    of_cell o e =
        let f = finds W a k decided (Explained notes loops) h in
        let t = true_notes same_key same_outcome (is_proper W.sheet) (program W) key_equality outcome_equality notes f.stray in
        let (b, g, d, c) = decides W.sheet W.oracle a k decided in
        (sound_outcomes W k o fit (subst (λ x. IsTrue (is_sound_key x)) (sym d) refl) (t k o e)).1

    by_note : (o : Option Outcome) (b : Bool) → noted same_key notes k ≡ o → has_member same_key k loops ≡ b → (y : Answer) × Explains W a y
    by_note (Some (Outcome.Value v)) b p q = certifies notes loops (Shown.Value (value_shown W.oracle a (content W.sheet a) v)) h (says_by (Some (Outcome.Value v)) b p q)
    by_note (Some (Abort u)) b p q = (Aborts u, aborts {k = k} {b = u} {notes = notes} {loops = loops} h decided p)
    by_note (Some (Settled s)) b p q =
        let (c, g, d, f) = decides W.sheet W.oracle a k decided in
        let no : IsTrue (is_outcome_of (Cell Top c) (Settled s)) = subst (λ x. IsTrue (is_outcome_of x (Settled s))) d (of_cell (Settled s) p) in
        absurd (cc no)
    by_note None true p q = certifies notes loops (loop_shown (content W.sheet a)) h (says_by None true p q)
    by_note None false p q = absurd (rooted (finds W a k decided (Explained notes loops) h).rooted)
      where
        rooted : ((o : Outcome) × (noted same_key notes k ≡ Some o)) ⊎ (Member k loops × (noted same_key notes k ≡ None)) → ⊥
        rooted (inl (o, e)) = let no : None ≡ Some o = sym p ∙ e in cc no
        rooted (inr (m, e)) =
            let i : has_member same_key k loops ≡ true = Wa.member_has same_key same_outcome (is_proper W.sheet) max_demanded (program W) key_equality outcome_equality (λ x. asks_test W.sheet (asks_proper W.sheet W.oracle W.version x)) k (root_proper W.sheet W.oracle a k decided) loops k m in
            let no : false ≡ true = sym q ∙ i in cc no

  by_walk : (r : Walked Key Outcome) → IsWalked W a r → (y : Answer) × Explains W a y
  by_walk Exhausted h = (Work, work h)
  by_walk (Explained notes loops) h = by (key_at W.sheet W.oracle a) refl
    where
      by : (o : Option Key) → key_at W.sheet W.oracle a ≡ o → (y : Answer) × Explains W a y
      by None e = certifies notes loops (constant_shown (content W.sheet a)) h (ap (shown_by_key W.oracle a (content W.sheet a) notes loops) e)
      by (Some k) e = by_note notes loops h k e (noted same_key notes k) (has_member same_key k loops) refl refl

pub some_explanation : SomeExplanation
some_explanation W a fit =
    let (r, e) = walk_ends same_key max_demanded (program W) (2 * max_demanded + 2) [] (start (key_at W.sheet W.oracle a)) (few (key_at W.sheet W.oracle a)) (room (key_at W.sheet W.oracle a)) in
    by_walk W a fit r (2 * max_demanded + 2, e)
  where
    few : (o : Option Key) → 0 + length (start o) ≤ max_demanded
    few None = omega arith
    few (Some k) = omega arith

    room : (o : Option Key) → 2 * (max_demanded - (0 + length (start o))) + length (start o) < 2 * max_demanded + 2
    room None = omega arith
    room (Some k) = omega arith
