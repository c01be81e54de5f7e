-- A state that begins with kept outcomes.
use Rattle.std.proofs.Common.{◌≡◌, ◌⊎◌, inl, inr, List, [], ◌∷◌, Bool, Option, Some, None, refl, sym, ap, ◌∙◌, subst}
use Rattle.gl_calculus.specs.Computation.Lists.{Member, IsEquality}
use Rattle.gl_calculus.specs.Computation.Query.{Query, run, Has, IsTrueTable}
use Rattle.gl_machine.specs.Machine.{Status, Idle, Waiting, Resolved, Entry, at, outcome_of, table}
use Rattle.gl_machine.specs.Reads.{first_without, end_by_note}
use Rattle.gl_calculus.specs.Computation.Notes.{Note}
use Rattle.gl_machine.specs.Remembered.{AreTrue}
use Rattle.laws_calculus.proofs.Query.Remember.{note_has}
use Rattle.laws_calculus.proofs.Query.Levels.{found_run}
use Rattle.laws_calculus.proofs.Query.Steps.{outcome_back}
use Rattle.laws_calculus.proofs.Query.Tables.{by_note}
use Rattle.laws_calculus.specs.Query.{SoundAtStart}

-- all reads have outcomes
none_without : {K O : Type 0} (f : K → Option O) (ks : List K) → ((j : K) → Member j ks → (o : O) × (f j ≡ Some o)) → first_without f ks ≡ None
none_without f [] h = refl
none_without f (k ∷ ks) h = let (o, e) = h k (inl refl) in rw e (none_without f ks (λ j m. h j (inr m)))

module _ {K O A : Type 0} (same : K → K → Bool) (eq : IsEquality same) (program : K → Query K O A O) (seeds : List K) (notes : List (Note K O A)) (st : List (Entry K O)) (trues : AreTrue same program notes) where
  abbrev Case : K → Status K O → Type 0
  Case k s = (s ≡ Idle) ⊎ ((n : Note K O A) × Member n notes × (n.key ≡ k) × (s ≡ Resolved n.outcome) × ((j : K) → Member j n.reads → (o : O) × (at same st j ≡ Some (Resolved o))))

  module _ (cases : (k : K) (s : Status K O) → at same st k ≡ Some s → Case k s) where
    has_by : (k : K) (o : O) → Case k (Resolved o) → Has program k o
    has_by k o (inl e) = absurd (cc e)
    has_by k o (inr (n, m, i, e, r)) =
        let q : o ≡ n.outcome = cc e in
        subst (λ u. Has program k u) (sym q) (subst (λ u. Has program u n.outcome) i (note_has same program n.key n.outcome n.reads n.looked (trues n m)))

    has : (k : K) (o : O) → at same st k ≡ Some (Resolved o) → Has program k o
    has k o e = has_by k o (cases k (Resolved o) e)

    trues_table : IsTrueTable program (table same st)
    trues_table k o e = has k o (outcome_back (at same st k) o e)

    level_by : (k : K) (o : O) → Case k (Resolved o) → run (table same st) (program k) ≡ Some o
    level_by k o (inl e) = absurd (cc e)
    level_by k o (inr (n, m, i, e, r)) =
        let q : o ≡ n.outcome = cc e in
        let f = table same st in
        let w : first_without f n.reads ≡ None = none_without f n.reads (λ j d. (let (x, u) = r j d in (x, ap outcome_of u))) in
        let g = by_note same eq program f trues_table n.key n.outcome n.reads n.looked (trues n m) in
        let h = found_run f (program n.key) n.outcome (g ∙ ap (end_by_note n.outcome) w) in
        subst (λ u. run f (program u) ≡ Some o) i (h ∙ ap Some (sym q))

    no_wait : (k j : K) → Case k (Waiting j) → ⊥
    no_wait k j (inl e) = cc e
    no_wait k j (inr (n, m, i, e, r)) = cc e

pub sound : (K O A : Type 0) → SoundAtStart K O A
sound K O A same program seeds notes st eq trues apart seeded demanded cases = record {
  apart = apart;
  seeded = seeded;
  demanded = demanded;
  has = has same eq program seeds notes st trues cases;
  level = λ k o e. level_by same eq program seeds notes st trues cases k o (cases k (Resolved o) e);
  needs = λ k j e. absurd (no_wait same eq program seeds notes st trues cases k j (cases k (Waiting j) e));
  waited = λ k j e. absurd (no_wait same eq program seeds notes st trues cases k j (cases k (Waiting j) e));
}
