-- A core is for a sheet, an oracle and a version exactly where it says what is true there.
use Rattle.std.proofs.Common.{◌≡◌, ℕ, zero, suc, List, [], ◌∷◌, take, inl, inr, Bool, Option, Some, None, refl, ap, ◌∙◌}
use Rattle.gl_calculus.specs.Computation.Lists.{Member, AreDistinct}
use Rattle.gl_calculus.specs.Computation.Query.{Query, Return, Look, Ask, next, run, val, Has, IsTrueTable, IsAsked}
use Rattle.gl_machine.specs.Machine.{Resolved, Entry, at, outcome_of, table, keys, IsKnown, IsSound}
use Rattle.gl_machine.specs.Quiet.{IsRight}
use Rattle.laws_calculus.proofs.Query.Levels.{Has-one}
use Rattle.laws_calculus.proofs.Query.Steps.{outcome_back}
use Rattle.laws_calculus.proofs.Query.Lookups.{member_known}
use Rattle.laws_calculus.proofs.Query.Quiet.{right}
use Rattle.gl_calculus.specs.Evaluation.Key.{same_key}
use Rattle.gl_calculus.specs.Evaluation.Evaluation.{program}
use Rattle.gl_calculus.proofs.Tests.{key_equality}
use Rattle.gl_core.specs.State.{state_of, seeds_of}
use Rattle.gl_core.specs.Facts.{CoresByFacts}

module _ {K O A : Type 0} (program : K → Query K O A O) (f : K → Option O) (true' : IsTrueTable program f) where
  -- a query that has a result by levels has it over a table of true outcomes that has all that it asks for
  run_by : (n : ℕ) (q : Query K O A O) (o : O) → run (val program n) q ≡ Some o → ((j : K) → IsAsked program q j → (x : O) × (f j ≡ Some x)) → run f q ≡ Some o
  run_by n (Return r) o e all = e
  run_by n (Look a q) o e all = run_by n q o e all
  run_by n (Ask k c) o e all =
      let (y, d) = all k (inl refl) in
      (elim (val program n k) as (λ v. val program n k ≡ v → next None v (λ x. run (val program n) (c x)) ≡ Some o → next None (f k) (λ x. run f (c x)) ≡ Some o) [
        | None ↦ λ u h. absurd (cc h)
        | Some x ↦ λ u h.
            let has : Has program k x = (n, u) in
            let one : y ≡ x = Has-one program k y x (true' k y d) has in
            let here : f k ≡ Some x = d ∙ ap (λ t. Some t) one in
            let rest : run f (c x) ≡ Some o = run_by n (c x) o h (λ j a. all j (inr (x, has, a))) in
            rw here rest
      ]) refl e

module _ {K O A : Type 0} (same : K → K → Bool) (program : K → Query K O A O) (seeds : List K) (st : List (Entry K O)) where
  -- a state of distinct keys, the seeds among them, that says what is true, is one that holds what reached ones do
  pub sound_by_facts : AreDistinct (keys st) → ((k : K) → Member k seeds → IsKnown same st k) → IsRight same program seeds st → IsSound same program seeds st
  sound_by_facts apart seeded right = record {
    apart = apart;
    seeded = seeded;
    demanded = right.known_demanded;
    has = right.resolved;
    level = level;
    needs = right.waits_by_level;
    waited = λ k j e. (right.waits_for_read k j e).1;
  }
    where
      true_outcomes : IsTrueTable program (table same st)
      true_outcomes k o e = right.resolved k o (outcome_back (at same st k) o e)

      from : (n : ℕ) (k : K) (o : O) → val program n k ≡ Some o → at same st k ≡ Some (Resolved o) → run (table same st) (program k) ≡ Some o
      from zero k o e d = absurd (cc e)
      from (suc n) k o e d = run_by program (table same st) true_outcomes n (program k) o e (λ j a. (let (x, h) = right.reads_resolved k j o d a in (x, ap outcome_of h)))

      level : (k : K) (o : O) → at same st k ≡ Some (Resolved o) → run (table same st) (program k) ≡ Some o
      level k o d = from (right.resolved k o d).0 k o (right.resolved k o d).1 d

member_first : {X : Type 0} (n : ℕ) (xs : List X) (x : X) → Member x (take n xs) → Member x xs
member_first zero xs x m = absurd m
member_first (suc n) [] x m = absurd m
member_first (suc n) (y ∷ ys) x (inl e) = inl e
member_first (suc n) (y ∷ ys) x (inr m) = inr (member_first n ys x m)

pub cores_by_facts : CoresByFacts
cores_by_facts W c = (
  λ f. (
    record { apart = f.sound.apart; within = f.within; first = f.first; noted = f.noted; marked = f.marked },
    record { proper = f.proper; true_notes = f.true_notes; right = right same_key key_equality (program W) (seeds_of c) (state_of c) f.sound; ahead = f.ahead },
  ),
  λ h s. record {
    sound = sound_by_facts same_key (program W) (seeds_of c) (state_of c) h.apart (λ k m. member_known same_key key_equality (state_of c) k (member_first c.seeds (keys (state_of c)) k m)) s.right;
    within = h.within;
    first = h.first;
    proper = s.proper;
    true_notes = s.true_notes;
    noted = h.noted;
    marked = h.marked;
    ahead = s.ahead;
  },
)
