-- Notes of a reached state, a pick by a note, the reads of a quiet state, and the steps at least.
use Rattle.std.proofs.Common.{◌≡◌, List, [], Bool, Option, Some, None, refl, sym, ◌∙◌, subst}
use Rattle.gl_calculus.specs.Computation.Lists.{IsEquality, distinct}
use Rattle.gl_calculus.specs.Computation.Query.{Query, Found, Ready, Need, found, asked, looked, Path, Looks, Asks, Stops, Has, Loops, IsTrueTable}
use Rattle.gl_machine.specs.Machine.{Status, Idle, Waiting, Resolved, Entry, at, outcome_of, table, IsKnown, IsSound}
use Rattle.gl_calculus.specs.Computation.Reads.{IsReads, IsNote}
use Rattle.gl_machine.specs.Reads.{first_without, needs_of, end_by_note}
use Rattle.gl_calculus.specs.Steps.Counted.{Counted, counted_keys, AreReads}
use Rattle.gl_machine.specs.Costs.{unnoted}
use Rattle.laws_calculus.proofs.Query.Levels.{Has-one, Has-Loops, wider, run_path, found_run, Has-from_level}
use Rattle.laws_calculus.proofs.Query.Steps.{true_table, needs_path}
use Rattle.laws_calculus.proofs.Query.Quiet.{end_at, quiet, walk_first, first_fresh}
use Rattle.laws_calculus.proofs.Query.Looping.{true_path}
use Rattle.laws_calculus.proofs.Query.Remember.{note_has}
use Rattle.laws_calculus.proofs.Query.Credit.{at-entry}
use Rattle.laws_calculus.proofs.Query.Bound.{counted}

-- an end is told by the key that it needs and the outcome
pub end_from : {K O : Type 0} (e : Found K O) (o : O) (v : Option K) → v ≡ needs_of e → ((x : O) → e ≡ Ready x → x ≡ o) → e ≡ end_by_note o v
end_from (Ready x) o v d h = let a : x ≡ o = h x refl in rw (d, a) refl
end_from (Need j) o v d h = rw d refl

module _ {K O A : Type 0} (same : K → K → Bool) (eq : IsEquality same) (program : K → Query K O A O) where
  -- A pick of a key with a note goes by the note.
  pub by_note : (f : K → Option O) → IsTrueTable program f → (k : K) (o : O) (rs : List K) (ls : List A) → IsNote same program k o rs ls → found f (program k) ≡ end_by_note o (first_without f rs)
  by_note f t k o rs ls (ks, p, d) =
      end_from (found f (program k)) o (first_without f rs)
      (subst (λ z. first_without f z ≡ needs_of (found f (program k))) (sym d)
      (first_fresh same eq f ks [] (λ j m. absurd m) ∙ walk_first program f t (Loops program) (Has-Loops program) p))
      (λ x e. Has-one program k x o (Has-from_level program f t k x (found_run f (program k) x e)) (note_has same program k o rs ls (ks, p, d)))

  module _ (seeds : List K) (st : List (Entry K O)) (sound : IsSound same program seeds st) where
    -- each resolved key has a true note
    pub resolved_note : (k : K) (o : O) → at same st k ≡ Some (Resolved o) → IsNote same program k o (distinct same (asked (table same st) (program k))) (looked (table same st) (program k))
    resolved_note k o e =
        let f = table same st in (
          asked f (program k),
          wider (λ k o. f k ≡ Some o) (Has program) (λ k. f k ≡ None) (Loops program) (true_table same eq program seeds st sound) (run_path f (program k) o (sound.level k o e)),
          refl,
        )

    module _ (none_idle : (k : K) → at same st k ≡ Some Idle → ⊥) where
      reads_case : (k : K) (s : Status K O) → at same st k ≡ Some s → IsReads same program k (distinct same (asked (table same st) (program k)))
      reads_case k Idle e = absurd (none_idle k e)
      reads_case k (Resolved o) e = let (ks, p, d) = resolved_note k o e in (ks, looked (table same st) (program k), Ready o, p, d)
      reads_case k (Waiting j) e =
          let f = table same st in
          let q = quiet same eq program seeds st sound none_idle in
          let (s, d) = sound.waited k j e in
          let p = subst (λ t. Path (Has program) (λ x. f x ≡ None) (program k) (asked f (program k)) (looked f (program k)) t) (sound.needs k j e) (true_path program f (true_table same eq program seeds st sound) (program k)) in
          (asked f (program k), looked f (program k), Need j, end_at (Has program) (λ x. f x ≡ None) (Loops program) p (loop j s d (sound.needs k j e)), refl)
        where
          -- the key that it waits for waits too, and loops
          loop : (i : K) (s : Status K O) → at same st i ≡ Some s → found (table same st) (program k) ≡ Need i → Loops program i
          loop i Idle d n = absurd (none_idle i d)
          loop i (Waiting l) d n = (quiet same eq program seeds st sound none_idle).waiting_loops i l d
          loop i (Resolved o) d n =
              let a : table same st i ≡ None = fails (needs_path same eq program seeds (table same st) (program k) i n) in
              let b : Some o ≡ None = subst (λ t. outcome_of t ≡ None) d a in
              absurd (cc b)
            where
              fails : {f : K → Option O} {q : Query K O A O} {ks : List K} {ls : List A} {j : K} → Path (λ k o. f k ≡ Some o) (λ k. f k ≡ None) q ks ls (Need j) → f j ≡ None
              fails (Looks p) = fails p
              fails (Asks r p) = fails p
              fails (Stops n) = n

      -- where nothing is idle, the reads of each known key are those that the state shows
      pub quiet_reads : (k : K) → IsKnown same st k → IsReads same program k (distinct same (asked (table same st) (program k)))
      quiet_reads k (s, e) = reads_case k s e

      -- there is a list that holds each known key without a note once, with its reads
      pub quiet_counted : (noted : K → Bool) → (cs : List (Counted K)) × (counted_keys cs ≡ unnoted noted st) × AreReads same program cs
      quiet_counted noted = counted same eq program noted (table same st) st (λ x m. (distinct same (asked (table same st) (program x.key)), quiet_reads x.key (x.status, at-entry same eq st x sound.apart m)))
