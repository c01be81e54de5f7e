-- What a reached state says, and what it says where nothing is idle.
use Rattle.std.proofs.Common.{◌≡◌, suc, ◌≤◌, List, [], ◌∷◌, ◌⊎◌, inl, inr, Bool, true, false, cond, Option, Some, None, length, refl, sym, ap, ◌∙◌, subst, arith}
use Rattle.gl_calculus.specs.Computation.Lists.{Member, AreDistinct, IsEquality, has_member, fresh}
use Rattle.gl_calculus.specs.Computation.Query.{Query, Found, Ready, Need, next, found, asked, looked, Path, Returns, Looks, Asks, Stops, Has, Loops, IsTrueTable, IsAsked}
use Rattle.gl_calculus.specs.Computation.Demanded.{Demanded, Seed, Read}
use Rattle.gl_machine.specs.Machine.{Status, Idle, Waiting, Resolved, Entry, at, outcome_of, table, keys, IsKnown, IsSound}
use Rattle.gl_calculus.specs.Computation.Reads.{IsReads}
use Rattle.gl_machine.specs.Reads.{first_without, needs_of}
use Rattle.gl_machine.specs.Quiet.{IsRight, IsQuiet}
use Rattle.laws_calculus.proofs.Query.Levels.{run_path, Has-one, Has-Loops, wider}
use Rattle.laws_calculus.proofs.Query.Looping.{true_path, needs_asked, on_path_asked, circle_loops}
use Rattle.laws_calculus.proofs.Query.Lookups.{same_eq, known_member}
use Rattle.laws_calculus.proofs.Query.Steps.{true_table, needs_path, lacks, outcome_back}

-- a member taken out of a list
pub take_out : {X : Type 0} (x : X) (ys : List X) → Member x ys → (zs : List X) × (length ys ≡ suc (length zs)) × ((z : X) → (z ≡ x → ⊥) → Member z ys → Member z zs)
take_out x [] m = absurd m
take_out x (y ∷ ys) (inl e) = (ys, refl, λ z n m. drop_first (λ d. n (d ∙ sym e)) m)
  where
    drop_first : {P Q : Type 0} → (P → ⊥) → P ⊎ Q → Q
    drop_first n (inl p) = absurd (n p)
    drop_first n (inr q) = q
take_out x (y ∷ ys) (inr m) = let (zs, l, h) = take_out x ys m in (y ∷ zs, ap suc l, λ z n w. keep (h z n) w)
  where
    keep : {P Q R : Type 0} → (Q → R) → P ⊎ Q → P ⊎ R
    keep f (inl p) = inl p
    keep f (inr q) = inr (f q)

-- distinct members of a list are no more than it has
pub distinct_within : {X : Type 0} (xs ys : List X) → AreDistinct xs → ((x : X) → Member x xs → Member x ys) → length xs ≤ length ys
distinct_within [] ys d h = omega arith
distinct_within (x ∷ xs) ys d h =
    let (zs, l, t) = take_out x ys (h x (inl refl)) in
    let n : length xs ≤ length zs = distinct_within xs zs d.1 (λ z m. t z (λ e. d.0 (subst (λ u. Member u xs) e m)) (h z (inr m))) in
    omega arith

pub length-keys : {K O : Type 0} (st : List (Entry K O)) → length (keys st) ≡ length st
length-keys [] = refl
length-keys (x ∷ xs) = ap suc (length-keys xs)

-- each key on a path over a table has an answer there, but for the one at its end
pub answered : {K O A : Type 0} (f : K → Option O) (N : K → Type 0) → {q : Query K O A O} {ks : List K} {ls : List A} {o : O} → Path (λ k o. f k ≡ Some o) N q ks ls (Ready o) → (j : K) → Member j ks → (x : O) × (f j ≡ Some x)
answered f N Returns j m = absurd m
answered f N (Looks p) j m = answered f N p j m
answered f N (Asks {o = x} r p) j (inl e) = (x, subst (λ t. f t ≡ Some x) (sym e) r)
answered f N (Asks r p) j (inr m) = answered f N p j m

pub answered_or_end : {K O A : Type 0} (f : K → Option O) (N : K → Type 0) → {q : Query K O A O} {ks : List K} {ls : List A} {i : K} → Path (λ k o. f k ≡ Some o) N q ks ls (Need i) → (j : K) → Member j ks → ((x : O) × (f j ≡ Some x)) ⊎ (j ≡ i)
answered_or_end f N (Looks p) j m = answered_or_end f N p j m
answered_or_end f N (Asks {o = x} r p) j (inl e) = inl (x, subst (λ t. f t ≡ Some x) (sym e) r)
answered_or_end f N (Asks r p) j (inr m) = answered_or_end f N p j m
answered_or_end f N (Stops n) j (inl e) = inr e
answered_or_end f N (Stops n) j (inr m) = absurd m

-- the relation for the end is of the key at the end alone
pub end_at : {K O A : Type 0} (R : K → O → Type 0) (N M : K → Type 0) → {q : Query K O A O} {ks : List K} {ls : List A} {i : K} → Path R N q ks ls (Need i) → M i → Path R M q ks ls (Need i)
end_at R N M (Looks p) m = Looks (end_at R N M p m)
end_at R N M (Asks r p) m = Asks r (end_at R N M p m)
end_at R N M (Stops n) m = Stops m

module _ {K O A : Type 0} (program : K → Query K O A O) (f : K → Option O) (true' : IsTrueTable program f) where
  -- the first key of a true path that the table lacks is where a walk over the table ends
  pub walk_first : (N : K → Type 0) → ((k : K) (x : O) → Has program k x → N k → ⊥) → {q : Query K O A O} {ks : List K} {ls : List A} {e : Found K O} → Path (Has program) N q ks ls e → first_without f ks ≡ needs_of (found f q)
  walk_first N d Returns = refl
  walk_first N d (Looks p) = walk_first N d p
  walk_first N d (Asks {k = k} {c = c} {o = x} {ks = ks} r p) =
      (elim (f k) as (λ v. f k ≡ v → next (Some k) v (λ o. first_without f ks) ≡ needs_of (next (Need k) v (λ o. found f (c o)))) [
        | None ↦ λ e. refl
        | Some y ↦ λ e. subst (λ t. first_without f ks ≡ needs_of (found f (c t))) (Has-one program k x y r (true' k y e)) (walk_first N d p)
      ]) refl
  walk_first N d (Stops {k = k} {c = c} n) =
      (elim (f k) as (λ v. f k ≡ v → next (Some k) v (λ o. None) ≡ needs_of (next (Need k) v (λ o. found f (c o)))) [
        | None ↦ λ e. refl
        | Some y ↦ λ e. absurd (d k y (true' k y e) n)
      ]) refl

module _ {K : Type 0} (same : K → K → Bool) (eq : IsEquality same) where
  pub seen_member : (xs : List K) (k : K) → has_member same k xs ≡ true → Member k xs
  seen_member [] k e = absurd (cc e)
  seen_member (x ∷ xs) k e =
      (elim (same k x) as (λ b. same k x ≡ b → cond b true (has_member same k xs) ≡ true → (k ≡ x) ⊎ Member k xs) [
        | true ↦ λ d h. inl (same_eq same eq k x d)
        | false ↦ λ d h. inr (seen_member xs k h)
      ]) refl e

-- and the first of the distinct keys is the same
module _ {K O : Type 0} (same : K → K → Bool) (eq : IsEquality same) where
  pub first_fresh : (f : K → Option O) (ks seen : List K) → ((j : K) → Member j seen → (x : O) × (f j ≡ Some x)) → first_without f (fresh same seen ks) ≡ first_without f ks
  first_fresh f [] seen h = refl
  first_fresh f (k ∷ ks) seen h =
      (elim (has_member same k seen) as (λ b. has_member same k seen ≡ b → first_without f (cond b (fresh same seen ks) (k ∷ fresh same (k ∷ seen) ks)) ≡ next (Some k) (f k) (λ o. first_without f ks)) [
        | true ↦ λ e. let (x, d) = h k (seen_member same eq seen k e) in rw d (first_fresh f ks seen h)
        | false ↦ λ e. (elim (f k) as (λ v. f k ≡ v → next (Some k) v (λ o. first_without f (fresh same (k ∷ seen) ks)) ≡ next (Some k) v (λ o. first_without f ks)) [
          | None ↦ λ d. refl
          | Some x ↦ λ d. first_fresh f ks (k ∷ seen) (λ j m. grown k x d seen h j m)
        ]) refl
      ]) refl
    where
      grown : (k : K) (x : O) → f k ≡ Some x → (seen : List K) → ((j : K) → Member j seen → (x : O) × (f j ≡ Some x)) → (j : K) → Member j (k ∷ seen) → (x : O) × (f j ≡ Some x)
      grown k x d seen h j (inl e) = (x, subst (λ t. f t ≡ Some x) (sym e) d)
      grown k x d seen h j (inr m) = h j m

module _ {K O A : Type 0} (same : K → K → Bool) (eq : IsEquality same) (program : K → Query K O A O) (seeds : List K) (st : List (Entry K O)) (sound : IsSound same program seeds st) where
  -- a pick goes by the first of the key's reads that isn't resolved
  pub first_read : (k : K) (rs : List K) → IsReads same program k rs → first_without (table same st) rs ≡ needs_of (found (table same st) (program k))
  first_read k rs (ks, ls, e, p, d) =
      subst (λ t. first_without (table same st) t ≡ needs_of (found (table same st) (program k))) (sym d)
      (first_fresh same eq (table same st) ks [] (λ j m. absurd m)
      ∙ walk_first program (table same st) (true_table same eq program seeds st sound) (Loops program) (λ i x. Has-Loops program i x) p)

  reads_resolved : (k j : K) (o : O) → at same st k ≡ Some (Resolved o) → IsAsked program (program k) j → (x : O) × (at same st j ≡ Some (Resolved x))
  reads_resolved k j o e a =
      let t = table same st in
      let p = run_path t (program k) o (sound.level k o e) in
      let q : Path (Has program) (Loops program) (program k) (asked t (program k)) (looked t (program k)) (Ready o) = wider (λ k o. t k ≡ Some o) (Has program) (λ k. t k ≡ None) (Loops program) (true_table same eq program seeds st sound) p in
      let (x, d) = answered t (λ k. t k ≡ None) p j (on_path_asked program (Loops program) (λ i x. Has-Loops program i x) q j a) in
      (x, outcome_back (at same st j) x d)

  waits_path : (k j : K) → at same st k ≡ Some (Waiting j) → Path (Has program) (λ x. table same st x ≡ None) (program k) (asked (table same st) (program k)) (looked (table same st) (program k)) (Need j)
  waits_path k j e =
      subst (λ t. Path (Has program) (λ x. table same st x ≡ None) (program k) (asked (table same st) (program k)) (looked (table same st) (program k)) t) (sound.needs k j e)
      (true_path program (table same st) (true_table same eq program seeds st sound) (program k))

  -- what a reached state says
  pub right : IsRight same program seeds st
  right = record {
    resolved = sound.has;
    reads_resolved = reads_resolved;
    waits_by_level = sound.needs;
    waits_for_read = λ k j e. (needs_asked program (waits_path k j e), sound.waited k j e, lacks same eq program seeds (table same st) (program k) j (sound.needs k j e));
    waits_for_first = λ k j e rs r. first_read k rs r ∙ ap needs_of (sound.needs k j e);
    known_demanded = sound.demanded;
  }

  module _ (none_idle : (k : K) → at same st k ≡ Some Idle → ⊥) where
    -- the key that a waiting key waits for waits too
    waited_waits : (k j : K) → at same st k ≡ Some (Waiting j) → (i : K) × (at same st j ≡ Some (Waiting i))
    waited_waits k j e =
        let (s, d) = sound.waited k j e in
        waiting_is s d (lacks same eq program seeds (table same st) (program k) j (sound.needs k j e))
      where
        waiting_is : (s : Status K O) → at same st j ≡ Some s → table same st j ≡ None → (i : K) × (at same st j ≡ Some (Waiting i))
        waiting_is Idle d n = absurd (none_idle j d)
        waiting_is (Waiting i) d n = (i, d)
        waiting_is (Resolved o) d n = let h : Some o ≡ None = subst (λ t. outcome_of t ≡ None) d n in absurd (cc h)

    waits_on : (k : K) → ((j : K) × (at same st k ≡ Some (Waiting j))) → (j : K) × IsAsked program (program k) j × ((i : K) × (at same st j ≡ Some (Waiting i)))
    waits_on k (j, e) = (j, needs_asked program (waits_path k j e), waited_waits k j e)

    waiting_loops : (k j : K) → at same st k ≡ Some (Waiting j) → Loops program k
    waiting_loops k j e = circle_loops program (λ x. (i : K) × (at same st x ≡ Some (Waiting i))) waits_on k (j, e)

    asked_known : (k j : K) (s : Status K O) → at same st k ≡ Some s → IsAsked program (program k) j → IsKnown same st j
    asked_known k j Idle e a = absurd (none_idle k e)
    asked_known k j (Resolved o) e a = let (x, d) = reads_resolved k j o e a in (Resolved x, d)
    asked_known k j (Waiting i) e a =
        let t = table same st in
        let (i', l) = waited_waits k i e in
        let p = end_at (Has program) (λ x. t x ≡ None) (Loops program) (waits_path k i e) (waiting_loops i i' l) in
        let m = on_path_asked program (Loops program) (λ x y. Has-Loops program x y) p j a in
        known_case (answered_or_end t (λ x. t x ≡ None) (needs_path same eq program seeds t (program k) i (sound.needs k i e)) j m)
      where
        known_case : ((x : O) × (table same st j ≡ Some x)) ⊎ (j ≡ i) → IsKnown same st j
        known_case (inl (x, d)) = (Resolved x, outcome_back (at same st j) x d)
        known_case (inr d) = subst (IsKnown same st) (sym d) (sound.waited k i e)

    demanded_known : (k : K) → Demanded program seeds k → IsKnown same st k
    demanded_known k (Seed m) = sound.seeded k m
    demanded_known j (Read {k = k} d a) = let (s, e) = demanded_known k d in asked_known k j s e a

    looping_case : (k : K) → Loops program k → (s : Status K O) → at same st k ≡ Some s → (j : K) × (at same st k ≡ Some (Waiting j))
    looping_case k l Idle e = absurd (none_idle k e)
    looping_case k l (Waiting j) e = (j, e)
    looping_case k l (Resolved o) e = absurd (Has-Loops program k o (sound.has k o e) l)

    having_case : (k : K) (o : O) → Has program k o → (s : Status K O) → at same st k ≡ Some s → at same st k ≡ Some (Resolved o)
    having_case k o h Idle e = absurd (none_idle k e)
    having_case k o h (Waiting j) e = absurd (Has-Loops program k o h (waiting_loops k j e))
    having_case k o h (Resolved x) e = e ∙ ap (λ t. Some (Resolved t)) (Has-one program k x o (sound.has k x e) h)

    -- what it says where nothing is idle
    pub quiet : IsQuiet same program seeds st
    quiet = record {
      none_idle = none_idle;
      known_demanded = sound.demanded;
      demanded_known = demanded_known;
      waiting_loops = waiting_loops;
      looping_waits = λ k d l. let (s, e) = demanded_known k d in looping_case k l s e;
      resolved_has = sound.has;
      having_resolved = λ k o d h. let (s, e) = demanded_known k d in having_case k o h s e;
      no_more = λ xs d h. subst (λ t. length xs ≤ t) (length-keys st) (distinct_within xs (keys st) d (λ x m. let (s, e) = demanded_known x (h x m) in known_member same eq st x s e));
    }
