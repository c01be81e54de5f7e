-- The steps are at least the number of keys resolved that have no note.
use Rattle.std.proofs.Common.{◌≡◌, ℕ, ◌+◌, ◌≤◌, List, [], ◌∷◌, inl, inr, Bool, true, false, cond, Option, Some, None, length, nat_lt, refl, sym, ap, subst, arith}
use Rattle.gl_calculus.specs.Computation.Lists.{Member, AreDistinct, IsEquality}
use Rattle.gl_calculus.specs.Computation.Query.{Query, Found, Ready, Need, found}
use Rattle.gl_machine.specs.Machine.{Status, Idle, Waiting, Resolved, Entry, at, table, woken, resolve, wait, add_idle, need, turn, idle_keys, keys, nth, picked, pick, picks, IsSound}
use Rattle.gl_machine.specs.Costs.{step_of, step_at, steps, settled_of, settled}
use Rattle.laws_calculus.proofs.Query.Lookups.{same_eq, differ}
use Rattle.laws_calculus.proofs.Query.Steps.{sound_pick}

module _ {K O : Type 0} (same : K → K → Bool) (eq : IsEquality same) (noted : K → Bool) where
  woken_settled : (k : K) (s : Status K O) (n : ℕ) → settled_of (woken same k s) n ≡ settled_of s n
  woken_settled k Idle n = refl
  woken_settled k (Waiting j) n = elim (same j k) as (λ b. settled_of {K = K} {O = O} (cond b Idle (Waiting j)) n ≡ 0) [ true ↦ refl | false ↦ refl ]
  woken_settled k (Resolved o) n = refl

  resolve_others : (xs : List (Entry K O)) (k : K) (o : O) → (Member k (keys xs) → ⊥) → settled noted (resolve same k o xs) ≡ settled noted xs
  resolve_others [] k o n = refl
  resolve_others (x ∷ xs) k o n =
      let d : same x.key k ≡ false = differ same eq x.key k (λ e. n (inl (sym e))) in
      let a = woken_settled k x.status (step_of noted x.key) in
      let b = resolve_others xs k o (λ m. n (inr m)) in
      rw d (omega arith)

  resolve_settled : (xs : List (Entry K O)) (k : K) (o : O) → AreDistinct (keys xs) → settled noted (resolve same k o xs) ≤ settled noted xs + step_of noted k
  resolve_settled [] k o d = omega arith
  resolve_settled (x ∷ xs) k o d =
      (elim (same x.key k) as (λ b. same x.key k ≡ b → settled_of (cond b (Resolved o) (woken same k x.status)) (step_of noted x.key) + settled noted (resolve same k o xs) ≤ settled_of x.status (step_of noted x.key) + settled noted xs + step_of noted k) [
        | true ↦ λ t.
            let i : x.key ≡ k = same_eq same eq x.key k t in
            let b = resolve_others xs k o (λ m. d.0 (subst (λ u. Member u (keys xs)) (sym i) m)) in
            let c : step_of noted x.key ≡ step_of noted k = ap (step_of noted) i in
            omega arith
        | false ↦ λ t.
            let a = woken_settled k x.status (step_of noted x.key) in
            let b = resolve_settled xs k o d.1 in
            omega arith
      ]) refl

  settled_wait_of : (b : Bool) (s : Status K O) (j : K) (n : ℕ) → settled_of (cond b (Waiting j) s) n ≤ settled_of s n
  settled_wait_of true s j n = omega arith
  settled_wait_of false s j n = omega arith

  wait_settled : (xs : List (Entry K O)) (k j : K) → settled noted (wait same k j xs) ≤ settled noted xs
  wait_settled [] k j = omega arith
  wait_settled (x ∷ xs) k j =
      let a = settled_wait_of (same x.key k) x.status j (step_of noted x.key) in
      let b = wait_settled xs k j in
      omega arith

  add_settled : (xs : List (Entry K O)) (j : K) → settled noted (add_idle j xs) ≡ settled noted xs
  add_settled [] j = refl
  add_settled (x ∷ xs) j = let b = add_settled xs j in omega arith

  need_settled : (limit : ℕ) (st : List (Entry K O)) (k j : K) (v : Option (Status K O)) → settled noted (need same limit st k j v) ≤ settled noted st
  need_settled limit st k j (Some s) = wait_settled st k j
  need_settled limit st k j None =
      elim (nat_lt (length st) limit) as (λ b. settled noted (cond b (wait same k j (add_idle j st)) st) ≤ settled noted st) [
        | true ↦ let a = wait_settled (add_idle j st) k j in let b = add_settled st j in omega arith
        | false ↦ omega arith
      ]

  turn_settled : (limit : ℕ) (st : List (Entry K O)) (k : K) → AreDistinct (keys st) → (e : Found K O) → settled noted (turn same limit st k e) ≤ settled noted st + step_of noted k
  turn_settled limit st k d (Ready o) = resolve_settled st k o d
  turn_settled limit st k d (Need j) = let a = need_settled limit st k j (at same st j) in omega arith

module _ {K O A : Type 0} (same : K → K → Bool) (eq : IsEquality same) (limit : ℕ) (program : K → Query K O A O) (seeds : List K) (noted : K → Bool) where
  pub picked_settled : (st : List (Entry K O)) → AreDistinct (keys st) → (v : Option K) → settled noted (picked same limit program st v) ≤ settled noted st + step_at noted v
  picked_settled st d None = omega arith
  picked_settled st d (Some k) = turn_settled same eq noted limit st k d (found (table same st) (program k))

  -- Each key resolved without a note took a step.
  pub steps_least : (is : List ℕ) (st : List (Entry K O)) → IsSound same program seeds st → settled noted (picks same limit program st is) ≤ settled noted st + steps same limit program noted st is
  steps_least [] st h = omega arith
  steps_least (i ∷ is) st h =
      let a = picked_settled st h.apart (nth (idle_keys st) i) in
      let b = steps_least is (pick same limit program st i) (sound_pick same eq program seeds limit st i h) in
      omega arith
