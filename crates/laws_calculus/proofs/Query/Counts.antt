-- How many keys are known, what Full shows, and that picks end.
use Rattle.std.proofs.Common.{◌≡◌, ℕ, suc, ◌+◌, ◌-◌, ◌*◌, ◌<◌, ◌≤◌, List, [], ◌∷◌, ◌++◌, inl, inr, Bool, true, false, cond, Option, Some, None, length, nat_lt, refl, sym, ap, subst, arith, ltb-true, ltb-false, suc-mul}
use Rattle.gl_calculus.specs.Computation.Lists.{Member, AreDistinct, IsEquality}
use Rattle.gl_calculus.specs.Computation.Query.{Query, Found, Ready, Need, found}
use Rattle.gl_calculus.specs.Computation.Demanded.{Demanded}
use Rattle.gl_machine.specs.Machine.{Status, Idle, Waiting, Resolved, Entry, at, table, change, woken, resolve, wait, add_idle, need, turn, idle_keys, keys, nth, picked, pick, picks, start, IsSound, Waits, Full, need_answer, turn_answer, answer, left_of, left_in, left}
use Rattle.laws_calculus.proofs.Query.Lookups.{same_eq, same_refl, differ, member_known}
use Rattle.laws_calculus.proofs.Query.Steps.{distinct_push, demanded_need, sound_add, add_keeps}
use Rattle.laws_calculus.proofs.Query.Quiet.{length-keys}

pub length-change : {K O : Type 0} (g : K → Status K O → Status K O) (st : List (Entry K O)) → length (change g st) ≡ length st
length-change g [] = refl
length-change g (x ∷ xs) = ap suc (length-change g xs)

pub length-start : {K : Type 0} (O : Type 0) (ks : List K) → length (start {O = O} ks) ≡ length ks
length-start O [] = refl
length-start O (k ∷ ks) = ap suc (length-start O ks)

pub length-push : {X : Type 0} (xs : List X) (x : X) → length (xs ++ x ∷ []) ≡ suc (length xs)
length-push [] x = refl
length-push (y ∷ ys) x = ap suc (length-push ys x)

module _ {K O : Type 0} (same : K → K → Bool) (limit : ℕ) where
  need_within : (st : List (Entry K O)) (k j : K) (v : Option (Status K O)) → length st ≤ limit → length (need same limit st k j v) ≤ limit
  need_within st k j (Some s) h = rw (length-change (λ x s. cond (same x k) (Waiting j) s) st) h
  need_within st k j None h =
      (elim (nat_lt (length st) limit) as (λ b. nat_lt (length st) limit ≡ b → length (cond b (wait same k j (add_idle j st)) st) ≤ limit) [
        | true ↦ λ e. rw (length-change (λ x s. cond (same x k) (Waiting j) s) (add_idle j st), length-push st (record { key = j; status = Idle })) (ltb-true _ _ e)
        | false ↦ λ e. h
      ]) refl

  turn_within : (st : List (Entry K O)) (k : K) (e : Found K O) → length st ≤ limit → length (turn same limit st k e) ≤ limit
  turn_within st k (Ready o) h = rw (length-change (λ x s. cond (same x k) (Resolved o) (woken same k s)) st) h
  turn_within st k (Need j) h = need_within st k j (at same st j) h

module _ {K O A : Type 0} (same : K → K → Bool) (limit : ℕ) (program : K → Query K O A O) where
  pub picked_within : (st : List (Entry K O)) (v : Option K) → length st ≤ limit → length (picked same limit program st v) ≤ limit
  picked_within st None h = h
  picked_within st (Some k) h = turn_within same limit st k (found (table same st) (program k)) h

  -- no list of picks makes more keys known than the limit
  pub picks_within : (is : List ℕ) (st : List (Entry K O)) → length st ≤ limit → length (picks same limit program st is) ≤ limit
  picks_within [] st h = h
  picks_within (i ∷ is) st h = picks_within is (pick same limit program st i) (picked_within st (nth (idle_keys st) i) h)

module _ {K O A : Type 0} (same : K → K → Bool) (eq : IsEquality same) (limit : ℕ) (program : K → Query K O A O) (seeds : List K) where
  all_push : (P : K → Type 0) (xs : List K) (x : K) → ((k : K) → Member k xs → P k) → P x → (k : K) → Member k (xs ++ x ∷ []) → P k
  all_push P [] x h p k (inl e) = subst P (sym e) p
  all_push P [] x h p k (inr m) = absurd m
  all_push P (y ∷ ys) x h p k (inl e) = h k (inl e)
  all_push P (y ∷ ys) x h p k (inr m) = all_push P ys x (λ z w. h z (inr w)) p k m

  full_room : (st : List (Entry K O)) → cond (nat_lt (length st) limit) Waits Full ≡ Full → limit ≤ length st
  full_room st e =
      (elim (nat_lt (length st) limit) as (λ b. nat_lt (length st) limit ≡ b → cond b Waits Full ≡ Full → limit ≤ length st) [
        | true ↦ λ d h. absurd (cc h)
        | false ↦ λ d h. ltb-false _ _ d
      ]) refl e

  full_none : (st : List (Entry K O)) (v : Option (Status K O)) → need_answer limit st v ≡ Full → (v ≡ None) × (limit ≤ length st)
  full_none st (Some s) e = absurd (cc e)
  full_none st None e = (refl, full_room st e)

  full_turn : (st : List (Entry K O)) (k : K) → IsSound same program seeds st → length st ≤ limit → at same st k ≡ Some Idle → (e : Found K O) → found (table same st) (program k) ≡ e → turn_answer same limit st e ≡ Full → (xs : List K) × (length xs ≡ suc limit) × AreDistinct xs × ((j : K) → Member j xs → Demanded program seeds j)
  full_turn st k h w idle (Ready o) f e = absurd (cc e)
  full_turn st k h w idle (Need j) f e =
      let (n, l) = full_none st (at same st j) e in
      let xs = keys st ++ j ∷ [] in
      let len : length xs ≡ suc limit = rw (length-push (keys st) j, length-keys st) (let d : length st ≡ limit = omega arith in ap suc d) in (
        xs,
        len,
        distinct_push (keys st) j h.apart (λ m. let (s, d) = member_known same eq st j m in absurd (cc (n, d))),
        all_push (Demanded program seeds) (keys st) j (λ x m. h.demanded x (member_known same eq st x m)) (demanded_need same eq program seeds st k j h idle f),
      )

  -- where Full is met, more keys than the limit are demanded
  pub full_demands : (st : List (Entry K O)) (k : K) → IsSound same program seeds st → length st ≤ limit → at same st k ≡ Some Idle → answer same limit program st k ≡ Full → (xs : List K) × (length xs ≡ suc limit) × AreDistinct xs × ((j : K) → Member j xs → Demanded program seeds j)
  full_demands st k h w idle e = full_turn st k h w idle (found (table same st) (program k)) refl e

  need_kept : (st : List (Entry K O)) (k j : K) (v : Option (Status K O)) → need_answer limit st v ≡ Full → need same limit st k j v ≡ st
  need_kept st k j (Some s) e = absurd (cc e)
  need_kept st k j None e =
      (elim (nat_lt (length st) limit) as (λ b. cond b Waits Full ≡ Full → cond b (wait same k j (add_idle j st)) st ≡ st) [
        | true ↦ λ h. absurd (cc h)
        | false ↦ λ h. refl
      ]) e

  turn_kept : (st : List (Entry K O)) (k : K) (e : Found K O) → turn_answer same limit st e ≡ Full → turn same limit st k e ≡ st
  turn_kept st k (Ready o) e = absurd (cc e)
  turn_kept st k (Need j) e = need_kept st k j (at same st j) e

  -- and nothing changes
  pub full_kept : (st : List (Entry K O)) (k : K) → answer same limit program st k ≡ Full → turn same limit st k (found (table same st) (program k)) ≡ st
  full_kept st k e = turn_kept st k (found (table same st) (program k)) e

drop_one : (n l a b : ℕ) → l < n → suc b ≤ a + (n + 1) → (n - suc l) * (n + 1) + b < (n - l) * (n + 1) + a
drop_one n l a b h d = let e : n - l ≡ suc (n - suc l) = omega arith in rw (e, suc-mul) (omega arith)

module _ {K O : Type 0} (same : K → K → Bool) (eq : IsEquality same) (limit : ℕ) where
  woken_left : (k : K) (s : Status K O) → left_of limit (woken same k s) ≤ left_of limit s + 1
  woken_left k Idle = omega arith
  woken_left k (Waiting j) = elim (same j k) as (λ b. left_of {O = O} limit (cond b Idle (Waiting j)) ≤ limit + 1) [ true ↦ omega arith | false ↦ omega arith ]
  woken_left k (Resolved o) = omega arith

  resolve_others : (xs : List (Entry K O)) (k : K) (o : O) → (Member k (keys xs) → ⊥) → left_in limit (resolve same k o xs) ≤ left_in limit xs + length xs
  resolve_others [] k o n = omega arith
  resolve_others (x ∷ xs) k o n =
      let d : same x.key k ≡ false = differ same eq x.key k (λ e. n (inl (sym e))) in
      let a = woken_left k x.status in
      let b = resolve_others xs k o (λ m. n (inr m)) in
      rw d (omega arith)

  resolve_left : (xs : List (Entry K O)) (k : K) (o : O) → AreDistinct (keys xs) → at same xs k ≡ Some Idle → left_in limit (resolve same k o xs) + (limit + 2) ≤ left_in limit xs + length xs
  resolve_left [] k o d e = absurd (cc e)
  resolve_left (x ∷ xs) k o d e =
      (elim (same k x.key) as (λ b. same k x.key ≡ b → cond b (Some x.status) (at same xs k) ≡ Some Idle → left_of limit (cond (same x.key k) (Resolved o) (woken same k x.status)) + left_in limit (resolve same k o xs) + (limit + 2) ≤ left_of limit x.status + left_in limit xs + suc (length xs)) [
        | true ↦ λ t h.
            let i : k ≡ x.key = same_eq same eq k x.key t in
            let s : x.status ≡ Idle = cc in
            let r : same x.key k ≡ true = subst (λ u. same x.key u ≡ true) (sym i) (same_refl same eq x.key) in
            let b = resolve_others xs k o (λ m. d.0 (subst (λ u. Member u (keys xs)) i m)) in
            rw (r, s) (omega arith)
        | false ↦ λ t h.
            let r : same x.key k ≡ false = differ same eq x.key k (λ u. absurd (not_true t (subst (λ w. same k w ≡ true) (sym u) (same_refl same eq k)))) in
            let a = woken_left k x.status in
            let b = resolve_left xs k o d.1 h in
            rw r (omega arith)
      ]) refl e
    where
      not_true : {b : Bool} → b ≡ false → b ≡ true → ⊥
      not_true f t = cc

  wait_others : (xs : List (Entry K O)) (k j : K) → (Member k (keys xs) → ⊥) → left_in limit (wait same k j xs) ≡ left_in limit xs
  wait_others [] k j n = refl
  wait_others (x ∷ xs) k j n =
      let d : same x.key k ≡ false = differ same eq x.key k (λ e. n (inl (sym e))) in
      let b = wait_others xs k j (λ m. n (inr m)) in
      rw d (omega arith)

  wait_left : (xs : List (Entry K O)) (k j : K) → AreDistinct (keys xs) → at same xs k ≡ Some Idle → suc (left_in limit (wait same k j xs)) ≡ left_in limit xs
  wait_left [] k j d e = absurd (cc e)
  wait_left (x ∷ xs) k j d e =
      (elim (same k x.key) as (λ b. same k x.key ≡ b → cond b (Some x.status) (at same xs k) ≡ Some Idle → suc (left_of limit (cond (same x.key k) (Waiting j) x.status) + left_in limit (wait same k j xs)) ≡ left_of limit x.status + left_in limit xs) [
        | true ↦ λ t h.
            let i : k ≡ x.key = same_eq same eq k x.key t in
            let s : x.status ≡ Idle = cc in
            let r : same x.key k ≡ true = subst (λ u. same x.key u ≡ true) (sym i) (same_refl same eq x.key) in
            let b = wait_others xs k j (λ m. d.0 (subst (λ u. Member u (keys xs)) i m)) in
            rw (r, s) (omega arith)
        | false ↦ λ t h.
            let r : same x.key k ≡ false = differ same eq x.key k (λ u. absurd (not_true t (subst (λ w. same k w ≡ true) (sym u) (same_refl same eq k)))) in
            let b = wait_left xs k j d.1 h in
            rw r (omega arith)
      ]) refl e
    where
      not_true : {b : Bool} → b ≡ false → b ≡ true → ⊥
      not_true f t = cc

  add_left : (xs : List (Entry K O)) (j : K) → left_in limit (add_idle j xs) ≡ left_in limit xs + (limit + 1)
  add_left [] j = omega arith
  add_left (x ∷ xs) j = let b = add_left xs j in omega arith

module _ {K O A : Type 0} (same : K → K → Bool) (eq : IsEquality same) (limit : ℕ) (program : K → Query K O A O) (seeds : List K) where
  need_less : (st : List (Entry K O)) (k j : K) → IsSound same program seeds st → at same st k ≡ Some Idle → found (table same st) (program k) ≡ Need j → (v : Option (Status K O)) → at same st j ≡ v → (need_answer limit st v ≡ Full → ⊥) → left limit (need same limit st k j v) < left limit st
  need_less st k j h idle f (Some s) e n =
      let a = wait_left same eq limit st k j h.apart idle in
      let l = length-change (λ x s. cond (same x k) (Waiting j) s) st in
      rw l (omega arith)
  need_less st k j h idle f None e n =
      (elim (nat_lt (length st) limit) as (λ b. nat_lt (length st) limit ≡ b → (cond b Waits Full ≡ Full → ⊥) → left limit (cond b (wait same k j (add_idle j st)) st) < left limit st) [
        | true ↦ λ d m.
            let more = sound_add same eq program seeds st j h e (demanded_need same eq program seeds st k j h idle f) in
            let a = wait_left same eq limit (add_idle j st) k j more.apart (add_keeps same eq program seeds st j k Idle idle) in
            let b = add_left same eq limit st j in
            let t : length st < limit = ltb-true _ _ d in
            rw (length-change (λ x s. cond (same x k) (Waiting j) s) (add_idle j st), length-push st (record { key = j; status = Idle })) (drop_one limit (length st) (left_in limit st) (left_in limit (wait same k j (add_idle j st))) t (omega arith))
        | false ↦ λ d m. absurd (m refl)
      ]) refl n

  turn_less : (st : List (Entry K O)) (k : K) → IsSound same program seeds st → length st ≤ limit → at same st k ≡ Some Idle → (e : Found K O) → found (table same st) (program k) ≡ e → (turn_answer same limit st e ≡ Full → ⊥) → left limit (turn same limit st k e) < left limit st
  turn_less st k h w idle (Ready o) f n =
      let a = resolve_left same eq limit st k o h.apart idle in
      rw (length-change (λ x s. cond (same x k) (Resolved o) (woken same k s)) st) (omega arith)
  turn_less st k h w idle (Need j) f n = need_less st k j h idle f (at same st j) refl n

  -- A pick of an idle key that isn't Full leaves less to do.
  pub pick_less : (st : List (Entry K O)) (k : K) → IsSound same program seeds st → length st ≤ limit → at same st k ≡ Some Idle → (answer same limit program st k ≡ Full → ⊥) → left limit (turn same limit st k (found (table same st) (program k))) < left limit st
  pick_less st k h w idle n = turn_less st k h w idle (found (table same st) (program k)) refl n
