-- Each pick adds at most what it adds to the credit of the known keys.
use Rattle.std.proofs.Common.{◌≡◌, ℕ, suc, ◌+◌, ◌≤◌, List, [], ◌∷◌, inl, inr, Bool, true, false, cond, Option, Some, None, length, nat_lt, refl, sym, ap, ◌∙◌, subst, arith, le_refl}
use Rattle.gl_calculus.specs.Computation.Lists.{Member, AreDistinct, IsEquality}
use Rattle.gl_calculus.specs.Computation.Query.{Query, Found, Ready, Need, found}
use Rattle.gl_machine.specs.Machine.{Status, Idle, Waiting, Resolved, Entry, at, table, change, changed, woken, resolve, wait, add_idle, need, turn, idle_keys, keys, nth, picked, pick, picks, IsSound, Waits, Full, need_answer, turn_answer}
use Rattle.gl_machine.specs.Costs.{step_of, step_at, steps, answer_at, HaveRoom, known_reads, allowed, spent_of, credit, credits, total}
use Rattle.laws_calculus.proofs.Query.Lookups.{same_eq, same_refl, differ, nth_member, at-idle, at-change}
use Rattle.laws_calculus.proofs.Query.Steps.{table-wait, table-add, add_keeps, resolve_more, sound_pick}
use Rattle.laws_calculus.proofs.Query.Cost.{known_grows, known_strict}

pub member_key : {K O : Type 0} (xs : List (Entry K O)) (x : Entry K O) → Member x xs → Member x.key (keys xs)
member_key [] x m = m
member_key (y ∷ ys) x (inl e) = inl (ap (λ t. t.key) e)
member_key (y ∷ ys) x (inr m) = inr (member_key ys x m)

module _ {K O : Type 0} (same : K → K → Bool) (eq : IsEquality same) where
  -- an entry of a state is what a look-up of its key gives
  pub at-entry : (xs : List (Entry K O)) (x : Entry K O) → AreDistinct (keys xs) → Member x xs → at same xs x.key ≡ Some x.status
  at-entry [] x d m = absurd m
  at-entry (y ∷ ys) x d (inl e) =
      let h : same x.key y.key ≡ true = subst (λ t. same x.key t.key ≡ true) e (same_refl same eq x.key) in
      rw h (ap (λ t. Some t.status) (sym e))
  at-entry (y ∷ ys) x d (inr m) =
      let h : same x.key y.key ≡ false = differ same eq x.key y.key (λ e. d.0 (subst (λ t. Member t (keys ys)) e (member_key ys x m))) in
      rw h (at-entry ys x d.1 m)

module _ {K O A : Type 0} (same : K → K → Bool) (eq : IsEquality same) (program : K → Query K O A O) (noted : K → Bool) where
  credits_keep : (g : K → Status K O → Status K O) (f f' : K → Option O) (xs : List (Entry K O)) → ((x : Entry K O) → Member x xs → credit same program noted f x ≤ credit same program noted f' (changed g x)) → credits same program noted f xs ≤ credits same program noted f' (change g xs)
  credits_keep g f f' [] h = omega arith
  credits_keep g f f' (x ∷ xs) h =
      let a = h x (inl refl) in
      let b = credits_keep g f f' xs (λ y m. h y (inr m)) in
      omega arith

  -- a change that takes nothing off any entry, and adds a step at `k`
  credits_more : (g : K → Status K O → Status K O) (f f' : K → Option O) (k : K) (xs : List (Entry K O)) → ((x : Entry K O) → Member x xs → credit same program noted f x ≤ credit same program noted f' (changed g x)) → ((x : Entry K O) → Member x xs → x.key ≡ k → x.status ≡ Idle → credit same program noted f x + step_of noted k ≤ credit same program noted f' (changed g x)) → at same xs k ≡ Some Idle → credits same program noted f xs + step_of noted k ≤ credits same program noted f' (change g xs)
  credits_more g f f' k [] h t e = absurd (cc e)
  credits_more g f f' k (x ∷ xs) h t e =
      (elim (same k x.key) as (λ b. same k x.key ≡ b → cond b (Some x.status) (at same xs k) ≡ Some Idle → credits same program noted f (x ∷ xs) + step_of noted k ≤ credits same program noted f' (change g (x ∷ xs))) [
        | true ↦ λ d i.
            let s : x.status ≡ Idle = cc i in
            let a = t x (inl refl) (sym (same_eq same eq k x.key d)) s in
            let b = credits_keep g f f' xs (λ y m. h y (inr m)) in
            omega arith
        | false ↦ λ d i.
            let a = h x (inl refl) in
            let b = credits_more g f f' k xs (λ y m. h y (inr m)) (λ y m. t y (inr m)) i in
            omega arith
      ]) refl e

  cond_le : (b : Bool) (m n : ℕ) → m ≤ n → cond b 0 m ≤ cond b 0 n
  cond_le true m n h = omega arith
  cond_le false m n h = h

  cond_step : (b : Bool) (m n : ℕ) → suc m ≤ n → cond b 0 m + cond b 0 1 ≤ cond b 0 n
  cond_step true m n h = omega arith
  cond_step false m n h = omega arith

  spent_wait : (b : Bool) (j : K) (s : Status K O) (n : ℕ) → spent_of s n ≤ spent_of (cond b (Waiting j) s) n
  spent_wait true j Idle n = omega arith
  spent_wait true j (Waiting i) n = omega arith
  spent_wait true j (Resolved o) n = omega arith
  spent_wait false j s n = le_refl (spent_of s n)

  wait_credit : (f : K → Option O) (xs : List (Entry K O)) (k j : K) → at same xs k ≡ Some Idle → credits same program noted f xs + step_of noted k ≤ credits same program noted f (wait same k j xs)
  wait_credit f xs k j e =
      credits_more (λ x s. cond (same x k) (Waiting j) s) f f k xs
      (λ x m. cond_le (noted x.key) _ _ (spent_wait (same x.key k) j x.status (known_reads same f (program x.key))))
      (λ x m d s. at_k x d s)
      e
    where
      at_k : (x : Entry K O) → x.key ≡ k → x.status ≡ Idle → credit same program noted f x + step_of noted k ≤ credit same program noted f (changed (λ x s. cond (same x k) (Waiting j) s) x)
      at_k x d s =
          let r : same x.key k ≡ true = subst (λ t. same x.key t ≡ true) d (same_refl same eq x.key) in
          let n = known_reads same f (program x.key) in
          let e : noted k ≡ noted x.key = ap noted (sym d) in
          rw (r, s, e) (cond_step (noted x.key) n (suc n) (omega arith))

  spent_resolve : (b : Bool) (s : Status K O) (o : O) (k : K) (m n : ℕ) → m ≤ n → (s ≡ Waiting k → suc m ≤ n) → spent_of s m ≤ spent_of (cond b (Resolved o) (woken same k s)) n
  spent_resolve true Idle o k m n h w = omega arith
  spent_resolve true (Waiting i) o k m n h w = omega arith
  spent_resolve true (Resolved x) o k m n h w = omega arith
  spent_resolve false Idle o k m n h w = h
  spent_resolve false (Waiting i) o k m n h w =
      (elim (same i k) as (λ b. same i k ≡ b → suc m ≤ spent_of {K = K} {O = O} (cond b Idle (Waiting i)) n) [
        | true ↦ λ e. w (ap Waiting (same_eq same eq i k e))
        | false ↦ λ e. omega arith
      ]) refl
  spent_resolve false (Resolved x) o k m n h w = omega arith

  resolve_credit : (f f' : K → Option O) → ((k : K) (o : O) → f k ≡ Some o → f' k ≡ Some o) → (xs : List (Entry K O)) (k : K) (o : O) → f' k ≡ Some o → ((x : Entry K O) → Member x xs → x.status ≡ Waiting k → found f (program x.key) ≡ Need k) → at same xs k ≡ Some Idle → credits same program noted f xs + step_of noted k ≤ credits same program noted f' (resolve same k o xs)
  resolve_credit f f' more xs k o known needs e =
      credits_more (λ x s. cond (same x k) (Resolved o) (woken same k s)) f f' k xs
      (λ x m. cond_le (noted x.key) _ _ (spent_resolve (same x.key k) x.status o k (known_reads same f (program x.key)) (known_reads same f' (program x.key))
      (known_grows same eq f f' more (program x.key)) (λ d. known_strict same eq f f' more (program x.key) k o (needs x m d) known)))
      (λ x m d s. at_k x d s)
      e
    where
      at_k : (x : Entry K O) → x.key ≡ k → x.status ≡ Idle → credit same program noted f x + step_of noted k ≤ credit same program noted f' (changed (λ x s. cond (same x k) (Resolved o) (woken same k s)) x)
      at_k x d s =
          let r : same x.key k ≡ true = subst (λ t. same x.key t ≡ true) d (same_refl same eq x.key) in
          let m = known_reads same f (program x.key) in
          let n = known_reads same f' (program x.key) in
          let h : m ≤ n = known_grows same eq f f' more (program x.key) in
          let e : noted k ≡ noted x.key = ap noted (sym d) in
          rw (r, s, e) (cond_step (noted x.key) m (suc n) (omega arith))

  add_credit : (f : K → Option O) (xs : List (Entry K O)) (j : K) → credits same program noted f xs ≤ credits same program noted f (add_idle j xs)
  add_credit f [] j = omega arith
  add_credit f (x ∷ xs) j = let h = add_credit f xs j in omega arith

module _ {K O A : Type 0} (same : K → K → Bool) (eq : IsEquality same) (limit : ℕ) (program : K → Query K O A O) (seeds : List K) (noted : K → Bool) where
  need_credit : (st : List (Entry K O)) (k j : K) → at same st k ≡ Some Idle → (v : Option (Status K O)) → (need_answer limit st v ≡ Full → ⊥) → total same program noted st + step_of noted k ≤ total same program noted (need same limit st k j v)
  need_credit st k j idle (Some s) n =
      subst (λ t. credits same program noted (table same st) st + step_of noted k ≤ credits same program noted t (wait same k j st)) (sym (table-wait same eq program seeds st k j idle)) (wait_credit same eq program noted (table same st) st k j idle)
  need_credit st k j idle None n =
      (elim (nat_lt (length st) limit) as (λ b. (cond b Waits Full ≡ Full → ⊥) → credits same program noted (table same st) st + step_of noted k ≤ credits same program noted (table same (cond b (wait same k j (add_idle j st)) st)) (cond b (wait same k j (add_idle j st)) st)) [
        | true ↦ λ m.
            let idle' = add_keeps same eq program seeds st j k Idle idle in
            let t : table same (wait same k j (add_idle j st)) ≡ table same st = table-wait same eq program seeds (add_idle j st) k j idle' ∙ table-add same eq program seeds st j in
            let a = add_credit same eq program noted (table same st) st j in
            let b = wait_credit same eq program noted (table same st) (add_idle j st) k j idle' in
            subst (λ t. credits same program noted (table same st) st + step_of noted k ≤ credits same program noted t (wait same k j (add_idle j st))) (sym t) (omega arith)
        | false ↦ λ m. absurd (m refl)
      ]) n

  turn_credit : (st : List (Entry K O)) (k : K) → IsSound same program seeds st → at same st k ≡ Some Idle → (e : Found K O) → found (table same st) (program k) ≡ e → (turn_answer same limit st e ≡ Full → ⊥) → total same program noted st + step_of noted k ≤ total same program noted (turn same limit st k e)
  turn_credit st k h idle (Ready o) f n =
      let known : table same (resolve same k o st) k ≡ Some o =
      rw (at-change same eq (λ x s. cond (same x k) (Resolved o) (woken same k s)) st k, idle, same_refl same eq k) refl in
      resolve_credit same eq program noted (table same st) (table same (resolve same k o st)) (resolve_more same eq program seeds st k o idle) st k o known
      (λ x m d. h.needs x.key k (at-entry same eq st x h.apart m ∙ ap Some d)) idle
  turn_credit st k h idle (Need j) f n = need_credit st k j idle (at same st j) n

  pub picked_credit : (st : List (Entry K O)) (i : ℕ) → IsSound same program seeds st → (v : Option K) → nth (idle_keys st) i ≡ v → (answer_at same limit program st v ≡ Full → ⊥) → total same program noted st + step_at noted v ≤ total same program noted (picked same limit program st v)
  picked_credit st i h None e n = omega arith
  picked_credit st i h (Some k) e n = turn_credit st k h (at-idle same eq st k h.apart (nth_member (idle_keys st) i k e)) (found (table same st) (program k)) refl n

  -- the steps of picks without Full are within what is added to the credit
  picks_credit : (is : List ℕ) (st : List (Entry K O)) → IsSound same program seeds st → HaveRoom same limit program st is → total same program noted st + steps same limit program noted st is ≤ total same program noted (picks same limit program st is)
  picks_credit [] st h r = omega arith
  picks_credit (i ∷ is) st h (n, r) =
      let a = picked_credit st i h (nth (idle_keys st) i) refl n in
      let b = picks_credit is (pick same limit program st i) (sound_pick same eq program seeds limit st i h) r in
      omega arith

  spent_within : (s : Status K O) (n : ℕ) → spent_of s n ≤ suc n
  spent_within Idle n = omega arith
  spent_within (Waiting j) n = omega arith
  spent_within (Resolved o) n = omega arith

  pub credit_allowed : (f : K → Option O) (xs : List (Entry K O)) → credits same program noted f xs ≤ allowed same program noted f xs
  credit_allowed f [] = omega arith
  credit_allowed f (x ∷ xs) =
      let a = cond_le same eq program noted (noted x.key) _ _ (spent_within x.status (known_reads same f (program x.key))) in
      let b = credit_allowed f xs in
      omega arith

  -- the last pick may be Full
  pub full_allowed : (f : K → Option O) (k : K) (xs : List (Entry K O)) → at same xs k ≡ Some Idle → credits same program noted f xs + step_of noted k ≤ allowed same program noted f xs
  full_allowed f k [] e = absurd (cc e)
  full_allowed f k (x ∷ xs) e =
      (elim (same k x.key) as (λ b. same k x.key ≡ b → cond b (Some x.status) (at same xs k) ≡ Some Idle → credits same program noted f (x ∷ xs) + step_of noted k ≤ allowed same program noted f (x ∷ xs)) [
        | true ↦ λ d i.
            let s : x.status ≡ Idle = cc i in
            let n = known_reads same f (program x.key) in
            let t : noted k ≡ noted x.key = ap noted (same_eq same eq k x.key d) in
            let a : cond (noted x.key) 0 n + cond (noted x.key) 0 1 ≤ cond (noted x.key) 0 (suc n) = cond_step same eq program noted (noted x.key) n (suc n) (omega arith) in
            let b = credit_allowed f xs in
            rw (s, t) (omega arith)
        | false ↦ λ d i.
            let a = cond_le same eq program noted (noted x.key) _ _ (spent_within x.status (known_reads same f (program x.key))) in
            let b = full_allowed f k xs i in
            omega arith
      ]) refl e

  -- The steps of picks, none of them Full, are at most what the keys known then allow.
  pub steps_allowed : (is : List ℕ) (st : List (Entry K O)) → IsSound same program seeds st → HaveRoom same limit program st is → steps same limit program noted st is ≤ allowed same program noted (table same (picks same limit program st is)) (picks same limit program st is)
  steps_allowed is st h r =
      let a = picks_credit is st h r in
      let b = credit_allowed (table same (picks same limit program st is)) (picks same limit program st is) in
      omega arith

  -- So they are with one more pick, that may be Full.
  pub steps_allowed_full : (is : List ℕ) (st : List (Entry K O)) (k : K) → IsSound same program seeds st → HaveRoom same limit program st is → at same (picks same limit program st is) k ≡ Some Idle → steps same limit program noted st is + step_of noted k ≤ allowed same program noted (table same (picks same limit program st is)) (picks same limit program st is)
  steps_allowed_full is st k h r idle =
      let a = picks_credit is st h r in
      let b = full_allowed (table same (picks same limit program st is)) k (picks same limit program st is) idle in
      omega arith
