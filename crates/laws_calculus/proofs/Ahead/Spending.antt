-- The steps of picks where some take none.
use Rattle.std.proofs.Common.{◌≡◌, inl, inr, ℕ, ◌+◌, ◌-◌, ◌^◌, ◌<◌, ◌≤◌, if◌then◌else◌, sym, ◌∙◌, List, [], ◌∷◌, Bool, true, false, cond, Option, Some, None, length, nat_lt, refl, subst, arith}
use Rattle.gl_calculus.specs.Computation.Lists.{IsEquality}
use Rattle.gl_calculus.specs.Computation.Query.{Query, Found, Ready, Need, found}
use Rattle.gl_machine.specs.Machine.{Status, Waiting, Entry, at, table, wait, add_idle, need, turn, idle_keys, nth, picked, pick, picks, start, IsSound, turn_answer}
use Rattle.gl_machine.specs.Machine as Machine
use Rattle.gl_machine.specs.Costs.{step_of, step_at, steps, answer_at, settled_of, settled}
use Rattle.laws_calculus.proofs.Query.Steps.{sound_pick, sound_start}
use Rattle.laws_calculus.proofs.Query.Least.{picked_settled}
use Rattle.laws_calculus.proofs.Query.Proved.{steps_within}
use borrow.Author.Tests.{ltb-false}
use Rattle.laws_calculus.proofs.Query.Credit.{picked_credit}
use Rattle.gl_machine.specs.Ahead.Spent.{Spent, Over, One, Free, one_more, counted, AtMostCounted}
use Rattle.laws_calculus.specs.Ahead.{SpentWithin, BoundsStay}

module _ {K O : Type 0} (same : K → K → Bool) (noted : K → Bool) where
  wait_of : (b : Bool) (s : Status K O) (j : K) (n : ℕ) → settled_of (cond b (Waiting j) s) n ≤ settled_of s n
  wait_of true s j n = omega arith
  wait_of false s j n = omega arith

  wait_free : (xs : List (Entry K O)) (k j : K) → settled noted (wait same k j xs) ≤ settled noted xs
  wait_free [] k j = omega arith
  wait_free (x ∷ xs) k j =
      let a = wait_of (same x.key k) x.status j (step_of noted x.key) in
      let b = wait_free xs k j in
      omega arith

  add_free : (xs : List (Entry K O)) (j : K) → settled noted (add_idle j xs) ≡ settled noted xs
  add_free [] j = refl
  add_free (x ∷ xs) j = let b = add_free xs j in omega arith

  need_free : (limit : ℕ) (st : List (Entry K O)) (k j : K) (v : Option (Status K O)) → settled noted (need same limit st k j v) ≤ settled noted st
  need_free limit st k j (Some s) = wait_free st k j
  need_free limit st k j None =
      elim (nat_lt (length st) limit) as (λ b. settled noted (cond b (wait same k j (add_idle j st)) st) ≤ settled noted st) [
        | true ↦ let a = wait_free (add_idle j st) k j in let b = add_free st j in omega arith
        | false ↦ omega arith
      ]

module _ {K O A : Type 0} (same : K → K → Bool) (eq : IsEquality same) (limit : ℕ) (program : K → Query K O A O) (seeds : List K) (noted : K → Bool) where
  -- a pick that doesn't resolve its key settles nothing
  pub picked_free : (st : List (Entry K O)) (v : Option K) → (answer_at same limit program st v ≡ Machine.Picked.Resolved → ⊥) → settled noted (picked same limit program st v) ≤ settled noted st
  picked_free st None n = omega arith
  picked_free st (Some k) n = by (found (table same st) (program k)) n
    where
      by : (e : Found K O) → (turn_answer same limit st e ≡ Machine.Picked.Resolved → ⊥) → settled noted (turn same limit st k e) ≤ settled noted st
      by (Ready o) m = absurd (m refl)
      by (Need j) m = need_free same noted limit st k j (at same st j)

  pub spent_most : {st : List (Entry K O)} {is : List ℕ} {n : ℕ} → Spent same limit program noted st is n → n ≤ steps same limit program noted st is
  spent_most Over = omega arith
  spent_most (One s) = let a = spent_most s in omega arith
  spent_most (Free n s) = let a = spent_most s in omega arith

  pub spent_least : {st : List (Entry K O)} {is : List ℕ} {n : ℕ} → Spent same limit program noted st is n → IsSound same program seeds st → settled noted (picks same limit program st is) ≤ settled noted st + n
  spent_least Over h = omega arith
  spent_least (One {st = st} {i = i} s) h =
      let a = picked_settled same eq limit program seeds noted st h.apart (nth (idle_keys st) i) in
      let b = spent_least s (sound_pick same eq program seeds limit st i h) in
      omega arith
  spent_least (Free {st = st} {i = i} m s) h =
      let a = picked_free st (nth (idle_keys st) i) m in
      let b = spent_least s (sound_pick same eq program seeds limit st i h) in
      omega arith

none_settled : {K : Type 0} (O : Type 0) (noted : K → Bool) (ks : List K) → settled noted (start {O = O} ks) ≡ 0
none_settled O noted [] = refl
none_settled O noted (k ∷ ks) = let h = none_settled O noted ks in omega arith

pub spent_within : (K O A : Type 0) → SpentWithin K O A
spent_within K O A same limit program seeds noted is n cs eq d room s e r =
    let (x, y) = steps_within K O A same limit program seeds noted is cs eq d room e r in
    let a = spent_most same eq limit program seeds noted s in
    let b = spent_least same eq limit program seeds noted s (sound_start same eq program seeds d) in
    let z = none_settled O noted seeds in
    (omega arith, omega arith)

-- ---- counting

more_by : (n : ℕ) (b : Bool) → (n ≤ (if b then n + 1 else n)) × ((if b then n + 1 else n) ≤ n + 1)
more_by n true = (omega arith, omega arith)
more_by n false = (omega arith, omega arith)

one_by : (n : ℕ) (b : Bool) → nat_lt n 18446744073709551615 ≡ b → (if b then n + 1 else n) < 2 ^ 64 - 1 → ((if b then n + 1 else n) ≡ n + 1) × (n < 2 ^ 64 - 1)
one_by n true e h = (refl, omega arith)
one_by n false e h = let a = ltb-false _ _ e in absurd (omega arith)

module _ {K : Type 0} (noted : K → Bool) where
  counted_between : (v : Option K) (n : ℕ) → (n ≤ counted noted v n) × (counted noted v n ≤ n + step_at noted v)
  counted_between None n = (omega arith, omega arith)
  counted_between (Some k) n = by (noted k)
    where
      by : (b : Bool) → (n ≤ cond b n (one_more n)) × (cond b n (one_more n) ≤ n + cond b 0 1)
      by true = (omega arith, omega arith)
      by false = more_by n (nat_lt n 18446744073709551615)

  counted_exactly : (v : Option K) (n : ℕ) → counted noted v n < 2 ^ 64 - 1 → (counted noted v n ≡ n + step_at noted v) × (n < 2 ^ 64 - 1)
  counted_exactly None n h = (omega arith, h)
  counted_exactly (Some k) n h = by (noted k) h
    where
      by : (b : Bool) → cond b n (one_more n) < 2 ^ 64 - 1 → (cond b n (one_more n) ≡ n + cond b 0 1) × (n < 2 ^ 64 - 1)
      by true h = (omega arith, h)
      by false h = one_by n (nat_lt n 18446744073709551615) refl h

  between : (v : Option K) (m m' : ℕ) → AtMostCounted noted v m m' → (m ≤ m') × (m' ≤ m + step_at noted v)
  between v m m' (inl d) = (omega arith, omega arith)
  between v m m' (inr d) = let (a, b) = counted_between v m in (omega arith, omega arith)

module _ (K O A : Type 0) (same : K → K → Bool) (limit : ℕ) (program : K → Query K O A O) (seeds : List K) (noted : K → Bool) (st : List (Entry K O)) (i n first m m' : ℕ) (eq : IsEquality same) (sound : IsSound same program seeds st)
    (low : m < 2 ^ 64 - 1 → n + settled noted st ≤ m + first) (count : AtMostCounted noted (nth (idle_keys st) i) m m') where
  -- where the key is resolved, and where not
  exact_low : m' ≡ counted noted (nth (idle_keys st) i) m → m' < 2 ^ 64 - 1 → n + settled noted (pick same limit program st i) ≤ m' + first
  exact_low e b =
      let (u, l) = counted_exactly noted (nth (idle_keys st) i) m (subst (λ x. x < 2 ^ 64 - 1) e b) in
      let y = low l in
      let s = picked_settled same eq limit program seeds noted st sound.apart (nth (idle_keys st) i) in
      omega (arith, u, y, s, e)

  free_low : (answer_at same limit program st (nth (idle_keys st) i) ≡ Machine.Picked.Resolved → ⊥) → m' < 2 ^ 64 - 1 → n + settled noted (pick same limit program st i) ≤ m' + first
  free_low none b =
      let (x, z) = between noted (nth (idle_keys st) i) m m' count in
      let l : m < 2 ^ 64 - 1 = omega (arith, x, b) in
      let y = low l in
      let s = picked_free same eq limit program seeds noted st (nth (idle_keys st) i) none in
      omega (arith, x, y, s)

  low_by : (a : Machine.Picked) → answer_at same limit program st (nth (idle_keys st) i) ≡ a → (answer_at same limit program st (nth (idle_keys st) i) ≡ Machine.Picked.Resolved → m' ≡ counted noted (nth (idle_keys st) i) m) → m' < 2 ^ 64 - 1 → n + settled noted (pick same limit program st i) ≤ m' + first
  low_by Machine.Picked.Resolved e x b = exact_low (x e) b
  low_by Machine.Picked.Waits e x b = free_low (λ d. let no : Machine.Picked.Waits ≡ Machine.Picked.Resolved = sym e ∙ d in cc no) b
  low_by Machine.Picked.Full e x b = free_low (λ d. let no : Machine.Picked.Full ≡ Machine.Picked.Resolved = sym e ∙ d in cc no) b

pub bounds_stay : (K O A : Type 0) → BoundsStay K O A
bounds_stay K O A same limit program seeds noted st i n first m m' eq sound room high low count exact =
    let (x, z) = between noted (nth (idle_keys st) i) m m' count in
    let c = picked_credit same eq limit program seeds noted st i sound (nth (idle_keys st) i) refl room in
    (omega (arith, high, z, c), low_by K O A same limit program seeds noted st i n first m m' eq sound low count (answer_at same limit program st (nth (idle_keys st) i)) refl exact)
