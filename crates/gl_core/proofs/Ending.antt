-- A run of picks: what each of them keeps, and what the end says.
use Rattle.std.proofs.Common.{◌≡◌, ℕ, zero, suc, ◌+◌, ◌-◌, ◌<◌, ◌≤◌, ◌^◌, List, [], ◌∷◌, ◌++◌, ◌⊎◌, ◌||◌, Bool, true, false, cond, if◌then◌else◌, Option, Some, None, length, nat_lt, refl, sym, ap, ◌∙◌, subst, arith, inl, inr}
use Rattle.std.specs.List.{list_any}
use Rattle.gl_calculus.specs.Computation.Lists.{Member, AreDistinct, MoreThan}
use Rattle.gl_calculus.specs.Computation.Query.{Query, Found, Ready, Need, found}
use Rattle.gl_machine.specs.Quiet.{IsQuiet}
use Rattle.gl_machine.specs.Machine.{Status, Idle, Waiting, Resolved, at, table, change, need_answer, woken, wait, add_idle, need, turn, idle_keys, keys, nth, picked, pick, Picked, turn_answer, answer, left}
use Rattle.gl_calculus.specs.Computation.Demanded.{Demanded}
use Rattle.gl_machine.specs.Costs.{answer_at, total, settled, unnoted, allowed}
use Rattle.gl_calculus.specs.Steps.Counted.{Counted, counted_keys, AreReads, sum_reads}
use Rattle.laws_calculus.proofs.Query.Lookups.{mapped, at-change, nth_member, at-idle}
use Rattle.laws_calculus.proofs.Query.Steps.{true_table}
use Rattle.laws_calculus.proofs.Query.Quiet.{quiet}
use Rattle.laws_calculus.proofs.Query.Counts.{full_demands, pick_less}
use Rattle.laws_calculus.proofs.Query.Credit.{credit_allowed, full_allowed}
use Rattle.laws_calculus.proofs.Query.Bound.{allowed_within}
use Rattle.laws_calculus.proofs.Query.Tables.{quiet_reads}
use Rattle.laws_calculus.proofs.Query.Proved.{no_idle}
use Rattle.gl_calculus.specs.Grid.Limits.{max_demanded}
use Rattle.gl_calculus.specs.Grid.Grid.{Range}
use Rattle.gl_calculus.specs.Evaluation.Key as K
use Rattle.gl_calculus.specs.Evaluation.Key.{same_key}
use Rattle.gl_calculus.specs.Evaluation.World.{World}
use Rattle.gl_calculus.specs.Evaluation.Evaluation.{program}
use Rattle.gl_calculus.specs.Calculation.Memory.{Notes}
use Rattle.gl_calculus.proofs.Tests.{key_equality}
use Rattle.gl_machine.specs.Ahead.Spent as Spent
use Rattle.laws_calculus.proofs.Ahead.Spending.{bounds_stay}
use Rattle.gl_demand.specs.Steps.{one_more}
use Rattle.gl_core.specs.Held.{Held}
use Rattle.gl_core.specs.State.{State, state_of, seeds_of, notes_in, is_noted, newly_noted, noted_after, IsFor}
use Rattle.gl_machine.specs.InOrder.{AreOrdered}
use Rattle.gl_calculus.specs.Computation.Notes.{note_keys}
use Rattle.gl_calculus.specs.Steps.Allowance.{Allows, HasReads}
use Rattle.gl_core.specs.Answers.{counted, AtMostCounted, IsUnnoted}
use Rattle.gl_core.proofs.Seeing.{none_of}

-- a run of picks from one core to another, with the count of steps
pub record IsRun (W : World) (first now : Held) (n m : ℕ) : Type 0 where
  pub for_it : IsFor W now
  pub seeds : seeds_of now ≡ seeds_of first
  pub ordered : AreOrdered [] (notes_in first) → AreOrdered [] (notes_in now)
  pub stay : (k : K.Key) → is_noted (notes_in first) k ≡ true → is_noted (notes_in now) k ≡ true
  pub before : (k : K.Key) → is_noted (notes_in now) k ≡ true → (is_noted (notes_in first) k ≡ true) ⊎ ((o : K.Outcome) × (at same_key (state_of now) k ≡ Some (Resolved o)))
  pub most : m ≤ n + total same_key (program W) (is_noted (notes_in first)) (state_of now)
  pub least : m < 2 ^ 64 - 1 → n + settled (is_noted (notes_in first)) (state_of now) ≤ m + settled (is_noted (notes_in first)) (state_of first)
  pub later : n ≤ m

pub run_begun : (W : World) (c : Held) (n : ℕ) → IsFor W c → IsRun W c c n n
run_begun W c n h = record { for_it = h; seeds = refl; ordered = λ o. o; stay = λ k e. e; before = λ k e. inl e; most = omega arith; least = λ l. omega arith; later = omega arith }

-- ---- notes by their keys

noted_by_keys : (ns : Notes) (k : K.Key) → is_noted ns k ≡ list_any (same_key k) (note_keys ns)
noted_by_keys [] k = refl
noted_by_keys (n ∷ ns) k = ap (λ b. same_key k n.key || b) (noted_by_keys ns k)

any_append : (test : K.Key → Bool) (xs ys : List K.Key) → list_any test (xs ++ ys) ≡ (list_any test xs || list_any test ys)
any_append test [] ys = refl
any_append test (x ∷ xs) ys = ap (λ b. test x || b) (any_append test xs ys) ∙ by (test x)
  where
    by : (b : Bool) → (b || (list_any test xs || list_any test ys)) ≡ ((b || list_any test xs) || list_any test ys)
    by true = refl
    by false = refl

or_left : (a b : Bool) → a ≡ true → (a || b) ≡ true
or_left true b e = refl
or_left false b e = absurd (cc e)

or_cases : (a b : Bool) {P : Type 0} → (a || b) ≡ true → (a ≡ true → P) → (b ≡ true → P) → P
or_cases true b e f g = f refl
or_cases false b e f g = g e

new_one : (ns : Notes) (k j : K.Key) (a : Picked) → list_any (same_key j) (newly_noted ns k a) ≡ true → (j ≡ k) × (a ≡ Picked.Resolved)
new_one ns k j Picked.Waits e = absurd (cc e)
new_one ns k j Picked.Full e = absurd (cc e)
new_one ns k j Picked.Resolved e = by (is_noted ns k) e
  where
    one : (b : Bool) → same_key j k ≡ b → (b || false) ≡ true → j ≡ k
    one true t d = key_equality.0 _ _ t
    one false t d = absurd (cc d)

    by : (b : Bool) → list_any (same_key j) (cond b [] (k ∷ [])) ≡ true → (j ≡ k) × (Picked.Resolved ≡ Picked.Resolved)
    by true d = absurd (cc d)
    by false d = (one (same_key j k) refl d, refl)

module _ (old new : Notes) (k : K.Key) (a : Picked) (e : note_keys new ≡ noted_after old (Some k) a) where
  split : (j : K.Key) → is_noted new j ≡ (is_noted old j || list_any (same_key j) (newly_noted old k a))
  split j = noted_by_keys new j ∙ ap (list_any (same_key j)) e ∙ any_append (same_key j) (note_keys old) (newly_noted old k a) ∙ ap (λ b. b || list_any (same_key j) (newly_noted old k a)) (sym (noted_by_keys old j))

  kept_noted : (j : K.Key) → is_noted old j ≡ true → is_noted new j ≡ true
  kept_noted j d = split j ∙ or_left (is_noted old j) (list_any (same_key j) (newly_noted old k a)) d

  noted_from : (j : K.Key) {P : Type 0} → is_noted new j ≡ true → (is_noted old j ≡ true → P) → ((j ≡ k) → (a ≡ Picked.Resolved) → P) → P
  noted_from j d f g = or_cases (is_noted old j) (list_any (same_key j) (newly_noted old k a)) (sym (split j) ∙ d) f (λ x. let (s, t) = new_one old k j a x in g s t)

-- ---- resolved keys stay resolved

changed_stays : (g : K.Key → Status K.Key K.Outcome → Status K.Key K.Outcome) (st : State) (j : K.Key) (o : K.Outcome) → g j (Resolved o) ≡ Resolved o → at same_key st j ≡ Some (Resolved o) → at same_key (change g st) j ≡ Some (Resolved o)
changed_stays g st j o e d = at-change same_key key_equality g st j ∙ ap (mapped (g j)) d ∙ ap Some e

added_stays : (st : State) (i j : K.Key) (o : K.Outcome) → at same_key st j ≡ Some (Resolved o) → at same_key (add_idle i st) j ≡ Some (Resolved o)
added_stays [] i j o e = absurd (cc e)
added_stays (x ∷ st) i j o e = by (same_key j x.key) e (added_stays st i j o)
  where
    by : (b : Bool) → cond b (Some x.status) (at same_key st j) ≡ Some (Resolved o) → (at same_key st j ≡ Some (Resolved o) → at same_key (add_idle i st) j ≡ Some (Resolved o)) → cond b (Some x.status) (at same_key (add_idle i st) j) ≡ Some (Resolved o)
    by true d r = d
    by false d r = r d

module _ (st : State) (k : K.Key) (idle : at same_key st k ≡ Some Idle) where
  unlike : (j : K.Key) (o : K.Outcome) → at same_key st j ≡ Some (Resolved o) → same_key j k ≡ false
  unlike j o e = by (same_key j k) refl
    where
      by : (b : Bool) → same_key j k ≡ b → b ≡ false
      by true t = let s : j ≡ k = key_equality.0 _ _ t in let no : Some (Resolved o) ≡ Some Idle = sym e ∙ ap (at same_key st) s ∙ idle in absurd (cc no)
      by false t = refl

  turn_stays : (limit : ℕ) (e : Found K.Key K.Outcome) (j : K.Key) (o : K.Outcome) → at same_key st j ≡ Some (Resolved o) → at same_key (turn same_key limit st k e) j ≡ Some (Resolved o)
  turn_stays limit (Ready x) j o d = changed_stays (λ y s. cond (same_key y k) (Resolved x) (woken same_key k s)) st j o (ap (λ b. cond b (Resolved x) (Resolved o)) (unlike j o d)) d
  turn_stays limit (Need i) j o d = by (at same_key st i)
    where
      by : (v : Option (Status K.Key K.Outcome)) → at same_key (need same_key limit st k i v) j ≡ Some (Resolved o)
      by (Some s) = changed_stays (λ y s. cond (same_key y k) (Waiting i) s) st j o (ap (λ b. cond b (Waiting i) (Resolved o)) (unlike j o d)) d
      by None = room (nat_lt (length st) limit)
        where
          room : (b : Bool) → at same_key (cond b (wait same_key k i (add_idle i st)) st) j ≡ Some (Resolved o)
          room true = changed_stays (λ y s. cond (same_key y k) (Waiting i) s) (add_idle i st) j o (ap (λ b. cond b (Waiting i) (Resolved o)) (unlike j o d)) (added_stays st i j o d)
          room false = d

  -- the key that was picked is resolved, where the answer says so
  turn_resolves : (limit : ℕ) (e : Found K.Key K.Outcome) → turn_answer same_key limit st e ≡ Picked.Resolved → (o : K.Outcome) × (at same_key (turn same_key limit st k e) k ≡ Some (Resolved o))
  turn_resolves limit (Ready x) d = (x, at-change same_key key_equality (λ y s. cond (same_key y k) (Resolved x) (woken same_key k s)) st k ∙ ap (mapped (λ s. cond (same_key k k) (Resolved x) (woken same_key k s))) idle ∙ ap (λ b. Some (cond b (Resolved x) Idle)) (key_equality.1 k))
  turn_resolves limit (Need i) d = absurd (no (at same_key st i) d)
    where
      room : (b : Bool) → cond b Picked.Waits Picked.Full ≡ Picked.Resolved → ⊥
      room true e = cc e
      room false e = cc e

      no : (v : Option (Status K.Key K.Outcome)) → need_answer limit st v ≡ Picked.Resolved → ⊥
      no (Some s) e = cc e
      no None e = room (nat_lt (length st) limit) e

-- ---- counting

counts_up : (n : ℕ) → one_more n ≤ n + 1
counts_up n = by (nat_lt n 18446744073709551615)
  where
    by : (b : Bool) → (if b then n + 1 else n) ≤ n + 1
    by true = omega arith
    by false = omega arith

counts_on : (n : ℕ) → n ≤ one_more n
counts_on n = by (nat_lt n 18446744073709551615)
  where
    by : (b : Bool) → n ≤ (if b then n + 1 else n)
    by true = omega arith
    by false = omega arith

pub counted_later : (noted : K.Key → Bool) (v : Option K.Key) (n m : ℕ) → AtMostCounted noted v n m → n ≤ m
counted_later noted v n m (inl e) = omega (arith, e)
counted_later noted None n m (inr e) = omega (arith, e)
counted_later noted (Some k) n m (inr e) = by (noted k) e
  where
    by : (b : Bool) → m ≡ cond b n (one_more n) → n ≤ m
    by true d = omega (arith, d)
    by false d = let u = counts_on n in omega (arith, d, u)

counted_most : (b : Bool) (n : ℕ) → cond b n (one_more n) ≤ n + cond b 0 1
counted_most true n = omega arith
counted_most false n = counts_up n

at_most_counted : (b : Bool) (n m : ℕ) → (m ≡ n) ⊎ (m ≡ cond b n (one_more n)) → m ≤ n + cond b 0 1
at_most_counted b n m (inl e) = omega (arith, e)
at_most_counted b n m (inr e) = let u = counted_most b n in omega (arith, e, u)

same_bools : (a b : Bool) → (a ≡ true → b ≡ true) → (b ≡ true → a ≡ true) → a ≡ b
same_bools true b f g = sym (f refl)
same_bools false true f g = g refl
same_bools false false f g = refl

nth_there : {X : Type 0} (xs : List X) (i : ℕ) → i < length xs → (x : X) × (nth xs i ≡ Some x)
nth_there [] i l = absurd (omega arith)
nth_there (x ∷ xs) zero l = (x, refl)
nth_there (x ∷ xs) (suc i) l = nth_there xs i (omega arith)

module _ (W : World) (first c : Held) (n m : ℕ) (h : IsRun W first c n m) (i : ℕ) (l : i < length (idle_keys (state_of c))) where
  P : K.Key → Query K.Key K.Outcome Range K.Outcome
  P = program W

  N : K.Key → Bool
  N = is_noted (notes_in first)

  the_key : (k : K.Key) × (nth (idle_keys (state_of c)) i ≡ Some k)
  the_key = nth_there (idle_keys (state_of c)) i l

  idle_there : (k : K.Key) → nth (idle_keys (state_of c)) i ≡ Some k → at same_key (state_of c) k ≡ Some Idle
  idle_there k e = at-idle same_key key_equality (state_of c) k h.for_it.sound.apart (nth_member (idle_keys (state_of c)) i k e)

  -- an idle key has a note where it had one at first
  same_noted : (k : K.Key) → at same_key (state_of c) k ≡ Some Idle → is_noted (notes_in c) k ≡ is_noted (notes_in first) k
  same_noted k idle = same_bools (is_noted (notes_in c) k) (is_noted (notes_in first) k) (λ e. elim (h.before k e) [ inl x ↦ x | inr (o, d) ↦ let no : Some Idle ≡ Some (Resolved o) = sym idle ∙ d in absurd (cc no) ]) (h.stay k)

  steps_now : (k : K.Key) → nth (idle_keys (state_of c)) i ≡ Some k → counted (is_noted (notes_in c)) (nth (idle_keys (state_of c)) i) m ≡ cond (is_noted (notes_in first) k) m (one_more m)
  steps_now k e = ap (λ v. counted (is_noted (notes_in c)) v m) e ∙ ap (λ b. cond b m (one_more m)) (same_noted k (idle_there k e))

  -- a count by the notes that there are is one by the first notes
  steps_first : counted (is_noted (notes_in c)) (nth (idle_keys (state_of c)) i) m ≡ Spent.counted (is_noted (notes_in first)) (nth (idle_keys (state_of c)) i) m
  steps_first = let (k, ek) = the_key in steps_now k ek ∙ sym (ap (λ v. Spent.counted (is_noted (notes_in first)) v m) ek)

  bounds : (m' : ℕ) → (answer_at same_key max_demanded (program W) (state_of c) (nth (idle_keys (state_of c)) i) ≡ Picked.Full → ⊥) → AtMostCounted (is_noted (notes_in c)) (nth (idle_keys (state_of c)) i) m m' →
      (answer_at same_key max_demanded (program W) (state_of c) (nth (idle_keys (state_of c)) i) ≡ Picked.Resolved → m' ≡ counted (is_noted (notes_in c)) (nth (idle_keys (state_of c)) i) m) →
      (m' ≤ n + total same_key (program W) (is_noted (notes_in first)) (pick same_key max_demanded (program W) (state_of c) i)) × (m' < 2 ^ 64 - 1 → n + settled (is_noted (notes_in first)) (pick same_key max_demanded (program W) (state_of c) i) ≤ m' + settled (is_noted (notes_in first)) (state_of first))
  bounds m' room count exact =
      bounds_stay K.Key K.Outcome Range same_key max_demanded (program W) (seeds_of c) (is_noted (notes_in first)) (state_of c) i n (settled (is_noted (notes_in first)) (state_of first)) m m' key_equality h.for_it.sound room h.most h.least
      (subst (λ x. (m' ≡ m) ⊎ (m' ≡ x)) steps_first count) (λ a. exact a ∙ steps_first)

  pub run_goes : (c' : Held) (m' : ℕ) (a : Picked) → state_of c' ≡ pick same_key max_demanded (program W) (state_of c) i → a ≡ answer_at same_key max_demanded (program W) (state_of c) (nth (idle_keys (state_of c)) i) → (a ≡ Picked.Full → ⊥) →
      note_keys (notes_in c') ≡ noted_after (notes_in c) (nth (idle_keys (state_of c)) i) a → IsFor W c' → seeds_of c' ≡ seeds_of c → (AreOrdered [] (notes_in c) → AreOrdered [] (notes_in c')) → AtMostCounted (is_noted (notes_in c)) (nth (idle_keys (state_of c)) i) m m' → (a ≡ Picked.Resolved → m' ≡ counted (is_noted (notes_in c)) (nth (idle_keys (state_of c)) i) m) → IsRun W first c' n m'
  run_goes c' m' a state answered not_full notes for' seeds' ordered count exact =
      let (k, ek) = the_key in
      let st = state_of c in
      let p = program W in
      let noted = is_noted (notes_in first) in
      let idle = idle_there k ek in
      let e = found (table same_key st) (p k) in
      let turned : state_of c' ≡ turn same_key max_demanded st k e = state ∙ ap (picked same_key max_demanded p st) ek in
      let answer_is : a ≡ turn_answer same_key max_demanded st e = answered ∙ ap (answer_at same_key max_demanded p st) ek in
      let notes' : note_keys (notes_in c') ≡ noted_after (notes_in c) (Some k) a = notes ∙ ap (λ v. noted_after (notes_in c) v a) ek in
      let (high, low) = bounds m' (λ f. not_full (answered ∙ f)) count (λ f. exact (answered ∙ f)) in
      record {
        for_it = for';
        seeds = seeds' ∙ h.seeds;
        ordered = λ o. ordered (h.ordered o);
        stay = λ j d. kept_noted (notes_in c) (notes_in c') k a notes' j (h.stay j d);
        before = λ j d. noted_from (notes_in c) (notes_in c') k a notes' j d
            (λ x. elim (h.before j x) [
              | inl y ↦ inl y
              | inr (o, y) ↦ inr (o, ap (λ t. at same_key t j) turned ∙ turn_stays st k idle max_demanded e j o y)
            ])
            (λ s t. let (o, r) = turn_resolves st k idle max_demanded e (sym answer_is ∙ t) in inr (o, ap (at same_key (state_of c')) s ∙ ap (λ x. at same_key x k) turned ∙ r));
        most = subst (λ t. m' ≤ n + total same_key p noted t) (sym state) high;
        least = λ b. subst (λ t. n + settled noted t ≤ m' + settled noted (state_of first)) (sym state) (low b);
        later = let up = counted_later (is_noted (notes_in c)) (nth (idle_keys st) i) m m' count in omega (arith, h.later, up);
      }

  -- a pick that isn't Full leaves less to do
  pub run_ends : (c' : Held) (a : Picked) → state_of c' ≡ pick same_key max_demanded (program W) (state_of c) i → a ≡ answer_at same_key max_demanded (program W) (state_of c) (nth (idle_keys (state_of c)) i) → (a ≡ Picked.Full → ⊥) → left max_demanded (state_of c') < left max_demanded (state_of c)
  run_ends c' a state answered not_full =
      let (k, ek) = the_key in
      let st = state_of c in
      let p = program W in
      let n' : answer same_key max_demanded p st k ≡ Picked.Full → ⊥ = λ f. not_full (answered ∙ ap (answer_at same_key max_demanded p st) ek ∙ f) in
      subst (λ t. left max_demanded t < left max_demanded st) (sym (state ∙ ap (picked same_key max_demanded p st) ek)) (pick_less same_key key_equality max_demanded p (seeds_of c) st k h.for_it.sound h.for_it.within (idle_there k ek) n')

  module _ (full : Picked.Full ≡ answer_at same_key max_demanded (program W) (state_of c) (nth (idle_keys (state_of c)) i)) where
    full_key : (k : K.Key) → nth (idle_keys (state_of c)) i ≡ Some k → answer same_key max_demanded (program W) (state_of c) k ≡ Picked.Full
    full_key k ek = sym (full ∙ ap (answer_at same_key max_demanded (program W) (state_of c)) ek)

    -- a Full pick shows that too many keys are demanded
    pub run_full : MoreThan max_demanded (Demanded (program W) (seeds_of first))
    run_full =
        let (k, ek) = the_key in
        let (xs, s, d, each) = full_demands same_key key_equality max_demanded (program W) (seeds_of c) (state_of c) k h.for_it.sound h.for_it.within (idle_there k ek) (full_key k ek) in
        (xs, omega arith, d, λ x m. subst (λ t. Demanded (program W) t x) h.seeds (each x m))

-- ---- the end

known_key : (st : State) (k : K.Key) → Member k (keys st) → (s : Status K.Key K.Outcome) × (at same_key st k ≡ Some s)
known_key [] k m = absurd m
known_key (x ∷ st) k (inl e) = (x.status, ap (λ b. cond b (Some x.status) (at same_key st k)) (ap (same_key k) (sym e) ∙ key_equality.1 k))
known_key (x ∷ st) k (inr m) = by (same_key k x.key) (known_key st k m)
  where
    by : (b : Bool) → (s : Status K.Key K.Outcome) × (at same_key st k ≡ Some s) → (s : Status K.Key K.Outcome) × (cond b (Some x.status) (at same_key st k) ≡ Some s)
    by true r = (x.status, refl)
    by false r = r

module _ (noted : K.Key → Bool) where
  among : (st : State) (k : K.Key) → Member k (unnoted noted st) → Member k (keys st) × (noted k ≡ false)
  among [] k m = absurd m
  among (x ∷ st) k m = by (noted x.key) refl m (among st k)
    where
      by : (b : Bool) → noted x.key ≡ b → Member k (cond b (unnoted noted st) (x.key ∷ unnoted noted st)) → (Member k (unnoted noted st) → Member k (keys st) × (noted k ≡ false)) → Member k (x.key ∷ keys st) × (noted k ≡ false)
      by true e i r = let (a, b) = r i in (inr a, b)
      by false e (inl d) r = (inl d, ap noted d ∙ e)
      by false e (inr i) r = let (a, b) = r i in (inr a, b)

  unnoted_apart : (st : State) → AreDistinct (keys st) → AreDistinct (unnoted noted st)
  unnoted_apart [] d = tt
  unnoted_apart (x ∷ st) d = by (noted x.key) (unnoted_apart st d.1)
    where
      by : (b : Bool) → AreDistinct (unnoted noted st) → AreDistinct (cond b (unnoted noted st) (x.key ∷ unnoted noted st))
      by true r = r
      by false r = ((λ m. d.0 (among st x.key m).0), r)

  unnoted_few : (st : State) → length (unnoted noted st) ≤ length st
  unnoted_few [] = omega arith
  unnoted_few (x ∷ st) = by (noted x.key) (unnoted_few st)
    where
      by : (b : Bool) → length (unnoted noted st) ≤ length st → length (cond b (unnoted noted st) (x.key ∷ unnoted noted st)) ≤ suc (length st)
      by true r = omega arith
      by false r = omega arith

module _ (W : World) (first c : Held) (n m : ℕ) (h : IsRun W first c n m) where
  sums_allow : (cs : List (Counted K.Key)) → counted_keys cs ≡ unnoted (is_noted (notes_in first)) (state_of c) → AreReads same_key (program W) cs → allowed same_key (program W) (is_noted (notes_in first)) (table same_key (state_of c)) (state_of c) ≤ sum_reads cs
  sums_allow cs e r = allowed_within same_key key_equality (program W) (is_noted (notes_in first)) (table same_key (state_of c)) (true_table same_key key_equality (program W) (seeds_of c) (state_of c) h.for_it.sound) (state_of c) cs e r

  pub full_allows : (i : ℕ) → i < length (idle_keys (state_of c)) → Picked.Full ≡ answer_at same_key max_demanded (program W) (state_of c) (nth (idle_keys (state_of c)) i) → (m' : ℕ) → AtMostCounted (is_noted (notes_in c)) (nth (idle_keys (state_of c)) i) m m' →
      Allows W (IsUnnoted W (seeds_of first) (is_noted (notes_in first))) n m'
  full_allows i l full m' count =
      let st = state_of c in
      let p = program W in
      let noted = is_noted (notes_in first) in
      let (k, ek) = the_key W first c n m h i l in
      let idle = idle_there W first c n m h i l k ek in
      let up = at_most_counted (noted k) m m' (subst (λ x. (m' ≡ m) ⊎ (m' ≡ x)) (steps_now W first c n m h i l k ek) count) in
      record {
        keys = unnoted noted st;
        distinct = unnoted_apart noted st h.for_it.sound.apart;
        few = let a = unnoted_few noted st in omega (arith, a, h.for_it.within);
        each = λ x i. let (y, z) = among noted st x i in (subst (λ t. Demanded p t x) h.seeds (h.for_it.sound.demanded x (known_key st x y)), z);
        most = λ cs e r.
            let a = sums_allow cs e r in
            let b = full_allowed same_key key_equality max_demanded p (seeds_of c) noted (table same_key st) k st idle in
            omega (arith, a, b, up, h.most);
        later = let l = counted_later (is_noted (notes_in c)) (nth (idle_keys st) i) m m' count in omega (arith, h.later, l);
      }

  module _ (quiet_now : length (idle_keys (state_of c)) ≡ 0) where
    none_idle : (k : K.Key) → at same_key (state_of c) k ≡ Some Idle → ⊥
    none_idle = no_idle same_key key_equality (state_of c) (none_of (idle_keys (state_of c)) quiet_now)

    pub run_quiet : IsQuiet same_key (program W) (seeds_of first) (state_of c)
    run_quiet = subst (λ s. IsQuiet same_key (program W) s (state_of c)) h.seeds (quiet same_key key_equality (program W) (seeds_of c) (state_of c) h.for_it.sound none_idle)

    pub run_few : MoreThan max_demanded (Demanded (program W) (seeds_of first)) → ⊥
    run_few (xs, l, d, each) = let a = run_quiet.no_more xs d each in omega (arith, a, l, h.for_it.within)

    pub run_allows : Allows W (λ k. IsUnnoted W (seeds_of first) (is_noted (notes_in first)) k × HasReads W k) n m
    run_allows =
        let noted = is_noted (notes_in first) in
        let b = credit_allowed same_key key_equality max_demanded (program W) (seeds_of c) noted (table same_key (state_of c)) (state_of c) in
        record {
          keys = unnoted noted (state_of c);
          distinct = unnoted_apart noted (state_of c) h.for_it.sound.apart;
          few = let a = unnoted_few noted (state_of c) in omega (arith, a, h.for_it.within);
          each = λ k i.
              let (y, z) = among noted (state_of c) k i in
              let known = known_key (state_of c) k y in
              ((subst (λ t. Demanded (program W) t k) h.seeds (h.for_it.sound.demanded k known), z), (_, quiet_reads same_key key_equality (program W) (seeds_of c) (state_of c) h.for_it.sound none_idle k known));
          most = λ cs e r. let a = sums_allow cs e r in omega (arith, a, b, h.most);
          later = h.later;
        }
