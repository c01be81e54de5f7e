-- Each pick keeps what holds of a reached state.
use Rattle.std.proofs.Common.{◌≡◌, ℕ, List, [], ◌∷◌, ◌++◌, ◌⊎◌, inl, inr, Bool, true, false, cond, Option, Some, None, length, nat_lt, refl, sym, ap, ◌∙◌, subst}
use mathlib.Core.Path.{fun_ext}
use Rattle.gl_calculus.specs.Computation.Lists.{Member, AreDistinct, IsEquality}
use Rattle.gl_calculus.specs.Computation.Query.{Query, Found, Ready, Need, run, found, asked, looked, Path, Looks, Asks, Stops, Has, IsTrueTable}
use Rattle.gl_calculus.specs.Computation.Demanded.{Demanded, Seed, Read}
use Rattle.gl_machine.specs.Machine.{Status, Idle, Waiting, Resolved, Entry, at, outcome_of, table, change, woken, resolve, wait, add_idle, need, turn, idle_keys, keys, nth, picked, pick, picks, start, IsKnown, IsSound}
use Rattle.laws_calculus.proofs.Query.Levels.{path_over, found_run, run_more, Has-from_level}
use Rattle.laws_calculus.proofs.Query.Looping.{true_path, needs_asked, needs_fails}
use Rattle.laws_calculus.proofs.Query.Lookups.{mapped, or_else, nth_member, same_refl, same_eq, at-change, at-append, keys-change, keys-append, known_member, member_known, at-idle}

-- a walk that lacks a key lacks it too over more answers, if this key still has none
pub needs_more : {K O A : Type 0} (f g : K → Option O) → ((k : K) (o : O) → f k ≡ Some o → g k ≡ Some o) → {q : Query K O A O} {ks : List K} {ls : List A} {j : K} → Path (λ k o. f k ≡ Some o) (λ k. f k ≡ None) q ks ls (Need j) → g j ≡ None → found g q ≡ Need j
needs_more f g h (Looks p) n = needs_more f g h p n
needs_more f g h (Asks {k = k} {o = x} r p) n = rw (h k x r) (needs_more f g h p n)
needs_more f g h (Stops r) n = rw n refl

pub distinct_push : {X : Type 0} (xs : List X) (x : X) → AreDistinct xs → (Member x xs → ⊥) → AreDistinct (xs ++ x ∷ [])
distinct_push [] x d n = (λ m. m, tt)
distinct_push (y ∷ ys) x d n = (not_there ys (λ e. n (inl (sym e))) d.0, distinct_push ys x d.1 (λ m. n (inr m)))
  where
    not_there : (zs : List _) → (y ≡ x → ⊥) → (Member y zs → ⊥) → Member y (zs ++ x ∷ []) → ⊥
    not_there [] a b (inl e) = a e
    not_there [] a b (inr m) = m
    not_there (z ∷ zs) a b (inl e) = b (inl e)
    not_there (z ∷ zs) a b (inr m) = not_there zs a (λ t. b (inr t)) m

-- what a changed status comes from
wait_outcome : {K O : Type 0} (b : Bool) (v : Option (Status K O)) (j : K) → (b ≡ true → v ≡ Some Idle) → outcome_of (mapped (λ s. cond b (Waiting j) s) v) ≡ outcome_of v
wait_outcome true v j h = let e : v ≡ Some Idle = h refl in rw e refl
wait_outcome false None j h = refl
wait_outcome false (Some s) j h = refl

wait_back : {K O : Type 0} (b : Bool) (v : Option (Status K O)) (j : K) (s : Status K O) → mapped (λ s. cond b (Waiting j) s) v ≡ Some s → ((b ≡ true) × (s ≡ Waiting j)) ⊎ (v ≡ Some s)
wait_back true None j s e = absurd (cc e)
wait_back true (Some t) j s e = inl (refl, cc)
wait_back false None j s e = absurd (cc e)
wait_back false (Some t) j s e = inr e

add_outcome : {K O : Type 0} (b : Bool) (v : Option (Status K O)) → outcome_of (or_else v (cond b (Some Idle) None)) ≡ outcome_of v
add_outcome true None = refl
add_outcome false None = refl
add_outcome b (Some s) = refl

add_back : {K O : Type 0} (b : Bool) (v : Option (Status K O)) (s : Status K O) → or_else v (cond b (Some Idle) None) ≡ Some s → ((b ≡ true) × (s ≡ Idle)) ⊎ (v ≡ Some s)
add_back true None s e = inl (refl, cc)
add_back false None s e = absurd (cc e)
add_back b (Some t) s e = inr e

pub outcome_back : {K O : Type 0} (v : Option (Status K O)) (o : O) → outcome_of v ≡ Some o → v ≡ Some (Resolved o)
outcome_back None o e = absurd (cc e)
outcome_back (Some Idle) o e = absurd (cc e)
outcome_back (Some (Waiting j)) o e = absurd (cc e)
outcome_back (Some (Resolved x)) o e = let h : x ≡ o = cc in ap (λ t. Some (Resolved t)) h

mapped_back : {S T : Type 0} (g : S → T) (v : Option S) (t : T) → mapped g v ≡ Some t → (s : S) × (v ≡ Some s)
mapped_back g None t e = absurd (cc e)
mapped_back g (Some s) t e = (s, refl)

some_eq : {X : Type 0} (x y : X) → Some x ≡ Some y → x ≡ y
some_eq x y e = cc

module _ {K O : Type 0} (same : K → K → Bool) where
  resolve_grow : (b : Bool) (v : Option (Status K O)) (k : K) (o y : O) → (b ≡ true → v ≡ Some Idle) → outcome_of v ≡ Some y → outcome_of (mapped (λ s. cond b (Resolved o) (woken same k s)) v) ≡ Some y
  resolve_grow true v k o y h e = let d : None ≡ Some y = subst (λ t. outcome_of t ≡ Some y) (h refl) e in absurd (cc d)
  resolve_grow false None k o y h e = e
  resolve_grow false (Some Idle) k o y h e = e
  resolve_grow false (Some (Waiting j)) k o y h e = absurd (cc e)
  resolve_grow false (Some (Resolved z)) k o y h e = e

  woken_waiting : (b : Bool) (j : K) (s : Status K O) → cond b Idle (Waiting j) ≡ s → ((b ≡ true) × (s ≡ Idle)) ⊎ ((b ≡ false) × (s ≡ Waiting j))
  woken_waiting true j s e = inl (refl, sym e)
  woken_waiting false j s e = inr (refl, sym e)

  resolve_back : (b : Bool) (v : Option (Status K O)) (k : K) (o y : O) → mapped (λ s. cond b (Resolved o) (woken same k s)) v ≡ Some (Resolved y) → ((b ≡ true) × (y ≡ o)) ⊎ (v ≡ Some (Resolved y))
  resolve_back true None k o y e = absurd (cc e)
  resolve_back true (Some s) k o y e = inl (refl, cc)
  resolve_back false None k o y e = absurd (cc e)
  resolve_back false (Some Idle) k o y e = absurd (cc e)
  resolve_back false (Some (Waiting j)) k o y e =
      elim (woken_waiting (same j k) j (Resolved y) (some_eq _ _ e)) [ inl h ↦ absurd (cc h.1) | inr h ↦ absurd (cc h.1) ]
  resolve_back false (Some (Resolved z)) k o y e = inr e

  resolve_waiting : (b : Bool) (v : Option (Status K O)) (k : K) (o : O) (i : K) → mapped (λ s. cond b (Resolved o) (woken same k s)) v ≡ Some (Waiting i) → (v ≡ Some (Waiting i)) × (same i k ≡ false)
  resolve_waiting true None k o i e = absurd (cc e)
  resolve_waiting true (Some s) k o i e = absurd (cc e)
  resolve_waiting false None k o i e = absurd (cc e)
  resolve_waiting false (Some Idle) k o i e = absurd (cc e)
  resolve_waiting false (Some (Waiting j)) k o i e =
      elim (woken_waiting (same j k) j (Waiting i) (some_eq _ _ e)) [
        | inl h ↦ absurd (cc h.1)
        | inr h ↦ let d : i ≡ j = cc h.1 in (ap (λ t. Some (Waiting t)) (sym d), subst (λ t. same t k ≡ false) (sym d) h.0)
      ]
  resolve_waiting false (Some (Resolved z)) k o i e = absurd (cc e)

  woken_none : (b : Bool) (j : K) → outcome_of {K = K} {O = O} (Some (cond b Idle (Waiting j))) ≡ None
  woken_none true j = refl
  woken_none false j = refl

  resolve_none : (v : Option (Status K O)) (k : K) (o : O) → outcome_of v ≡ None → outcome_of (mapped (λ s. cond false (Resolved o) (woken same k s)) v) ≡ None
  resolve_none None k o e = refl
  resolve_none (Some Idle) k o e = refl
  resolve_none (Some (Waiting j)) k o e = woken_none (same j k) j
  resolve_none (Some (Resolved z)) k o e = e

module _ {K O A : Type 0} (same : K → K → Bool) (eq : IsEquality same) (program : K → Query K O A O) (seeds : List K) where
  known_change : (g : K → Status K O → Status K O) (st : List (Entry K O)) (x : K) → IsKnown same st x → IsKnown same (change g st) x
  known_change g st x (s, e) = (g x s, at-change same eq g st x ∙ ap (mapped (g x)) e)

  known_back : (g : K → Status K O → Status K O) (st : List (Entry K O)) (x : K) → IsKnown same (change g st) x → IsKnown same st x
  known_back g st x (s, e) = mapped_back (g x) (at same st x) s (sym (at-change same eq g st x) ∙ e)

  -- the table of a sound state is true
  pub true_table : (st : List (Entry K O)) → IsSound same program seeds st → IsTrueTable program (table same st)
  true_table st h k o e = h.has k o (outcome_back (at same st k) o e)

  pub needs_path : (f : K → Option O) (q : Query K O A O) (j : K) → found f q ≡ Need j → Path (λ k o. f k ≡ Some o) (λ k. f k ≡ None) q (asked f q) (looked f q) (Need j)
  needs_path f q j e = subst (λ t. Path (λ k o. f k ≡ Some o) (λ k. f k ≡ None) q (asked f q) (looked f q) t) e (path_over f q)

  pub lacks : (f : K → Option O) (q : Query K O A O) (j : K) → found f q ≡ Need j → f j ≡ None
  lacks f q j e = needs_fails program (needs_path f q j e)

  -- `k` waits for a known key
  pub table-wait : (st : List (Entry K O)) (k j : K) → at same st k ≡ Some Idle → table same (wait same k j st) ≡ table same st
  table-wait st k j idle = fun_ext (λ x.
      rw (at-change same eq (λ x s. cond (same x k) (Waiting j) s) st x)
      (wait_outcome (same x k) (at same st x) j (λ b. let e : x ≡ k = same_eq same eq x k b in subst (λ t. at same st t ≡ Some Idle) (sym e) idle)))

  at-wait : (st : List (Entry K O)) (k j x : K) (s : Status K O) → at same (wait same k j st) x ≡ Some s → ((x ≡ k) × (s ≡ Waiting j)) ⊎ (at same st x ≡ Some s)
  at-wait st k j x s e =
      elim (wait_back (same x k) (at same st x) j s (sym (at-change same eq (λ x s. cond (same x k) (Waiting j) s) st x) ∙ e)) [
        | inl h ↦ inl (same_eq same eq x k h.0, h.1)
        | inr h ↦ inr h
      ]

  sound_wait : (st : List (Entry K O)) (k j : K) → IsSound same program seeds st → at same st k ≡ Some Idle → found (table same st) (program k) ≡ Need j → IsKnown same st j → IsSound same program seeds (wait same k j st)
  sound_wait st k j h idle f kn =
      let g : K → Status K O → Status K O = λ x s. cond (same x k) (Waiting j) s in
      let t : table same (wait same k j st) ≡ table same st = table-wait st k j idle in
      record {
        apart = subst AreDistinct (sym (keys-change same eq g st)) h.apart;
        seeded = λ x m. known_change g st x (h.seeded x m);
        demanded = λ x m. h.demanded x (known_back g st x m);
        has = λ x o e. elim (at-wait st k j x (Resolved o) e) [ inl d ↦ absurd (cc d.1) | inr d ↦ h.has x o d ];
        level = λ x o e. elim (at-wait st k j x (Resolved o) e) [ inl d ↦ absurd (cc d.1) | inr d ↦ subst (λ u. run u (program x) ≡ Some o) (sym t) (h.level x o d) ];
        needs = λ x i e. subst (λ u. found u (program x) ≡ Need i) (sym t) (elim (at-wait st k j x (Waiting i) e) [
          | inl d ↦ let (a, b) = d in let c : i ≡ j = cc b in subst (λ u. found (table same st) (program u) ≡ Need i) (sym a) (subst (λ u. found (table same st) (program k) ≡ Need u) (sym c) f)
          | inr d ↦ h.needs x i d
        ]);
        waited = λ x i e. known_change g st i (elim (at-wait st k j x (Waiting i) e) [
          | inl d ↦ let c : i ≡ j = cc d.1 in subst (λ u. IsKnown same st u) (sym c) kn
          | inr d ↦ h.waited x i d
        ]);
      }

  -- `j` is added
  pub table-add : (st : List (Entry K O)) (j : K) → table same (add_idle j st) ≡ table same st
  table-add st j = fun_ext (λ x. rw (at-append same eq st (record { key = j; status = Idle }) x) (add_outcome (same x j) (at same st x)))

  at-add : (st : List (Entry K O)) (j x : K) (s : Status K O) → at same (add_idle j st) x ≡ Some s → ((x ≡ j) × (s ≡ Idle)) ⊎ (at same st x ≡ Some s)
  at-add st j x s e =
      elim (add_back (same x j) (at same st x) s (sym (at-append same eq st (record { key = j; status = Idle }) x) ∙ e)) [
        | inl h ↦ inl (same_eq same eq x j h.0, h.1)
        | inr h ↦ inr h
      ]

  pub add_keeps : (st : List (Entry K O)) (j x : K) (s : Status K O) → at same st x ≡ Some s → at same (add_idle j st) x ≡ Some s
  add_keeps st j x s e = at-append same eq st (record { key = j; status = Idle }) x ∙ ap (λ v. or_else v (cond (same x j) (Some Idle) None)) e

  add_known : (st : List (Entry K O)) (j x : K) → IsKnown same st x → IsKnown same (add_idle j st) x
  add_known st j x (s, e) = (s, add_keeps st j x s e)

  added_known : (st : List (Entry K O)) (j : K) → at same st j ≡ None → IsKnown same (add_idle j st) j
  added_known st j n = (Idle, rw (at-append same eq st (record { key = j; status = Idle }) j, n, same_refl same eq j) refl)

  not_member : (st : List (Entry K O)) (j : K) → at same st j ≡ None → Member j (keys st) → ⊥
  not_member st j n m = let (s, e) = member_known same eq st j m in absurd (cc (n, e))

  pub sound_add : (st : List (Entry K O)) (j : K) → IsSound same program seeds st → at same st j ≡ None → Demanded program seeds j → IsSound same program seeds (add_idle j st)
  sound_add st j h n dem =
      let t : table same (add_idle j st) ≡ table same st = table-add st j in
      record {
        apart = subst AreDistinct (sym (keys-append same eq st (record { key = j; status = Idle }))) (distinct_push (keys st) j h.apart (not_member st j n));
        seeded = λ x m. add_known st j x (h.seeded x m);
        demanded = λ x (s, e). elim (at-add st j x s e) [ inl d ↦ subst (Demanded program seeds) (sym d.0) dem | inr d ↦ h.demanded x (s, d) ];
        has = λ x o e. elim (at-add st j x (Resolved o) e) [ inl d ↦ absurd (cc d.1) | inr d ↦ h.has x o d ];
        level = λ x o e. elim (at-add st j x (Resolved o) e) [ inl d ↦ absurd (cc d.1) | inr d ↦ subst (λ u. run u (program x) ≡ Some o) (sym t) (h.level x o d) ];
        needs = λ x i e. elim (at-add st j x (Waiting i) e) [ inl d ↦ absurd (cc d.1) | inr d ↦ subst (λ u. found u (program x) ≡ Need i) (sym t) (h.needs x i d) ];
        waited = λ x i e. elim (at-add st j x (Waiting i) e) [ inl d ↦ absurd (cc d.1) | inr d ↦ add_known st j i (h.waited x i d) ];
      }

  -- `k` is resolved
  pub resolve_more : (st : List (Entry K O)) (k : K) (o : O) → at same st k ≡ Some Idle → (x : K) (y : O) → table same st x ≡ Some y → table same (resolve same k o st) x ≡ Some y
  resolve_more st k o idle x y e =
      rw (at-change same eq (λ x s. cond (same x k) (Resolved o) (woken same k s)) st x)
      (resolve_grow same (same x k) (at same st x) k o y (λ b. let d : x ≡ k = same_eq same eq x k b in subst (λ t. at same st t ≡ Some Idle) (sym d) idle) e)

  at-resolve : (st : List (Entry K O)) (k : K) (o : O) (x : K) (y : O) → at same (resolve same k o st) x ≡ Some (Resolved y) → ((x ≡ k) × (y ≡ o)) ⊎ (at same st x ≡ Some (Resolved y))
  at-resolve st k o x y e =
      elim (resolve_back same (same x k) (at same st x) k o y (sym (at-change same eq (λ x s. cond (same x k) (Resolved o) (woken same k s)) st x) ∙ e)) [
        | inl h ↦ inl (same_eq same eq x k h.0, h.1)
        | inr h ↦ inr h
      ]

  at-resolve_waiting : (st : List (Entry K O)) (k : K) (o : O) (x i : K) → at same (resolve same k o st) x ≡ Some (Waiting i) → (at same st x ≡ Some (Waiting i)) × (same i k ≡ false)
  at-resolve_waiting st k o x i e = resolve_waiting same (same x k) (at same st x) k o i (sym (at-change same eq (λ x s. cond (same x k) (Resolved o) (woken same k s)) st x) ∙ e)

  resolve_lacks : (st : List (Entry K O)) (k : K) (o : O) (i : K) → same i k ≡ false → table same st i ≡ None → table same (resolve same k o st) i ≡ None
  resolve_lacks st k o i b e = rw (at-change same eq (λ x s. cond (same x k) (Resolved o) (woken same k s)) st i, b) (resolve_none same (at same st i) k o e)

  sound_resolve : (st : List (Entry K O)) (k : K) (o : O) → IsSound same program seeds st → at same st k ≡ Some Idle → found (table same st) (program k) ≡ Ready o → IsSound same program seeds (resolve same k o st)
  sound_resolve st k o h idle f =
      let g : K → Status K O → Status K O = λ x s. cond (same x k) (Resolved o) (woken same k s) in
      let r : run (table same st) (program k) ≡ Some o = found_run (table same st) (program k) o f in
      let more = resolve_more st k o idle in
      record {
        apart = subst AreDistinct (sym (keys-change same eq g st)) h.apart;
        seeded = λ x m. known_change g st x (h.seeded x m);
        demanded = λ x m. h.demanded x (known_back g st x m);
        has = λ x y e. elim (at-resolve st k o x y e) [
          | inl d ↦ subst (λ u. Has program u y) (sym d.0) (subst (λ u. Has program k u) (sym d.1) (Has-from_level program (table same st) (true_table st h) k o r))
          | inr d ↦ h.has x y d
        ];
        level = λ x y e. run_more (table same st) (table same (resolve same k o st)) more (program x) y (elim (at-resolve st k o x y e) [
          | inl d ↦ subst (λ u. run (table same st) (program u) ≡ Some y) (sym d.0) (subst (λ u. run (table same st) (program k) ≡ Some u) (sym d.1) r)
          | inr d ↦ h.level x y d
        ]);
        needs = λ x i e.
            let (w, b) = at-resolve_waiting st k o x i e in
            let n = h.needs x i w in
            needs_more (table same st) (table same (resolve same k o st)) more (needs_path (table same st) (program x) i n) (resolve_lacks st k o i b (lacks (table same st) (program x) i n));
        waited = λ x i e. known_change g st i (h.waited x i (at-resolve_waiting st k o x i e).0);
      }

  -- a key that an evaluation of a demanded key needs is demanded
  pub demanded_need : (st : List (Entry K O)) (k j : K) → IsSound same program seeds st → at same st k ≡ Some Idle → found (table same st) (program k) ≡ Need j → Demanded program seeds j
  demanded_need st k j h idle f =
      Read (h.demanded k (Idle, idle)) (needs_asked program {N = λ x. table same st x ≡ None}
      (subst (λ t. Path (Has program) (λ x. table same st x ≡ None) (program k) (asked (table same st) (program k)) (looked (table same st) (program k)) t) f
      (true_path program (table same st) (true_table st h) (program k))))

  module _ (limit : ℕ) where
    sound_need : (st : List (Entry K O)) (k j : K) → IsSound same program seeds st → at same st k ≡ Some Idle → found (table same st) (program k) ≡ Need j → (v : Option (Status K O)) → at same st j ≡ v → IsSound same program seeds (need same limit st k j v)
    sound_need st k j h idle f (Some s) e = sound_wait st k j h idle f (s, e)
    sound_need st k j h idle f None e =
        elim (nat_lt (length st) limit) as (λ b. IsSound same program seeds (cond b (wait same k j (add_idle j st)) st)) [
          | true ↦ sound_wait (add_idle j st) k j (sound_add st j h e (demanded_need st k j h idle f)) (add_keeps st j k Idle idle) (subst (λ u. found u (program k) ≡ Need j) (sym (table-add st j)) f) (added_known st j e)
          | false ↦ h
        ]

    sound_turn : (st : List (Entry K O)) (k : K) → IsSound same program seeds st → at same st k ≡ Some Idle → (e : Found K O) → found (table same st) (program k) ≡ e → IsSound same program seeds (turn same limit st k e)
    sound_turn st k h idle (Ready o) f = sound_resolve st k o h idle f
    sound_turn st k h idle (Need j) f = sound_need st k j h idle f (at same st j) refl

    sound_picked : (st : List (Entry K O)) → IsSound same program seeds st → (i : ℕ) (v : Option K) → nth (idle_keys st) i ≡ v → IsSound same program seeds (picked same limit program st v)
    sound_picked st h i None e = h
    sound_picked st h i (Some k) e = sound_turn st k h (at-idle same eq st k h.apart (nth_member (idle_keys st) i k e)) (found (table same st) (program k)) refl

    -- a pick keeps it
    pub sound_pick : (st : List (Entry K O)) (i : ℕ) → IsSound same program seeds st → IsSound same program seeds (pick same limit program st i)
    sound_pick st i h = sound_picked st h i (nth (idle_keys st) i) refl

    -- and so does any list of picks
    pub sound_picks : (is : List ℕ) (st : List (Entry K O)) → IsSound same program seeds st → IsSound same program seeds (picks same limit program st is)
    sound_picks [] st h = h
    sound_picks (i ∷ is) st h = sound_picks is (pick same limit program st i) (sound_pick st i h)

  keys-start : (ks : List K) → keys {O = O} (start ks) ≡ ks
  keys-start [] = refl
  keys-start (k ∷ ks) = ap (λ t. k ∷ t) (keys-start ks)

  at-start : (ks : List K) (k : K) (s : Status K O) → at same (start ks) k ≡ Some s → s ≡ Idle
  at-start [] k s e = absurd (cc e)
  at-start (x ∷ xs) k s e =
      (elim (same k x) as (λ b. cond b (Some Idle) (at same (start xs) k) ≡ Some s → s ≡ Idle) [
        | true ↦ λ d. cc
        | false ↦ λ d. at-start xs k s d
      ]) e

  pub sound_start : AreDistinct seeds → IsSound same program seeds (start seeds)
  sound_start d =
      record {
        apart = subst AreDistinct (sym (keys-start seeds)) d;
        seeded = λ x m. member_known same eq (start seeds) x (subst (Member x) (sym (keys-start seeds)) m);
        demanded = λ x (s, e). Seed (subst (Member x) (keys-start seeds) (known_member same eq (start seeds) x s e));
        has = λ x o e. absurd (cc (at-start seeds x (Resolved o) e));
        level = λ x o e. absurd (cc (at-start seeds x (Resolved o) e));
        needs = λ x j e. absurd (cc (at-start seeds x (Waiting j) e));
        waited = λ x j e. absurd (cc (at-start seeds x (Waiting j) e));
      }
