-- Picks by what is kept are the machine's picks.
use Rattle.std.proofs.Common.{◌≡◌, ℕ, ◌+◌, List, [], ◌∷◌, Bool, true, false, cond, Option, Some, None, length, nat_lt, refl, sym, ap, subst, ◌∙◌, arith}
use Rattle.gl_calculus.specs.Computation.Lists.{AreDistinct, IsEquality}
use Rattle.gl_calculus.specs.Computation.Query.{Query, Found, Ready, Need, found}
use Rattle.gl_machine.specs.Machine.{Status, Idle, Entry, at, table, wait, add_idle, need, turn, idle_keys, keys, nth, picked, pick, picks, IsSound, Picked, Waits, Full, need_answer, turn_answer}
use Rattle.gl_machine.specs.Costs.{step_at, answer_at}
use Rattle.laws_calculus.proofs.Query.Lookups.{nth_member, at-idle, same_eq}
use Rattle.laws_calculus.proofs.Query.Steps.{sound_pick, resolve_more, table-wait, table-add, add_keeps}
use Rattle.gl_machine.specs.Ahead.Ahead.{Extends, IsAhead}
use Rattle.gl_machine.specs.Ahead.Spent.{Spent, Over, One, Free}
use Rattle.gl_machine.specs.Ahead.Keeping.{Kept, AreAhead, Goes, by_ahead, by_step, GoesAll}
use Rattle.gl_machine.specs.Ahead.Keeping as Keeping
use Rattle.laws_calculus.specs.Ahead.{PickByAhead, PicksExtend, KeepingIsPicking}

pub pick_by_ahead : (K O A : Type 0) → PickByAhead K O A
pick_by_ahead K O A same limit on program st k i ks a e =
    let f : found (table same st) (program k) ≡ Need i = a (table same st) (λ j o d. d) i e in
    (ap (turn same limit st k) f, ap (turn_answer same limit st) f)

module _ {K O A : Type 0} (same : K → K → Bool) (eq : IsEquality same) (limit : ℕ) (program : K → Query K O A O) where
  turn_extends : (st : List (Entry K O)) (k : K) → at same st k ≡ Some Idle → (e : Found K O) → Extends (table same st) (table same (turn same limit st k e))
  turn_extends st k idle (Ready o) x y d = resolve_more same eq program [] st k o idle x y d
  turn_extends st k idle (Need j) x y d = by (at same st j) x y d
    where
      by : (v : Option (Status K O)) → Extends (table same st) (table same (need same limit st k j v))
      by (Some s) x y d = ap (λ t. t x) (table-wait same eq program [] st k j idle) ∙ d
      by None x y d = room (nat_lt (length st) limit) x y d
        where
          room : (b : Bool) → Extends (table same st) (table same (cond b (wait same k j (add_idle j st)) st))
          room true x y d = ap (λ t. t x) (table-wait same eq program [] (add_idle j st) k j (add_keeps same eq program [] st j k Idle idle) ∙ table-add same eq program [] st j) ∙ d
          room false x y d = d

  pub picked_extends : (st : List (Entry K O)) (i : ℕ) → AreDistinct (keys st) → (v : Option K) → nth (idle_keys st) i ≡ v → Extends (table same st) (table same (picked same limit program st v))
  picked_extends st i d None e x y t = t
  picked_extends st i d (Some k) e x y t = turn_extends st k (at-idle same eq st k d (nth_member (idle_keys st) i k e)) (found (table same st) (program k)) x y t

pub picks_extend : (K O A : Type 0) → PicksExtend K O A
picks_extend K O A same limit program st i eq d = picked_extends same eq limit program st i d (nth (idle_keys st) i) refl

module _ {K O A : Type 0} (same : K → K → Bool) (eq : IsEquality same) (limit : ℕ) (on : O → Bool) (program : K → Query K O A O) (noted : K → Bool) (seeds : List K) where
  never : (st : List (Entry K O)) (v : Option (Status K O)) → need_answer limit st v ≡ Picked.Resolved → ⊥
  never st (Some s) e = cc e
  never st None e = by (nat_lt (length st) limit) e
    where
      by : (b : Bool) → cond b Waits Full ≡ Picked.Resolved → ⊥
      by true u = cc u
      by false u = cc u

  goes : {s t : Kept K O} {i n : ℕ} → IsSound same program seeds s.state → AreAhead same on program s → Goes same limit on program noted s i t n →
      (t.state ≡ pick same limit program s.state i) × AreAhead same on program t × ((is : List ℕ) (m : ℕ) → Spent same limit program noted (pick same limit program s.state i) is m → Spent same limit program noted s.state (i ∷ is) (n + m))
  goes {s} {t} {i} {n} h a (by_ahead k j e l) =
      let (x, y) = pick_by_ahead K O A same limit on program s.state k j (s.ahead k) (a k) l in
      let same_state : need same limit s.state k j (at same s.state j) ≡ pick same limit program s.state i = sym x ∙ ap (picked same limit program s.state) (sym e) in
      let more = picks_extend K O A same limit program s.state i eq h.apart in
      let answers : answer_at same limit program s.state (nth (idle_keys s.state) i) ≡ need_answer limit s.state (at same s.state j) = ap (answer_at same limit program s.state) e ∙ y in (
        same_state,
        λ k v m. a k v (λ x o u. m x o (ap (λ st. table same st x) same_state ∙ more x o u)),
        λ is m r. let z : m ≡ 0 + m = omega arith in subst (λ u. Spent same limit program noted s.state (i ∷ is) u) z (Free (λ u. never s.state (at same s.state j) (sym answers ∙ u)) r),
      )
  goes {s} {t} {i} {n} h a (by_step k ks e b) =
      let same_state : turn same limit s.state k (found (table same s.state) (program k)) ≡ pick same limit program s.state i = ap (picked same limit program s.state) (sym e) in
      let more = picks_extend K O A same limit program s.state i eq h.apart in (
        same_state,
        λ x v m. kept x ks k b v (λ y o u. m y o (ap (λ st. table same st y) same_state ∙ more y o u)),
        λ is m r. subst (λ u. Spent same limit program noted s.state (i ∷ is) (u + m)) (ap (step_at noted) e) (One r),
      )
    where
      kept : (x : K) (ks : List K) (k : K) → IsAhead on (program k) (table same s.state) ks → IsAhead on (program x) (table same s.state) (cond (same x k) ks (s.ahead x))
      kept x ks k b = by (same x k) refl
        where
          by : (c : Bool) → same x k ≡ c → IsAhead on (program x) (table same s.state) (cond c ks (s.ahead x))
          by true d = subst (λ y. IsAhead on (program y) (table same s.state) ks) (sym (same_eq same eq x k d)) b
          by false d = a x

  pub goes_all : {s t : Kept K O} {is : List ℕ} {n : ℕ} → IsSound same program seeds s.state → AreAhead same on program s → GoesAll same limit on program noted s is t n →
      (t.state ≡ picks same limit program s.state is) × AreAhead same on program t × Spent same limit program noted s.state is n
  goes_all h a Keeping.GoesAll.Over = (refl, a, Over)
  goes_all {s} h a (Keeping.GoesAll.Then {t = t} {u = u} {i = i} {m = m} {n = n} {is = is} g r) =
      let (x, y, z) = goes h a g in
      let h' : IsSound same program seeds t.state = subst (IsSound same program seeds) (sym x) (sound_pick same eq program seeds limit s.state i h) in
      let (p, q, w) = goes_all h' y r in
      (p ∙ ap (λ st. picks same limit program st is) x, q, z is n (subst (λ st. Spent same limit program noted st is n) x w))

pub keeping_is_picking : (K O A : Type 0) → KeepingIsPicking K O A
keeping_is_picking K O A same limit on program noted seeds is s t n eq h a g = goes_all same eq limit on program noted seeds h a g
