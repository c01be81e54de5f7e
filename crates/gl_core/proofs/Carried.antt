-- What came to wait, one after the other, until nothing waits.
use Rattle.std.proofs.Common.{◌≡◌, ◌⊎◌, ◌<◌, ◌+◌, ◌≢◌, ◌||◌, ℕ, zero, suc, nat_eq, Bool, true, false, cond, List, [], ◌∷◌, length, drop, set, slice_get, slice_index_or, Option, Some, None, inl, inr, refl, sym, ap, ◌∙◌, subst, arith}
use Rattle.std.proofs.lemmas.List.{length-set}
use Rattle.gl_machine.specs.Ahead.Reading.{Nothing}
use Rattle.gl_demand.specs.Marks.{PlainMark}
use Rattle.gl_core.specs.Statuses.{has}
use Rattle.gl_core.specs.Table.{AreWaiters, waiters, status_by}
use Rattle.gl_core.specs.Rested.{is_waiting, reopened_at, AreReopened}
use Rattle.gl_core.specs.declared.status.Status.{Status}
use Rattle.gl_core.specs.declared.status.Status.TheVariants.{Idle, Waiting, Resolved}
use Rattle.gl_core.proofs.Trees.{same_or_other}
use Rattle.gl_core.proofs.Tables.{not_same}
use Rattle.gl_core.proofs.Reading.{get_set}
use Rattle.gl_core.proofs.Wakes.{get_set_same, get_set_other, get_within}

-- the items from a place on
pub drop_next : {X : Type 0} (xs : List X) (i : ℕ) (x : X) → slice_get xs i ≡ Some x → drop i xs ≡ x ∷ drop (i + 1) xs
drop_next {X} xs i x e = by xs i e ∙ ap (λ (n : ℕ). x ∷ drop n xs) (let a : suc i ≡ i + 1 = omega arith in a)
  where
    by : (xs : List X) (i : ℕ) → slice_get xs i ≡ Some x → drop i xs ≡ x ∷ drop (suc i) xs
    by [] i e = absurd (cc e)
    by (y ∷ ys) zero e = let d : y ≡ x = cc in ap (λ (z : X). z ∷ ys) d
    by (y ∷ ys) (suc i) e = by ys i e

pub drop_or : {X : Type 0} (xs : List X) (i : ℕ) (x : X) → i < length xs → drop i xs ≡ slice_index_or xs i x ∷ drop (i + 1) xs
drop_or {X} xs i x h = by xs i h ∙ ap (λ (n : ℕ). slice_index_or xs i x ∷ drop n xs) (let a : suc i ≡ i + 1 = omega arith in a)
  where
    by : (xs : List X) (i : ℕ) → i < length xs → drop i xs ≡ slice_index_or xs i x ∷ drop (suc i) xs
    by [] i h = absurd (omega arith)
    by (y ∷ ys) zero h = refl
    by (y ∷ ys) (suc i) h = by ys i (omega arith)

pub drop_all : {X : Type 0} (xs : List X) (i : ℕ) → length xs < i + 1 → drop i xs ≡ []
drop_all [] zero h = refl
drop_all [] (suc i) h = refl
drop_all (x ∷ xs) zero h = absurd (omega arith)
drop_all (x ∷ xs) (suc i) h = drop_all xs i (omega arith)

some_waits : (v : Option Status) → is_waiting v ≡ true → (p : ℕ) × (v ≡ Some (Waiting p))
some_waits None e = absurd (cc e)
some_waits (Some Idle) e = absurd (cc e)
some_waits (Some (Waiting p)) e = (p, refl)
some_waits (Some (Resolved r)) e = absurd (cc e)

module _ (ss : List Status) (q : ℕ) where
  -- what stands there is idle where it waited, and else as it was
  at_place : (s : Status) → slice_get (reopened_at q ss) q ≡ Some s → (slice_get ss q ≡ Some s) × (is_waiting (Some s) ≡ false) ⊎ (s ≡ Idle) × (p : ℕ) × (slice_get ss q ≡ Some (Waiting p))
  at_place s d = by (is_waiting (slice_get ss q)) refl d
    where
      by : (b : Bool) → is_waiting (slice_get ss q) ≡ b → slice_get (cond b (set ss q Idle) ss) q ≡ Some s → (slice_get ss q ≡ Some s) × (is_waiting (Some s) ≡ false) ⊎ (s ≡ Idle) × (p : ℕ) × (slice_get ss q ≡ Some (Waiting p))
      by true e d =
          let (p, f) = some_waits (slice_get ss q) e in
          let g : Some Idle ≡ Some s = sym (get_set_same ss q Idle (get_within ss q (Waiting p) f)) ∙ d in
          let is : s ≡ Idle = cc in
          inr (is, p, f)
      by false e d = inl (d, ap is_waiting (sym d) ∙ e)

  elsewhere : (r : ℕ) → r ≢ q → slice_get (reopened_at q ss) r ≡ slice_get ss r
  elsewhere r n = by (is_waiting (slice_get ss q))
    where
      by : (b : Bool) → slice_get (cond b (set ss q Idle) ss) r ≡ slice_get ss r
      by true = get_set_other ss q r Idle n
      by false = refl

  length_reopened : length (reopened_at q ss) ≡ length ss
  length_reopened = by (is_waiting (slice_get ss q))
    where
      by : (b : Bool) → length (cond b (set ss q Idle) ss) ≡ length ss
      by true = length-set ss q Idle
      by false = refl

  reopened_one : AreReopened ss (reopened_at q ss)
  reopened_one = record { size = length_reopened; each = each }
    where
      each : (r : ℕ) (s : Status) → slice_get (reopened_at q ss) r ≡ Some s → (slice_get ss r ≡ Some s) ⊎ ((s ≡ Idle) × (p : ℕ) × (slice_get ss r ≡ Some (Waiting p)))
      each r s d = elim (same_or_other r q) [
        | inl e ↦ here e (at_place s (ap (slice_get (reopened_at q ss)) (sym e) ∙ d))
        | inr n ↦ inl (sym (elsewhere r n) ∙ d)
      ]
        where
          here : r ≡ q → (slice_get ss q ≡ Some s) × (is_waiting (Some s) ≡ false) ⊎ (s ≡ Idle) × (p : ℕ) × (slice_get ss q ≡ Some (Waiting p)) → (slice_get ss r ≡ Some s) ⊎ ((s ≡ Idle) × (p : ℕ) × (slice_get ss r ≡ Some (Waiting p)))
          here e (inl a) = inl (ap (slice_get ss) e ∙ a.0)
          here e (inr a) = inr (a.0, a.1, ap (slice_get ss) e ∙ a.2)

pub reopened_none : (ss : List Status) → AreReopened ss ss
reopened_none ss = record { size = refl; each = λ q s d. inl d }

pub reopened_more : (old between : List Status) (q : ℕ) → AreReopened old between → AreReopened old (reopened_at q between)
reopened_more old between q a =
    let b = reopened_one between q in
    record { size = b.size ∙ a.size; each = λ r s d. by r s (b.each r s d) }
  where
    by : (r : ℕ) (s : Status) → (slice_get between r ≡ Some s) ⊎ ((s ≡ Idle) × (p : ℕ) × (slice_get between r ≡ Some (Waiting p))) → (slice_get old r ≡ Some s) ⊎ ((s ≡ Idle) × (p : ℕ) × (slice_get old r ≡ Some (Waiting p)))
    by r s (inl d) = a.each r s d
    by r s (inr d) = elim (a.each r (Waiting d.1) d.2) [
      | inl e ↦ inr (d.0, d.1, e)
      | inr e ↦ absurd (cc e.0)
    ]

-- the first of those that are listed neither waits nor has a mark any more
pub waiters_less : (w : ℕ × ℕ) (ws : List (ℕ × ℕ)) (ss : List Status) (ms : List PlainMark) → AreWaiters (waiters (w ∷ ws)) ss ms → AreWaiters (waiters ws) (reopened_at w.0 ss) (set ms w.0 (Nothing, 0))
waiters_less w ws ss ms a = record { waits = waits; tell = tell }
  where
    other : (r : ℕ) → r ≢ w.0 → has (waiters (w ∷ ws)) r ≡ true → has (waiters ws) r ≡ true
    other r n h = subst (λ (b : Bool). (b || has (waiters ws) r) ≡ true) (not_same r w.0 n) h

    waits : (r p : ℕ) → slice_get (reopened_at w.0 ss) r ≡ Some (Waiting p) → has (waiters ws) r ≡ true
    waits r p d = elim (same_or_other r w.0) [
      | inl e ↦ here (at_place ss w.0 (Waiting p) (ap (slice_get (reopened_at w.0 ss)) (sym e) ∙ d))
      | inr n ↦ other r n (a.waits r p (sym (elsewhere ss w.0 r n) ∙ d))
    ]
      where
        here : (slice_get ss w.0 ≡ Some (Waiting p)) × (is_waiting (Some (Waiting p)) ≡ false) ⊎ (Waiting p ≡ Idle) × (x : ℕ) × (slice_get ss w.0 ≡ Some (Waiting x)) → has (waiters ws) r ≡ true
        here (inl b) = absurd (cc b.1)
        here (inr b) = absurd (cc b.0)

    tell : (r : ℕ) (m : PlainMark) → slice_get (set ms w.0 (Nothing, 0)) r ≡ Some m → (m.0 ≡ Nothing) ⊎ (has (waiters ws) r ≡ true)
    tell r m d = elim (same_or_other r w.0) [
      | inl e ↦
          let there = get_within (set ms w.0 (Nothing, 0)) r m d in
          let size = length-set ms w.0 (Nothing, 0) in
          let same : Some (Nothing, 0) ≡ Some m = sym (get_set_same ms w.0 (Nothing, 0) (omega (arith, there, size, e))) ∙ ap (slice_get (set ms w.0 (Nothing, 0))) (sym e) ∙ d in
          let is : (Nothing, 0) ≡ m = cc in
          inl (ap (λ (x : PlainMark). x.0) (sym is))
      | inr n ↦ listed n (a.tell r m (sym (get_set_other ms w.0 r (Nothing, 0) n) ∙ d))
    ]
      where
        listed : r ≢ w.0 → (m.0 ≡ Nothing) ⊎ (has (waiters (w ∷ ws)) r ≡ true) → (m.0 ≡ Nothing) ⊎ (has (waiters ws) r ≡ true)
        listed n (inl b) = inl b
        listed n (inr b) = inr (other r n b)

pub set_past : {X : Type 0} (xs : List X) (q : ℕ) (x : X) → length xs < q + 1 → set xs q x ≡ xs
set_past [] q x h = refl
set_past (y ∷ ys) zero x h = absurd (omega arith)
set_past (y ∷ ys) (suc q) x h = ap (λ t. y ∷ t) (set_past ys q x (omega arith))

-- one that begins again doesn't wait
pub waited_before : (ss : List Status) (p : ℕ) (v : Option ℕ) (q r : ℕ) → slice_get (set ss p (status_by v)) q ≡ Some (Waiting r) → slice_get ss q ≡ Some (Waiting r)
waited_before ss p v q r d = elim (get_set ss p q (status_by v) (Waiting r) d) [
  | inl a ↦ a
  | inr a ↦ absurd (no v a.1)
]
  where
    no : (v : Option ℕ) → Waiting r ≡ status_by v → ⊥
    no None e = cc e
    no (Some x) e = cc e
