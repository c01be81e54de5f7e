-- The keys that came to wait.
use Rattle.std.proofs.Common.{◌≡◌, ◌⊎◌, ◌<◌, ℕ, true, List, [], ◌∷◌, ◌++◌, length, set, slice_get, Some, Vec, inl, inr, refl, sym, ap, ◌∙◌, subst, arith, length-append}
use Rattle.std.specs.declared.alloc.Global.{Global}
use Rattle.gl_machine.specs.Ahead.Reading.{Nothing}
use Rattle.gl_demand.specs.Marks.{PlainMark}
use Rattle.gl_core.specs.Statuses.{has}
use Rattle.gl_core.specs.Marks.{MarksStay}
use Rattle.gl_core.specs.Table.{AreWaiters, waiters, marks_of, IsTable, IsNeed, for_known, for_new, no_room}
use Rattle.gl_core.specs.declared.answers.Picked.{Picked}
use Rattle.gl_core.specs.declared.answers.Picked.TheVariants as Answer
use Rattle.gl_core.specs.declared.status.Status.{Status}
use Rattle.gl_core.specs.declared.status.Status.TheVariants.{Idle, Waiting}
use Rattle.gl_core.specs.declared.entries.Entries.{Entries}
use Rattle.gl_core.proofs.Wakes.{get_set_same}
use Rattle.gl_core.proofs.Tables.{has_front, has_last, was_there, waits_now}
use Rattle.gl_core.proofs.Reading.{get_set}

pub waiters_more : (ws : List (ℕ × ℕ)) (p on : ℕ) → waiters (ws ++ (p, on) ∷ []) ≡ waiters ws ++ p ∷ []
waiters_more [] p on = refl
waiters_more (w ∷ ws) p on = ap (λ (t : List ℕ). w.0 ∷ t) (waiters_more ws p on)

-- what waits still did before, and each mark stood there or tells nothing
pub waiters_kept : (ps : List ℕ) (ss ss' : List Status) (ms ms' : List PlainMark) → ((q p : ℕ) → slice_get ss' q ≡ Some (Waiting p) → slice_get ss q ≡ Some (Waiting p)) → MarksStay ms ms' → AreWaiters ps ss ms → AreWaiters ps ss' ms'
waiters_kept ps ss ss' ms ms' s k w = record {
  waits = λ q p d. w.waits q p (s q p d);
  tell = λ q m d. elim (k q m d) [
    | inl a ↦ w.tell q m a
    | inr a ↦ inl a
  ];
}

-- more of them are listed
pub waiters_listed : (ws : List (ℕ × ℕ)) (p on : ℕ) (ss : List Status) (ms : List PlainMark) → AreWaiters (waiters ws) ss ms → AreWaiters (waiters (ws ++ (p, on) ∷ [])) ss ms
waiters_listed ws p on ss ms w =
    let more : (q : ℕ) → has (waiters ws) q ≡ true → has (waiters (ws ++ (p, on) ∷ [])) q ≡ true = λ q h. ap (λ (t : List ℕ). has t q) (waiters_more ws p on) ∙ has_front (waiters ws) (p ∷ []) q h in
    record {
      waits = λ q r d. more q (w.waits q r d);
      tell = λ q m d. elim (w.tell q m d) [
        | inl a ↦ inl a
        | inr a ↦ inr (more q a)
      ];
    }

pub last_listed : (ws : List (ℕ × ℕ)) (p on : ℕ) → has (waiters (ws ++ (p, on) ∷ [])) p ≡ true
last_listed ws p on = ap (λ (t : List ℕ). has t p) (waiters_more ws p on) ∙ has_last (waiters ws) p

-- one that is listed waits
pub waiters_wait : (ps : List ℕ) (p on : ℕ) (ss : List Status) (ms : List PlainMark) → p < length ss → has ps p ≡ true → AreWaiters ps ss ms → AreWaiters ps (set ss p (Waiting on)) ms
waiters_wait ps p on ss ms h l w = record {
  waits = λ q r d. waits_now ss p on 0 h q r d (λ s t. subst (λ (x : ℕ). has ps x ≡ true) (sym s) l) (λ e. w.waits q r e);
  tell = w.tell;
}

-- one key more is idle
pub waiters_idle : (ps : List ℕ) (ss : List Status) (ms ms' : List PlainMark) → MarksStay ms ms' → AreWaiters ps ss ms → AreWaiters ps (ss ++ Idle ∷ []) ms'
waiters_idle ps ss ms ms' k w = waiters_kept ps ss (ss ++ Idle ∷ []) ms ms' (was_there ss) k w

-- one that is listed has another mark
pub waiters_marked : (ps : List ℕ) (p : ℕ) (v : PlainMark) (ss : List Status) (ms ms' : List PlainMark) → ms' ≡ set ms p v → has ps p ≡ true → AreWaiters ps ss ms → AreWaiters ps ss ms'
waiters_marked ps p v ss ms ms' e l w = record {
  waits = w.waits;
  tell = λ q m d. elim (get_set ms p q v m (ap (λ (xs : List PlainMark). slice_get xs q) (sym e) ∙ d)) [
    | inl a ↦ w.tell q m a
    | inr a ↦ inr (subst (λ (x : ℕ). has ps x ≡ true) (sym a.0) l)
  ];
}

-- the place of a mark moves on
pub waiters_moved : (ps : List ℕ) (p place : ℕ) (v : PlainMark) (ss : List Status) (ms ms' : List PlainMark) → slice_get ms p ≡ Some v → ms' ≡ set ms p (v.0, place) → AreWaiters ps ss ms → AreWaiters ps ss ms'
waiters_moved ps p place v ss ms ms' there e w = record {
  waits = w.waits;
  tell = λ q m d. elim (get_set ms p q (v.0, place) m (ap (λ (xs : List PlainMark). slice_get xs q) (sym e) ∙ d)) [
    | inl a ↦ w.tell q m a
    | inr a ↦ by q m a (w.tell p v there)
  ];
}
  where
    by : (q : ℕ) (m : PlainMark) → (q ≡ p) × (m ≡ (v.0, place)) → (v.0 ≡ Nothing) ⊎ (has ps p ≡ true) → (m.0 ≡ Nothing) ⊎ (has ps q ≡ true)
    by q m a (inl n) = inl (ap (λ (x : PlainMark). x.0) a.1 ∙ n)
    by q m a (inr l) = inr (subst (λ (x : ℕ). has ps x ≡ true) (sym a.0) l)

-- a key that needs another, and waits for it, is listed
pub needs_listed : (ps : List ℕ) (known known' : List ℕ) (ss ss' : List Status) (ms : List PlainMark) (p on : ℕ) (a : Picked) → p < length ss → IsNeed known ss p on a known' ss' → AreWaiters ps ss' ms → a ≡ Answer.Waits → has ps p ≡ true
needs_listed ps known known' ss ss' ms p on a h (for_known j d) w e = w.waits p j (get_set_same ss p (Waiting j) h)
needs_listed ps known known' ss ss' ms p on a h (for_new n f) w e = w.waits p (length known) (get_set_same (ss ++ Idle ∷ []) p (Waiting (length known)) (within ss h))
  where
    within : (ss : List Status) → p < length ss → p < length (ss ++ Idle ∷ [])
    within ss h = let a = length-append ss (Idle ∷ []) in omega (arith, a, h)
needs_listed ps known known' ss ss' ms p on a h (no_room n f) w e = absurd (cc e)

-- a table in which more are listed
pub listed_table : (e : Entries) (p on : ℕ) (v : Vec (ℕ × ℕ) Global) → v.items ≡ e.waited.items ++ (p, on) ∷ [] → IsTable e → IsTable (record { known = e.known; at = e.at; statuses = e.statuses; waiting = e.waiting; passed = e.passed; marks = e.marks; waited = v })
listed_table e p on v d t = record {
  statuses = t.statuses;
  rows = t.rows;
  few = t.few;
  counted = t.counted;
  known = t.known;
  listed = t.listed;
  index = t.index;
  passed = t.passed;
  marks = t.marks;
  waiters = subst (λ (ws : List (ℕ × ℕ)). AreWaiters (waiters ws) e.statuses.items.items (marks_of e)) (sym d) (waiters_listed e.waited.items p on e.statuses.items.items (marks_of e) t.waiters);
}

-- or the same ones
pub same_listed : (e : Entries) (v : Vec (ℕ × ℕ) Global) → v.items ≡ e.waited.items → IsTable e → IsTable (record { known = e.known; at = e.at; statuses = e.statuses; waiting = e.waiting; passed = e.passed; marks = e.marks; waited = v })
same_listed e v d t = record {
  statuses = t.statuses;
  rows = t.rows;
  few = t.few;
  counted = t.counted;
  known = t.known;
  listed = t.listed;
  index = t.index;
  passed = t.passed;
  marks = t.marks;
  waiters = subst (λ (ws : List (ℕ × ℕ)). AreWaiters (waiters ws) e.statuses.items.items (marks_of e)) (sym d) t.waiters;
}
