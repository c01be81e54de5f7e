-- What a core says of its keys, and what changes do to it.
use Rattle.std.proofs.Common.{◌≡◌, ℕ, suc, ◌<◌, ◌≤◌, Bool, true, false, cond, List, [], ◌∷◌, ◌++◌, length, set, slice_get, slice_index, Option, Some, None, refl, sym, ap, ◌∙◌, subst, arith, inl, inr, IsTrue, IfSome, length-append}
use Rattle.std.specs.Prelude.{option_map}
use Rattle.gl_calculus.specs.Computation.Lists.{Member, AreDistinct}
use Rattle.gl_machine.specs.Machine as Machine
use Rattle.gl_machine.specs.Machine.{at, table, idle_keys}
use Rattle.gl_calculus.specs.Grid.Limits.{max_demanded}
use Rattle.gl_calculus.specs.Grid.Grid.{Range}
use Rattle.gl_calculus.specs.Evaluation.Key as K
use Rattle.gl_calculus.specs.Evaluation.Key.{same_key}
use Rattle.gl_calculus.specs.Evaluation.Sound.{is_sound_outcome, is_outcome_of}
use Rattle.gl_calculus.proofs.Tests.{key_equality}
use Rattle.gl_support.specs.declared.row.Row.{Row}
use Rattle.gl_demand.specs.View.{outcome_tree}
use Rattle.gl_demand.specs.Sound.{IsSoundTable}
use Rattle.gl_demand.specs.declared.outcome.Outcome.{Outcome}
use Rattle.gl_core.specs.Statuses.{row_of, wake_each, count_idle}
use Rattle.gl_demand.specs.Marks.{mark_tree, mark_trees}
use Rattle.gl_core.specs.State.{entries, state_by, status_tree, waits_for, IsSoundNote}
use Rattle.gl_core.specs.Numbers.{Each, key_at, keys_at, named, row_notes, outcome_at}
use Rattle.gl_core.specs.Ledger.{written, IsLedger}
use Rattle.gl_core.specs.Table.{known_keys, table_of, PointBelow, IsTable, IsIndexed, IsReadable, IsCore, IsStatusOf, HasRow, IsRowIn, IsResolvedBy, IsNeed, for_known, for_new, no_room}
use Rattle.gl_core.specs.Answers.{picked_tree}
use Rattle.gl_core.specs.declared.answers.Picked.{Picked}
use Rattle.gl_core.specs.declared.ledger.Ledger.{Ledger}
use Rattle.gl_core.specs.declared.entries.Entries.{Entries}
use Rattle.gl_core.specs.declared.status.Status.{Status}
use Rattle.gl_core.specs.declared.status.Status.TheVariants.{Idle, Waiting, Resolved}
use Rattle.gl_core.proofs.Wakes.{get_there, get_within, get_front, get_last}
use Rattle.gl_core.proofs.Places.{member_at, place_of, at_place, at_none, need_full, need_room, need_known, length-entries, length-idle}
use Rattle.gl_core.proofs.Tables.{resolve_state, wait_state, pushed_state, pushed_below, resolved_now, resolved_before, resolved_there}
use Rattle.gl_core.proofs.Passed.{resolved_more, resolved_needed, known_before, passed_on}
use Rattle.gl_core.proofs.Numbered.{all_at, all_by, all_push, index_of_get, get_of_index, distinct_by, one_number, get_map, map_get, length-map, map_push, key_is, get_key, keys_more, rows_more, number_in, keys_apart, outcome_is, outcome_more, index_apart, row_note_at}

-- ---- what is known

pub indexed : (e : Entries) → IsTable e → IsIndexed e
indexed e t = record {
  size = t.statuses;
  there = λ p h. t.index.there p (slice_index e.known.items p) (get_of_index e.known.items p h);
  back = λ n p d. (let g = t.index.back n p d in (get_within e.known.items p n g, index_of_get e.known.items p n g));
}

-- what a core keeps is enough for look-ups
pub readable : (l : Ledger) (e : Entries) → IsCore l e → IsReadable l e
readable l e c = record {
  indexed = indexed e c.table;
  apart = one_number l.book c.ledger.book.apart;
  below = λ p h. all_at (λ n. n < length l.book) e.known.items c.below p (slice_index e.known.items p) (get_of_index e.known.items p h);
  rows = λ p r d. (let (x, f, g) = c.resolved p r d in get_within l.rows.items r x f);
}

module _ (l : Ledger) (e : Entries) (c : IsReadable l e) where
  book_apart : AreDistinct l.book
  book_apart = distinct_by l.book (λ p q k d f. c.apart p q (get_within l.book p k d) (get_within l.book q k f) (key_is l.book p k d ∙ sym (key_is l.book q k f)))

  below_all : Each (λ n. n < length l.book) e.known.items
  below_all = all_by (λ n. n < length l.book) e.known.items (λ n m. let (p, d) = place_of e.known.items n m in subst (λ x. x < length l.book) (index_of_get e.known.items p n d) (c.below p (get_within e.known.items p n d)))

  numbers_apart : AreDistinct e.known.items
  numbers_apart = distinct_by e.known.items (λ p q n d f.
      let a = c.indexed.there p (get_within e.known.items p n d) in
      let b = c.indexed.there q (get_within e.known.items q n f) in
      let g : slice_index e.known.items p ≡ slice_index e.known.items q = index_of_get e.known.items p n d ∙ sym (index_of_get e.known.items q n f) in
      let h : suc p ≡ suc q = sym a ∙ ap (slice_index e.at.items) g ∙ b in
      omega (arith, h))

  pub known_apart : AreDistinct (known_keys l e)
  known_apart = keys_apart l.book book_apart e.known.items below_all numbers_apart

  pub known_length : length (known_keys l e) ≡ length e.known.items
  known_length = length-map (key_at l.book) e.known.items

  pub known_statuses : length e.statuses.items.items ≡ length (known_keys l e)
  known_statuses = c.indexed.size ∙ sym known_length

  pub known_at : (p n : ℕ) → slice_get e.known.items p ≡ Some n → slice_get (known_keys l e) p ≡ Some (key_at l.book n)
  known_at p n d = get_map (key_at l.book) e.known.items p n d

  pub number_there : (p : ℕ) (k : K.Key) → slice_get (known_keys l e) p ≡ Some k → (n : ℕ) × (slice_get e.known.items p ≡ Some n) × (key_at l.book n ≡ k)
  number_there p k d = map_get (key_at l.book) e.known.items p k d

  -- the status of a number is that of its key
  pub status_there : (n : ℕ) (s : Option Status) → n < length l.book → IsStatusOf e n s → at same_key (table_of l e) (key_at l.book n) ≡ option_map (status_tree (outcome_at l.rows.items) (known_keys l e)) s
  status_there n None h non = at_none (outcome_at l.rows.items) (known_keys l e) (known_keys l e) e.statuses.items.items (key_at l.book n) (λ m. non (number_in l.book book_apart n h e.known.items below_all m))
  status_there n (Some s) h (p, d, f) = at_place (outcome_at l.rows.items) (known_keys l e) e.statuses.items.items p (key_at l.book n) s known_apart (known_at p n d) f

  waits_not : (v : Option K.Key) → Machine.outcome_of (Some (waits_for v)) ≡ None
  waits_not None = refl
  waits_not (Some j) = refl

  row_by : (s : Option Status) (v : Option ℕ) → IsRowIn s v → Machine.outcome_of (option_map (status_tree (outcome_at l.rows.items) (known_keys l e)) s) ≡ option_map (outcome_at l.rows.items) v
  row_by None v d = ap (option_map (outcome_at l.rows.items)) (sym d)
  row_by (Some Idle) v d = ap (option_map (outcome_at l.rows.items)) (sym d)
  row_by (Some (Waiting p)) v d = waits_not (slice_get (known_keys l e) p) ∙ ap (option_map (outcome_at l.rows.items)) (sym d)
  row_by (Some (Resolved r)) v d = ap (option_map (outcome_at l.rows.items)) (sym d)

  -- and so is its outcome
  pub outcome_there : (n : ℕ) (v : Option ℕ) → n < length l.book → IsResolvedBy e n v → table same_key (table_of l e) (key_at l.book n) ≡ option_map (outcome_at l.rows.items) v
  outcome_there n v h (s, d, f) = ap Machine.outcome_of (status_there n s h d) ∙ row_by s v f

  -- the row of a resolved number is there
  pub resolved_within : (n : ℕ) (v : Option ℕ) → IsResolvedBy e n v → IfSome v (λ r. r < length l.rows.items)
  resolved_within n v (s, d, f) = by s v d f
    where
      none : (v : Option ℕ) → v ≡ None → IfSome v (λ r. r < length l.rows.items)
      none v f = subst (λ x. IfSome x (λ r. r < length l.rows.items)) (sym f) tt

      by : (s : Option Status) (v : Option ℕ) → IsStatusOf e n s → IsRowIn s v → IfSome v (λ r. r < length l.rows.items)
      by None v d f = none v f
      by (Some Idle) v d f = none v f
      by (Some (Waiting p)) v d f = none v f
      by (Some (Resolved q)) v (p, x, y) f = subst (λ x. IfSome x (λ r. r < length l.rows.items)) (sym f) (c.rows p q y)

  -- a key without a number is not known
  pub absent : (k : K.Key) → (Member k l.book → ⊥) → at same_key (table_of l e) k ≡ None
  absent k non = at_none (outcome_at l.rows.items) (known_keys l e) (known_keys l e) e.statuses.items.items k (λ m. non (in_book e.known.items below_all m))
    where
      in_book : (ns : List ℕ) → Each (λ j. j < length l.book) ns → Member k (keys_at l.book ns) → Member k l.book
      in_book [] a m = absurd m
      in_book (n ∷ ns) a (inl d) = member_at l.book n k (get_key l.book n a.0 ∙ ap Some (sym d))
      in_book (n ∷ ns) a (inr m) = in_book ns a.1 m

-- ---- outcomes are sound

module _ (l : Ledger) (e : Entries) (c : IsCore l e) where
  waits_none : (v : Option K.Key) → Machine.outcome_of (Some (waits_for v)) ≡ None
  waits_none None = refl
  waits_none (Some j) = refl

  pub note_there : (p r : ℕ) → slice_get e.statuses.items.items p ≡ Some (Resolved r) → (x : Row Outcome Range) × (slice_get l.rows.items r ≡ Some x) × (slice_get (known_keys l e) p ≡ Some (key_at l.book x.by)) × IsSoundNote (named l.book (record { key = x.by; outcome = x.outcome; reads = x.reads.items; looked = x.looked.items }))
  note_there p r d =
      let (x, f, g) = c.resolved p r d in
      (x, f, known_at l e (readable l e c) p x.by g, c.ledger.sound (named l.book (record { key = x.by; outcome = x.outcome; reads = x.reads.items; looked = x.looked.items })) (member_at (row_notes l.book l.rows.items) r (named l.book (record { key = x.by; outcome = x.outcome; reads = x.reads.items; looked = x.looked.items })) (row_note_at l.book l.rows.items r x f)))

  -- where a key has an outcome it has a place
  place_back : (ks : List K.Key) (ss : List Status) (k : K.Key) (o : K.Outcome) → table same_key (entries (outcome_at l.rows.items) (known_keys l e) ks ss) k ≡ Some o →
      (p : ℕ) × (r : ℕ) × (slice_get ks p ≡ Some k) × (slice_get ss p ≡ Some (Resolved r)) × (outcome_at l.rows.items r ≡ o)
  place_back [] ss k o d = absurd (cc d)
  place_back (x ∷ ks) [] k o d = absurd (cc d)
  place_back (x ∷ ks) (s ∷ ss) k o d = by (same_key k x) refl d (place_back ks ss k o)
    where
      Goal : Type 0
      Goal = (p : ℕ) × (r : ℕ) × (slice_get (x ∷ ks) p ≡ Some k) × (slice_get (s ∷ ss) p ≡ Some (Resolved r)) × (outcome_at l.rows.items r ≡ o)

      here : (s' : Status) → s ≡ s' → x ≡ k → Machine.outcome_of (Some (status_tree (outcome_at l.rows.items) (known_keys l e) s')) ≡ Some o → Goal
      here Idle i t f = absurd (cc f)
      here (Waiting q) i t f = let non : None ≡ Some o = sym (waits_none (slice_get (known_keys l e) q)) ∙ f in absurd (cc non)
      here (Resolved r) i t f = let g : outcome_at l.rows.items r ≡ o = cc in (0, r, ap Some t, ap Some i, g)

      by : (b : Bool) → same_key k x ≡ b → Machine.outcome_of (cond b (Some (status_tree (outcome_at l.rows.items) (known_keys l e) s)) (at same_key (entries (outcome_at l.rows.items) (known_keys l e) ks ss) k)) ≡ Some o →
          (table same_key (entries (outcome_at l.rows.items) (known_keys l e) ks ss) k ≡ Some o → (p : ℕ) × (r : ℕ) × (slice_get ks p ≡ Some k) × (slice_get ss p ≡ Some (Resolved r)) × (outcome_at l.rows.items r ≡ o)) → Goal
      by true t f g = here s refl (sym (key_equality.0 _ _ t)) f
      by false t f g = let (p, r, a, b, h) = g f in (suc p, r, a, b, h)

  pub sound_table : IsSoundTable (table same_key (table_of l e))
  sound_table k o d =
      let (p, r, a, b, f) = place_back (known_keys l e) e.statuses.items.items k o d in
      let (x, g, h, s) = note_there p r b in
      let same : Some (key_at l.book x.by) ≡ Some k = sym h ∙ a in
      let key : key_at l.book x.by ≡ k = cc in
      let is : outcome_tree x.outcome ≡ o = sym (outcome_is l.rows.items r x g) ∙ f in
      (subst (λ t. IsTrue (is_sound_outcome t)) is s.outcome, subst (λ t. IsTrue (is_outcome_of t o)) key (subst (λ t. IsTrue (is_outcome_of (key_at l.book x.by) t)) is s.kind))

-- ---- a book that grows, and one row more

statuses_more : (rs more : List (Row Outcome Range)) (known ks : List K.Key) (ss : List Status) → ((p r : ℕ) → slice_get ss p ≡ Some (Resolved r) → r < length rs) → entries (outcome_at (rs ++ more)) known ks ss ≡ entries (outcome_at rs) known ks ss
statuses_more rs more known [] ss h = refl
statuses_more rs more known (k ∷ ks) [] h = refl
statuses_more rs more known (k ∷ ks) (s ∷ ss) h =
    let a = one s (λ r d. h 0 r (ap Some d)) in
    let b = statuses_more rs more known ks ss (λ p r d. h (suc p) r d) in
    rw (a, b) refl
  where
    one : (s : Status) → ((r : ℕ) → s ≡ Resolved r → r < length rs) → status_tree (outcome_at (rs ++ more)) known s ≡ status_tree (outcome_at rs) known s
    one Idle g = refl
    one (Waiting p) g = refl
    one (Resolved r) g = ap (λ o. Machine.Resolved o) (outcome_more rs more r (g r refl))

pub rows_there : (l : Ledger) (e : Entries) → IsCore l e → (p r : ℕ) → slice_get e.statuses.items.items p ≡ Some (Resolved r) → r < length l.rows.items
rows_there l e c p r d = let (x, f, g) = c.resolved p r d in get_within l.rows.items r x f

-- the same rows over more keys
pub table_grown : (l l' : Ledger) (e : Entries) (more : List K.Key) → IsCore l e → l'.book ≡ l.book ++ more → l'.rows.items ≡ l.rows.items → table_of l' e ≡ table_of l e
table_grown l l' e more c b r =
    let ks : known_keys l' e ≡ known_keys l e = ap (λ x. keys_at x e.known.items) b ∙ keys_more l.book more e.known.items c.below in
    ap (λ x. state_by (outcome_at l'.rows.items) x e.statuses.items.items) ks ∙ ap (λ (x : List (Row Outcome Range)). state_by (outcome_at x) (known_keys l e) e.statuses.items.items) r

pub written_grown : (l l' : Ledger) (more : List K.Key) → IsLedger l → l'.book ≡ l.book ++ more → l'.rows.items ≡ l.rows.items → written l' ≡ written l
written_grown l l' more c b r = ap (λ x. row_notes x l'.rows.items) b ∙ ap (λ (x : List (Row Outcome Range)). row_notes (l.book ++ more) x) r ∙ rows_more l.book more l.rows.items c.below

-- one row more
pub table_added : (l l' : Ledger) (e : Entries) (x : Row Outcome Range) → IsCore l e → l'.book ≡ l.book → l'.rows.items ≡ l.rows.items ++ x ∷ [] → table_of l' e ≡ table_of l e
table_added l l' e x c b r =
    ap (λ y. state_by (outcome_at l'.rows.items) (keys_at y e.known.items) e.statuses.items.items) b ∙ ap (λ (y : List (Row Outcome Range)). state_by (outcome_at y) (known_keys l e) e.statuses.items.items) r
    ∙ statuses_more l.rows.items (x ∷ []) (known_keys l e) (known_keys l e) e.statuses.items.items (rows_there l e c)

pub written_added : (l l' : Ledger) (x : Row Outcome Range) → l'.book ≡ l.book → l'.rows.items ≡ l.rows.items ++ x ∷ [] → written l' ≡ written l ++ named l.book (record { key = x.by; outcome = x.outcome; reads = x.reads.items; looked = x.looked.items }) ∷ []
written_added l l' x b r = ap (λ y. row_notes y l'.rows.items) b ∙ ap (λ (y : List (Row Outcome Range)). row_notes l.book y) r ∙ pushed l.rows.items
  where
    pushed : (rs : List (Row Outcome Range)) → row_notes l.book (rs ++ x ∷ []) ≡ row_notes l.book rs ++ named l.book (record { key = x.by; outcome = x.outcome; reads = x.reads.items; looked = x.looked.items }) ∷ []
    pushed [] = refl
    pushed (r ∷ rs) = ap (λ t. named l.book (record { key = r.by; outcome = r.outcome; reads = r.reads.items; looked = r.looked.items }) ∷ t) (pushed rs)

-- ---- what picks do

module _ (l : Ledger) (e e' : Entries) (c : IsCore l e) (t : IsTable e') (same : (q : ℕ) → slice_index e'.passed.items q ≡ slice_index e.passed.items q) where
  -- a key gets the outcome of its row
  module _ (p row : ℕ) (x : Row Outcome Range) (there : slice_get l.rows.items row ≡ Some x) (by : slice_get e.known.items p ≡ Some x.by) (known : e'.known.items ≡ e.known.items)
      (ss : e'.statuses.items.items ≡ wake_each p (row_of e.waiting.items p) (set e.statuses.items.items p (Resolved row))) where
    within : p < length e.statuses.items.items
    within = let a = get_within e.known.items p x.by by in omega (arith, a, c.table.statuses)

    pub resolved_table : table_of l e' ≡ Machine.resolve same_key (key_at l.book x.by) (outcome_tree x.outcome) (table_of l e)
    resolved_table =
        ap (λ (ns : List ℕ). state_by (outcome_at l.rows.items) (keys_at l.book ns) e'.statuses.items.items) known
        ∙ ap (state_by (outcome_at l.rows.items) (known_keys l e)) ss
        ∙ resolve_state (outcome_at l.rows.items) (known_keys l e) e.statuses.items.items (known_apart l e (readable l e c)) (known_statuses l e (readable l e c)) (subst (λ n. PointBelow n e.statuses.items.items) (sym (known_length l e (readable l e c))) c.table.known) p (key_at l.book x.by) row (row_of e.waiting.items p) (known_at l e (readable l e c) p x.by by) (λ q d. c.table.listed q p d)
        ∙ ap (λ o. Machine.resolve same_key (key_at l.book x.by) o (table_of l e)) (outcome_is l.rows.items row x there)

    pub resolved_core : IsCore l e'
    resolved_core = record {
      ledger = c.ledger;
      table = t;
      below = subst (λ (ns : List ℕ). Each (λ n. n < length l.book) ns) (sym known) c.below;
      resolved = λ q r d. resolved_now e.statuses.items.items p row (row_of e.waiting.items p) within q r (ap (λ (xs : List Status). slice_get xs q) (sym ss) ∙ d)
          (λ a b. (x, ap (slice_get l.rows.items) b ∙ there, ap (λ (ns : List ℕ). slice_get ns q) known ∙ ap (slice_get e.known.items) a ∙ by))
          (λ f. let (y, g, h) = c.resolved q r f in (y, g, ap (λ (ns : List ℕ). slice_get ns q) known ∙ h));
      passed = passed_on l e e' c.table.passed c.passed same (λ q n w d. ap (λ (ns : List ℕ). slice_get ns q) (sym known) ∙ d) (resolved_more e e' p row (row_of e.waiting.items p) within known ss);
    }

  -- a key needs another
  module _ (p on : ℕ) (k : K.Key) (here : slice_get (known_keys l e) p ≡ Some k) (on_there : on < length l.book) where
    p_within : p < length e.statuses.items.items
    p_within = let a = get_within (known_keys l e) p k here in omega (arith, a, known_statuses l e (readable l e c))

    Outs : ℕ → K.Outcome
    Outs = outcome_at l.rows.items

    pub needed_core : slice_get e.statuses.items.items p ≡ Some Idle → (picked : Picked) (known : List ℕ) (ss : List Status) → IsNeed e.known.items e.statuses.items.items p on picked known ss → e'.known.items ≡ known → e'.statuses.items.items ≡ ss → IsCore l e'
    needed_core idle picked known ss (for_known j d) a b = record {
      ledger = c.ledger;
      table = t;
      below = subst (λ (ns : List ℕ). Each (λ n. n < length l.book) ns) (sym a) c.below;
      resolved = λ q r f.
          let (y, g, h) = c.resolved q r (resolved_before e.statuses.items.items p j p_within q r (ap (λ (xs : List Status). slice_get xs q) (sym b) ∙ f)) in
          (y, g, ap (λ (ns : List ℕ). slice_get ns q) a ∙ h);
      passed = passed_on l e e' c.table.passed c.passed same (λ q n w z. known_before e p on idle picked known ss (for_known j d) q n w (ap (λ (ns : List ℕ). slice_get ns q) (sym a) ∙ z)) (resolved_needed e p on idle picked known ss (for_known j d) e' a b);
    }
    needed_core idle picked known ss (for_new non few) a b = record {
      ledger = c.ledger;
      table = t;
      below = subst (λ (ns : List ℕ). Each (λ n. n < length l.book) ns) (sym a) (all_push (λ n. n < length l.book) e.known.items on c.below on_there);
      resolved = λ q r f.
          let m = length-append e.statuses.items.items (Idle ∷ []) in
          let w : p < length (e.statuses.items.items ++ Idle ∷ []) = omega (arith, p_within, m) in
          let g = resolved_there e.statuses.items.items q r (resolved_before (e.statuses.items.items ++ Idle ∷ []) p (length e.known.items) w q r (ap (λ (xs : List Status). slice_get xs q) (sym b) ∙ f)) in
          let (y, h, i) = c.resolved q r g in
          (y, h, ap (λ (ns : List ℕ). slice_get ns q) a ∙ get_front e.known.items (on ∷ []) q (get_within e.known.items q y.by i) ∙ i);
      passed = passed_on l e e' c.table.passed c.passed same (λ q n w z. known_before e p on idle picked known ss (for_new non few) q n w (ap (λ (ns : List ℕ). slice_get ns q) (sym a) ∙ z)) (resolved_needed e p on idle picked known ss (for_new non few) e' a b);
    }
    needed_core idle picked known ss (no_room non few) a b = record {
      ledger = c.ledger;
      table = t;
      below = subst (λ (ns : List ℕ). Each (λ n. n < length l.book) ns) (sym a) c.below;
      resolved = λ q r f.
          let (y, g, h) = c.resolved q r (ap (λ (xs : List Status). slice_get xs q) (sym b) ∙ f) in
          (y, g, ap (λ (ns : List ℕ). slice_get ns q) a ∙ h);
      passed = passed_on l e e' c.table.passed c.passed same (λ q n w z. known_before e p on idle picked known ss (no_room non few) q n w (ap (λ (ns : List ℕ). slice_get ns q) (sym a) ∙ z)) (resolved_needed e p on idle picked known ss (no_room non few) e' a b);
    }

    the_table : (known : List ℕ) (ss : List Status) → e'.known.items ≡ known → e'.statuses.items.items ≡ ss → table_of l e' ≡ state_by (outcome_at l.rows.items) (keys_at l.book known) ss
    the_table known ss a b = ap (λ (ns : List ℕ). state_by (outcome_at l.rows.items) (keys_at l.book ns) e'.statuses.items.items) a ∙ ap (state_by (outcome_at l.rows.items) (keys_at l.book known)) b

    pub needed_table : (picked : Picked) (known : List ℕ) (ss : List Status) → IsNeed e.known.items e.statuses.items.items p on picked known ss → e'.known.items ≡ known → e'.statuses.items.items ≡ ss →
        (table_of l e' ≡ Machine.need same_key max_demanded (table_of l e) k (key_at l.book on) (at same_key (table_of l e) (key_at l.book on))) × (picked_tree picked ≡ Machine.need_answer max_demanded (table_of l e) (at same_key (table_of l e) (key_at l.book on)))
    needed_table picked known ss (for_known j d) a b =
        let below = subst (λ n. PointBelow n e.statuses.items.items) (sym (known_length l e (readable l e c))) c.table.known in
        let jw = get_within e.known.items j on d in
        let (s, f) = get_there e.statuses.items.items j (omega (arith, jw, c.table.statuses)) in
        let is = status_there l e (readable l e c) on (Some s) on_there (j, d, f) in
        let w = wait_state (outcome_at l.rows.items) (known_keys l e) e.statuses.items.items (known_apart l e (readable l e c)) (known_statuses l e (readable l e c)) below p j k (key_at l.book on) here (known_at l e (readable l e c) j on d) in
        let g = need_known (table_of l e) k (key_at l.book on) max_demanded (at same_key (table_of l e) (key_at l.book on)) (status_tree (outcome_at l.rows.items) (known_keys l e) s) is in
        (the_table e.known.items (set e.statuses.items.items p (Waiting j)) a b ∙ w ∙ g.0, g.1)
    needed_table picked known ss (for_new non few) a b =
        let below = subst (λ n. PointBelow n e.statuses.items.items) (sym (known_length l e (readable l e c))) c.table.known in
        let none = status_there l e (readable l e c) on None on_there non in
        let ks : keys_at l.book (e.known.items ++ on ∷ []) ≡ known_keys l e ++ key_at l.book on ∷ [] = map_push (key_at l.book) e.known.items on in
        let pushed = pushed_state (outcome_at l.rows.items) (known_keys l e) e.statuses.items.items (key_at l.book on) (known_statuses l e (readable l e c)) below in
        let size : length (table_of l e) ≡ length e.known.items = length-entries (outcome_at l.rows.items) (known_keys l e) (known_keys l e) e.statuses.items.items (known_statuses l e (readable l e c)) ∙ known_length l e (readable l e c) in
        let g = need_room (table_of l e) k (key_at l.book on) max_demanded (subst (λ n. n < max_demanded) (sym size) few) in
        let m = length-append (known_keys l e) (key_at l.book on ∷ []) in
        let n = length-append e.statuses.items.items (Idle ∷ []) in
        let apart' : AreDistinct (known_keys l e ++ key_at l.book on ∷ []) = subst AreDistinct ks (keys_apart l.book c.ledger.book.apart (e.known.items ++ on ∷ []) (all_push (λ n. n < length l.book) e.known.items on c.below on_there) (apart_last e.known.items on (index_apart e.known.items e.at.items c.table.index) non)) in
        let j : length e.known.items ≡ length (known_keys l e) = sym (known_length l e (readable l e c)) in
        let w = wait_state (outcome_at l.rows.items) (known_keys l e ++ key_at l.book on ∷ []) (e.statuses.items.items ++ Idle ∷ []) apart' (omega (arith, m, n, known_statuses l e (readable l e c))) (pushed_below e.statuses.items.items (length (known_keys l e)) (length (known_keys l e ++ key_at l.book on ∷ [])) (omega (arith, m)) below) p (length e.known.items) k (key_at l.book on)
        (get_front (known_keys l e) (key_at l.book on ∷ []) p (get_within (known_keys l e) p k here) ∙ here) (ap (slice_get (known_keys l e ++ key_at l.book on ∷ [])) j ∙ get_last (known_keys l e) (key_at l.book on)) in (
          the_table (e.known.items ++ on ∷ []) (set (e.statuses.items.items ++ Idle ∷ []) p (Waiting (length e.known.items))) a b
              ∙ ap (λ x. state_by (outcome_at l.rows.items) x (set (e.statuses.items.items ++ Idle ∷ []) p (Waiting (length e.known.items)))) ks ∙ w ∙ ap (Machine.wait same_key k (key_at l.book on)) pushed ∙ g.0
              ∙ ap (Machine.need same_key max_demanded (table_of l e) k (key_at l.book on)) (sym none),
          g.1 ∙ ap (Machine.need_answer max_demanded (table_of l e)) (sym none),
        )
      where
        apart_last : (ns : List ℕ) (n : ℕ) → AreDistinct ns → (Member n ns → ⊥) → AreDistinct (ns ++ n ∷ [])
        apart_last [] n d non = ((λ m. m), tt)
        apart_last (m ∷ ns) n d non = ((λ i. member_last ns n m i d.0 (λ s. non (inl (sym s)))), apart_last ns n d.1 (λ i. non (inr i)))
          where
            member_last : (ns : List ℕ) (n m : ℕ) → Member m (ns ++ n ∷ []) → (Member m ns → ⊥) → (m ≡ n → ⊥) → ⊥
            member_last [] n m (inl s) f g = g s
            member_last [] n m (inr s) f g = s
            member_last (x ∷ xs) n m (inl s) f g = f (inl s)
            member_last (x ∷ xs) n m (inr s) f g = member_last xs n m s (λ i. f (inr i)) g
    needed_table picked known ss (no_room non few) a b =
        let none = status_there l e (readable l e c) on None on_there non in
        let size : length (table_of l e) ≡ length e.known.items = length-entries (outcome_at l.rows.items) (known_keys l e) (known_keys l e) e.statuses.items.items (known_statuses l e (readable l e c)) ∙ known_length l e (readable l e c) in
        let g = need_full (table_of l e) k (key_at l.book on) max_demanded (subst (λ n. max_demanded ≤ n) (sym size) few) in
        (the_table e.known.items e.statuses.items.items a b ∙ g.0 ∙ ap (Machine.need same_key max_demanded (table_of l e) k (key_at l.book on)) (sym none), g.1 ∙ ap (Machine.need_answer max_demanded (table_of l e)) (sym none))

-- ---- counts, and what is seen

module _ (l : Ledger) (e : Entries) (c : IsCore l e) where
  pub known_below : PointBelow (length (known_keys l e)) e.statuses.items.items
  known_below = subst (λ n. PointBelow n e.statuses.items.items) (sym (known_length l e (readable l e c))) c.table.known

  pub idle_count : length (idle_keys (table_of l e)) ≡ count_idle e.statuses.items.items
  idle_count = length-idle (outcome_at l.rows.items) (known_keys l e) (known_keys l e) e.statuses.items.items (known_statuses l e (readable l e c)) known_below

  pub state_length : length (table_of l e) ≡ length e.known.items
  state_length = length-entries (outcome_at l.rows.items) (known_keys l e) (known_keys l e) e.statuses.items.items (known_statuses l e (readable l e c)) ∙ known_length l e (readable l e c)

  -- what a key was reading stands beside each
  pub marks_length : length (mark_trees e.marks.items) ≡ length (table_of l e)
  marks_length = length-map mark_tree e.marks.items ∙ c.table.marks ∙ sym state_length

  pub place_sound : (p j : ℕ) (k : K.Key) → slice_get e.statuses.items.items p ≡ Some (Resolved j) → slice_get (known_keys l e) p ≡ Some k → (y : Row Outcome Range) × (slice_get l.rows.items j ≡ Some y) × IsTrue (is_sound_outcome (outcome_tree y.outcome)) × IsTrue (is_outcome_of k (outcome_tree y.outcome))
  place_sound p j k d f =
      let (y, g, h, s) = note_there l e c p j d in
      let same : Some (key_at l.book y.by) ≡ Some k = sym h ∙ f in
      let is : key_at l.book y.by ≡ k = cc in
      (y, g, s.outcome, subst (λ t. IsTrue (is_outcome_of t (outcome_tree y.outcome))) is s.kind)

  pub row_within : (i : ℕ) (v : Option Status) → v ≡ slice_get e.statuses.items.items i → HasRow l.rows.items v
  row_within i None d = tt
  row_within i (Some Idle) d = tt
  row_within i (Some (Waiting p)) d = tt
  row_within i (Some (Resolved r)) d = rows_there l e c i r (sym d)

  pub the_key_at : (p : ℕ) → p < length e.known.items → (k : K.Key) × (slice_get (known_keys l e) p ≡ Some k)
  the_key_at p h = get_there (known_keys l e) p (let n = known_length l e (readable l e c) in omega (arith, h, n))
