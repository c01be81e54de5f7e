-- The reads of notes that were passed.
use Rattle.std.proofs.Common.{◌≡◌, ℕ, zero, suc, ◌<◌, ◌≤◌, ◌⊎◌, Bool, true, false, List, [], ◌∷◌, ◌++◌, length, set, slice_get, slice_index, Option, Some, None, is_some, refl, sym, ap, ◌∙◌, subst, arith, inl, inr}
use Rattle.gl_calculus.specs.Computation.Lists.{Member}
use Rattle.gl_calculus.specs.Grid.Grid.{Range}
use Rattle.gl_support.specs.declared.row.Row.{Row}
use Rattle.gl_demand.specs.declared.outcome.Outcome.{Outcome}
use Rattle.gl_core.specs.Statuses.{has, wake_each}
use Rattle.gl_core.specs.Numbers.{numbers_of}
use Rattle.gl_core.specs.Table.{IsNeed, for_known, for_new, no_room, IsStatusOf, IsRowIn, IsResolved, IsResolvedBy, ArePassed}
use Rattle.gl_core.specs.declared.answers.Picked.{Picked}
use Rattle.gl_core.specs.declared.ledger.Ledger.{Ledger}
use Rattle.gl_core.specs.declared.entries.Entries.{Entries}
use Rattle.gl_core.specs.declared.status.Status.{Status}
use Rattle.gl_core.specs.declared.status.Status.TheVariants.{Idle, Waiting, Resolved}
use Rattle.gl_core.proofs.Trees.{same_or_other}
use Rattle.gl_core.proofs.Wakes.{get_set_same, get_set_other, get_within, get_front, woken_by, woken_each}
use Rattle.gl_core.proofs.Numbered.{index_there, index_other}
use Rattle.gl_core.proofs.Indexing.{index_past}

pub below_or : (a b : ℕ) → (a < b) ⊎ (b ≤ a)
below_or zero zero = inr (omega arith)
below_or zero (suc b) = inl (omega arith)
below_or (suc a) zero = inr (omega arith)
below_or (suc a) (suc b) = elim (below_or a b) [
  | inl h ↦ inl (omega arith)
  | inr h ↦ inr (omega arith)
]

-- ---- what is resolved stays so

pub resolved_as : (e e' : Entries) → e'.known.items ≡ e.known.items → e'.statuses.items.items ≡ e.statuses.items.items → (j : ℕ) → IsResolved e j → IsResolved e' j
resolved_as e e' a b j (p, r, d, f) = (p, r, ap (λ (ns : List ℕ). slice_get ns p) a ∙ d, ap (λ (ss : List Status). slice_get ss p) b ∙ f)

still_resolved : (b : Bool) (p r : ℕ) → woken_by b p (Some (Resolved r)) ≡ Some (Resolved r)
still_resolved true p r = refl
still_resolved false p r = refl

pub resolved_more : (e e' : Entries) (p row : ℕ) (rows : List ℕ) → p < length e.statuses.items.items → e'.known.items ≡ e.known.items → e'.statuses.items.items ≡ wake_each p rows (set e.statuses.items.items p (Resolved row)) → (j : ℕ) → IsResolved e j → IsResolved e' j
resolved_more e e' p row rows h a b j (q, r, d, f) =
    let ss = e.statuses.items.items in
    let w : slice_get e'.statuses.items.items q ≡ woken_by (has rows q) p (slice_get (set ss p (Resolved row)) q) = ap (λ (xs : List Status). slice_get xs q) b ∙ woken_each p rows (set ss p (Resolved row)) q in
    let k = ap (λ (ns : List ℕ). slice_get ns q) a ∙ d in
    elim (same_or_other q p) [
      | inl s ↦ (q, row, k, w ∙ ap (woken_by (has rows q) p) (ap (slice_get (set ss p (Resolved row))) s ∙ get_set_same ss p (Resolved row) h) ∙ still_resolved (has rows q) p row)
      | inr n ↦ (q, r, k, w ∙ ap (woken_by (has rows q) p) (get_set_other ss p q (Resolved row) n ∙ f) ∙ still_resolved (has rows q) p r)
    ]

set_keeps : (ss : List Status) (p : ℕ) (s : Status) → slice_get ss p ≡ Some Idle → (q r : ℕ) → slice_get ss q ≡ Some (Resolved r) → slice_get (set ss p s) q ≡ Some (Resolved r)
set_keeps ss p s idle q r f = elim (same_or_other q p) [
  | inl e ↦ let b : Some Idle ≡ Some (Resolved r) = sym idle ∙ ap (slice_get ss) (sym e) ∙ f in absurd (cc b)
  | inr n ↦ get_set_other ss p q s n ∙ f
]

module _ (e : Entries) (p on : ℕ) (idle : slice_get e.statuses.items.items p ≡ Some Idle) where
  -- an idle key that comes to wait was not resolved
  pub resolved_needed : (picked : Picked) (known : List ℕ) (ss : List Status) → IsNeed e.known.items e.statuses.items.items p on picked known ss → (e' : Entries) → e'.known.items ≡ known → e'.statuses.items.items ≡ ss → (j : ℕ) → IsResolved e j → IsResolved e' j
  resolved_needed picked known ss (for_known n m) e' a b j (q, r, d, f) = (q, r, ap (λ (ns : List ℕ). slice_get ns q) a ∙ d, ap (λ (xs : List Status). slice_get xs q) b ∙ set_keeps e.statuses.items.items p (Waiting n) idle q r f)
  resolved_needed picked known ss (for_new non few) e' a b j (q, r, d, f) =
      let xs = e.statuses.items.items in
      let more : slice_get (xs ++ Idle ∷ []) p ≡ Some Idle = get_front xs (Idle ∷ []) p (get_within xs p Idle idle) ∙ idle in (
        q,
        r,
        ap (λ (ns : List ℕ). slice_get ns q) a ∙ get_front e.known.items (on ∷ []) q (get_within e.known.items q j d) ∙ d,
        ap (λ (ys : List Status). slice_get ys q) b ∙ set_keeps (xs ++ Idle ∷ []) p (Waiting (length e.known.items)) more q r (get_front xs (Idle ∷ []) q (get_within xs q (Resolved r) f) ∙ f),
      )
  resolved_needed picked known ss (no_room non few) e' a b j (q, r, d, f) = (q, r, ap (λ (ns : List ℕ). slice_get ns q) a ∙ d, ap (λ (xs : List Status). slice_get xs q) b ∙ f)

  pub known_before : (picked : Picked) (known : List ℕ) (ss : List Status) → IsNeed e.known.items e.statuses.items.items p on picked known ss → (q n : ℕ) → q < length e.known.items → slice_get known q ≡ Some n → slice_get e.known.items q ≡ Some n
  known_before picked known ss (for_known m x) q n h d = d
  known_before picked known ss (for_new non few) q n h d = sym (get_front e.known.items (on ∷ []) q h) ∙ d
  known_before picked known ss (no_room non few) q n h d = d

-- what a look-up of the row of a number says
pub resolved_of : (e : Entries) (n : ℕ) (v : Option ℕ) → IsResolvedBy e n v → is_some v ≡ true → IsResolved e n
resolved_of e n v (s, d, f) t = by s d f
  where
    not_none : v ≡ None → {P : Type 0} → P
    not_none a = let b : false ≡ true = ap is_some (sym a) ∙ t in absurd (cc b)

    by : (s : Option Status) → IsStatusOf e n s → IsRowIn s v → IsResolved e n
    by None d f = not_none f
    by (Some Idle) d f = not_none f
    by (Some (Waiting p)) d f = not_none f
    by (Some (Resolved r)) (p, x, y) f = (p, r, x, y)

pub not_resolved : (e : Entries) (n : ℕ) (v : Option ℕ) → IsResolvedBy e n v → is_some v ≡ false → IsResolvedBy e n None
not_resolved e n None h t = h
not_resolved e n (Some r) h t = absurd (cc t)

-- ---- what was passed stays so

none_below : (xs : List ℕ) (p i : ℕ) → slice_index xs p ≡ 0 → i < slice_index xs p → {P : Type 0} → P
none_below xs p i e h = absurd (omega (arith, e, h))

pub none_passed : (l : Ledger) (e : Entries) → ((q : ℕ) → slice_index e.passed.items q ≡ 0) → ArePassed l e
none_passed l e z = record {
  reads = λ p r i j x d f g k. none_below e.passed.items p i (z p) g;
  none = λ p n d m. z p;
}

pub passed_on : (l : Ledger) (e e' : Entries) → length e.passed.items ≡ length e.known.items → ArePassed l e → ((q : ℕ) → slice_index e'.passed.items q ≡ slice_index e.passed.items q) → ((p n : ℕ) → p < length e.known.items → slice_get e'.known.items p ≡ Some n → slice_get e.known.items p ≡ Some n) →
    ((j : ℕ) → IsResolved e j → IsResolved e' j) → ArePassed l e'
passed_on l e e' size h same known stays = record {
  reads = λ p r i j x d f g k. elim (below_or p (length e.known.items)) [
    | inl w ↦ stays j (h.reads p r i j x (known p x.by w d) f (subst (λ m. i < m) (same p) g) k)
    | inr o ↦ none_below e'.passed.items p i (same p ∙ index_past e.passed.items p (omega (arith, o, size))) g
  ];
  none = λ p n d m. elim (below_or p (length e.known.items)) [
    | inl w ↦ same p ∙ h.none p n (known p n w d) m
    | inr o ↦ same p ∙ index_past e.passed.items p (omega (arith, o, size))
  ];
}

-- one row more, of a key that had none
push_cases : {X P : Type 0} (xs : List X) (x : X) (p : ℕ) (y : X) → slice_get (xs ++ x ∷ []) p ≡ Some y → (slice_get xs p ≡ Some y → P) → (x ≡ y → P) → P
push_cases [] x zero y e old new = let d : x ≡ y = cc in new d
push_cases [] x (suc p) y e old new = absurd (cc e)
push_cases (z ∷ xs) x zero y e old new = old e
push_cases (z ∷ xs) x (suc p) y e old new = push_cases xs x p y e old new

numbers_front : (rs : List (Row Outcome Range)) (x : Row Outcome Range) (n : ℕ) → Member n (numbers_of rs) → Member n (numbers_of (rs ++ x ∷ []))
numbers_front [] x n m = absurd m
numbers_front (r ∷ rs) x n (inl e) = inl e
numbers_front (r ∷ rs) x n (inr m) = inr (numbers_front rs x n m)

pub passed_added : (l l' : Ledger) (e : Entries) (x : Row Outcome Range) → l'.rows.items ≡ l.rows.items ++ x ∷ [] → (Member x.by (numbers_of l.rows.items) → ⊥) → ArePassed l e → ArePassed l' e
passed_added l l' e x a new h = record {
  reads = λ p r i j y d f g k. push_cases l.rows.items x r y (ap (λ (rs : List (Row Outcome Range)). slice_get rs r) (sym a) ∙ f) (λ old. h.reads p r i j y d old g k)
      (λ s. none_below e.passed.items p i (h.none p x.by (d ∙ ap (λ (t : Row Outcome Range). Some t.by) (sym s)) new) g);
  none = λ p n d m. h.none p n d (λ i. m (subst (λ (rs : List (Row Outcome Range)). Member n (numbers_of rs)) (sym a) (numbers_front l.rows.items x n i)));
}

pub passed_as : (l l' : Ledger) (e : Entries) → l'.rows.items ≡ l.rows.items → ArePassed l e → ArePassed l' e
passed_as l l' e a h = record {
  reads = λ p r i j y d f g k. h.reads p r i j y d (ap (λ (rs : List (Row Outcome Range)). slice_get rs r) (sym a) ∙ f) g k;
  none = λ p n d m. h.none p n d (λ i. m (subst (λ (rs : List (Row Outcome Range)). Member n (numbers_of rs)) (sym a) i));
}

-- more reads of one key with a note were passed
pub passed_more : (l : Ledger) (e e' : Entries) (p n : ℕ) → length e.passed.items ≡ length e.known.items → e'.known.items ≡ e.known.items → e'.statuses.items.items ≡ e.statuses.items.items → e'.passed.items ≡ set e.passed.items p n → ArePassed l e →
    ((m : ℕ) → slice_get e.known.items p ≡ Some m → Member m (numbers_of l.rows.items)) →
    ((r i j : ℕ) (x : Row Outcome Range) → slice_get e.known.items p ≡ Some x.by → slice_get l.rows.items r ≡ Some x → i < n → slice_get x.reads.items i ≡ Some j → IsResolved e j) → ArePassed l e'
passed_more l e e' p n size a b c h noted new = record {
  reads = λ q r i j x d f g k.
      let d' : slice_get e.known.items q ≡ Some x.by = ap (λ (ns : List ℕ). slice_get ns q) (sym a) ∙ d in
      let g' : i < slice_index (set e.passed.items p n) q = subst (λ (ns : List ℕ). i < slice_index ns q) c g in
      resolved_as e e' a b j (elim (same_or_other q p) [
        | inl s ↦
            let w = get_within e.known.items q x.by d' in
            let there : slice_index (set e.passed.items p n) q ≡ n = ap (slice_index (set e.passed.items p n)) s ∙ index_there e.passed.items p n (omega (arith, w, s, size)) in
            new r i j x (ap (slice_get e.known.items) (sym s) ∙ d') f (subst (λ m. i < m) there g') k
        | inr o ↦ h.reads q r i j x d' f (subst (λ m. i < m) (index_other e.passed.items p q n o) g') k
      ]);
  none = λ q m d non.
      let d' : slice_get e.known.items q ≡ Some m = ap (λ (ns : List ℕ). slice_get ns q) (sym a) ∙ d in
      ap (λ (ns : List ℕ). slice_index ns q) c ∙ elim (same_or_other q p) [
        | inl s ↦ absurd (non (noted m (ap (slice_get e.known.items) (sym s) ∙ d')))
        | inr o ↦ index_other e.passed.items p q n o ∙ h.none q m d' non
      ];
}
