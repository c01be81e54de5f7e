-- As many rows as known keys that are not idle, where nothing waits: each row is that of a known key.
use Rattle.std.proofs.Common.{◌≡◌, ◌⊎◌, ℕ, zero, suc, ◌+◌, ◌<◌, ◌≤◌, Bool, true, false, cond, nat_eq, List, [], ◌∷◌, length, filter, slice_get, slice_index, Some, refl, sym, ap, ◌∙◌, subst, inl, inr, arith, append-nil}
use Rattle.gl_calculus.specs.Computation.Lists.{Member, AreDistinct}
use Rattle.gl_calculus.specs.Computation.Notes.{Note, Here}
use Rattle.gl_calculus.specs.Grid.Grid.{Range}
use Rattle.gl_support.specs.Rows.{notes_of}
use Rattle.gl_support.specs.declared.row.Row.{Row}
use Rattle.gl_demand.specs.declared.outcome.Outcome.{Outcome}
use Rattle.gl_core.specs.Statuses.{count_idle}
use Rattle.gl_core.specs.Numbers.{Each, numbers_of}
use Rattle.gl_core.specs.Ledger.{IsLedger}
use Rattle.gl_core.specs.Marks.{TellNothing}
use Rattle.gl_core.specs.Table.{IsCore, IsResolved, IsBegun, is_row, has_in, has_outcome, marks_of}
use Rattle.gl_core.specs.Resuming.{IsClosure}
use Rattle.gl_core.specs.Rested.{NoneWaits, IsRested, IsRestOf, AreReopened}
use Rattle.gl_core.specs.declared.ledger.Ledger.{Ledger}
use Rattle.gl_core.specs.declared.entries.Entries.{Entries}
use Rattle.gl_core.specs.declared.status.Status.{Status}
use Rattle.gl_core.specs.declared.status.Status.TheVariants.{Idle, Waiting, Resolved}
use Rattle.gl_core.proofs.Wakes.{get_there, get_within}
use Rattle.gl_core.proofs.Places.{member_at, place_of, one_place}
use Rattle.gl_core.proofs.Numbered.{get_map}
use Rattle.gl_core.proofs.Filtered.{numbers_length}
use Rattle.gl_core.proofs.Cores.{indexed}
use Rattle.gl_core.proofs.Resolved.{has_at, known_apart}
use Rattle.gl_core.proofs.Whole.{fills, filter_whole, row_number}

-- the numbers with rows
abbrev resolved_numbers : List ℕ → List Status → List ℕ
resolved_numbers [] ss = []
resolved_numbers (n ∷ ns) [] = []
resolved_numbers (n ∷ ns) (s ∷ ss) = cond (is_row s) (n ∷ resolved_numbers ns ss) (resolved_numbers ns ss)

count_resolved : (ns : List ℕ) (ss : List Status) → length ss ≡ length ns → NoneWaits ss → length (resolved_numbers ns ss) + count_idle ss ≡ length ns
count_resolved [] [] e w = refl
count_resolved [] (s ∷ ss) e w = absurd (omega (arith, e))
count_resolved (n ∷ ns) [] e w = absurd (omega (arith, e))
count_resolved (n ∷ ns) (Idle ∷ ss) e w = let a = count_resolved ns ss (omega (arith, e)) (λ q p d. w (suc q) p d) in omega (arith, a)
count_resolved (n ∷ ns) (Waiting p ∷ ss) e w = absurd (w 0 p refl)
count_resolved (n ∷ ns) (Resolved r ∷ ss) e w = let a = count_resolved ns ss (omega (arith, e)) (λ q p d. w (suc q) p d) in omega (arith, a)

resolved_at : (ns : List ℕ) (ss : List Status) (n : ℕ) → Member n (resolved_numbers ns ss) → (p : ℕ) × (r : ℕ) × (slice_get ns p ≡ Some n) × (slice_get ss p ≡ Some (Resolved r))
resolved_at [] ss n m = absurd m
resolved_at (k ∷ ns) [] n m = absurd m
resolved_at (k ∷ ns) (Idle ∷ ss) n m = let (p, r, d, e) = resolved_at ns ss n m in (suc p, r, d, e)
resolved_at (k ∷ ns) (Waiting q ∷ ss) n m = let (p, r, d, e) = resolved_at ns ss n m in (suc p, r, d, e)
resolved_at (k ∷ ns) (Resolved r ∷ ss) n (inl e) = (0, r, ap Some (sym e), refl)
resolved_at (k ∷ ns) (Resolved x ∷ ss) n (inr m) = let (p, r, d, e) = resolved_at ns ss n m in (suc p, r, d, e)

resolved_apart : (ns : List ℕ) (ss : List Status) → AreDistinct ns → AreDistinct (resolved_numbers ns ss)
resolved_apart [] ss d = tt
resolved_apart (n ∷ ns) [] d = tt
resolved_apart (n ∷ ns) (Idle ∷ ss) d = resolved_apart ns ss d.1
resolved_apart (n ∷ ns) (Waiting p ∷ ss) d = resolved_apart ns ss d.1
resolved_apart (n ∷ ns) (Resolved r ∷ ss) d = ((λ m. let (p, q, e, f) = resolved_at ns ss n m in d.0 (member_at ns p n e)), resolved_apart ns ss d.1)

module _ (l : Ledger) (e : Entries) (c : IsCore l e) (none : NoneWaits e.statuses.items.items) (count : length l.rows.items + count_idle e.statuses.items.items ≡ length e.known.items) where
  apart : AreDistinct e.known.items
  apart = known_apart e (indexed e c.table)

  of_row : (k : ℕ) → Member k (resolved_numbers e.known.items e.statuses.items.items) → Member k (numbers_of l.rows.items)
  of_row k m =
      let (p, r, d, f) = resolved_at e.known.items e.statuses.items.items k m in
      let (x, i, j) = c.resolved p r f in
      let same : Some k ≡ Some x.by = sym d ∙ j in
      let is : k ≡ x.by = cc in
      subst (λ (n : ℕ). Member n (numbers_of l.rows.items)) (sym is) (member_at (numbers_of l.rows.items) r x.by (get_map (λ (y : Row Outcome Range). y.by) l.rows.items r x i))

  row_resolved : (n : ℕ) → Member n (numbers_of l.rows.items) → (p : ℕ) × (r : ℕ) × (slice_get e.known.items p ≡ Some n) × (slice_get e.statuses.items.items p ≡ Some (Resolved r))
  row_resolved n m =
      let a = count_resolved e.known.items e.statuses.items.items c.table.statuses none in
      let b = numbers_length l.rows.items in
      resolved_at e.known.items e.statuses.items.items n
      (fills (resolved_numbers e.known.items e.statuses.items.items) (numbers_of l.rows.items) (resolved_apart e.known.items e.statuses.items.items apart) of_row (omega (arith, a, b, count)) n m)

  begins : (p n : ℕ) (s : Status) → slice_get e.known.items p ≡ Some n → slice_get e.statuses.items.items p ≡ Some s → IsBegun l.rows.items n s
  begins p n Idle d f = λ m.
      let (q, r, g, h) = row_resolved n m in
      let same : q ≡ p = one_place e.known.items apart q p n g d in
      let no : Some Idle ≡ Some (Resolved r) = sym f ∙ ap (slice_get e.statuses.items.items) (sym same) ∙ h in
      cc no
  begins p n (Waiting q) d f = none p q f
  begins p n (Resolved r) d f =
      let (x, i, j) = c.resolved p r f in
      let same : Some x.by ≡ Some n = sym j ∙ d in
      let is : x.by ≡ n = cc in
      (x, i, is)

  pub counted_rested : TellNothing (marks_of e) → IsRested l e
  counted_rested marks = record {
    table = c.table;
    below = c.below;
    begun = begins;
    none = c.passed.none;
    marks = marks;
    all = λ n m. let (p, r, d, f) = row_resolved n m in member_at e.known.items p n d;
  }

  -- each row stays
  pub counted_kept : l.rows.items ≡ filter (λ (r : Row Outcome Range). has_outcome e r.by) l.rows.items
  counted_kept = sym (filter_whole (λ (r : Row Outcome Range). has_outcome e r.by) l.rows.items (λ r m. outcome r.by (row_number l.rows.items r m)))
    where
      outcome : (n : ℕ) → Member n (numbers_of l.rows.items) → has_outcome e n ≡ true
      outcome n m = let (p, r, d, f) = row_resolved n m in has_at e.known.items e.statuses.items.items p n (Resolved r) apart d f

-- ---- what a core keeps, where known keys are resolved by their rows

module _ (l : Ledger) (e : Entries) (h : IsLedger l) (b : IsRested l e) where
  status_there : (p n : ℕ) → slice_get e.known.items p ≡ Some n → (s : Status) × (slice_get e.statuses.items.items p ≡ Some s)
  status_there p n d = get_there e.statuses.items.items p (let a = get_within e.known.items p n d in omega (arith, a, b.table.statuses))

  noted_resolved : (n : ℕ) → Member n (numbers_of l.rows.items) → IsResolved e n
  noted_resolved n m =
      let (p, d) = place_of e.known.items n (b.all n m) in
      let (s, f) = status_there p n d in
      by p d s f (b.begun p n s d f)
    where
      by : (p : ℕ) → slice_get e.known.items p ≡ Some n → (s : Status) → slice_get e.statuses.items.items p ≡ Some s → IsBegun l.rows.items n s → IsResolved e n
      by p d Idle f g = absurd (g m)
      by p d (Waiting q) f g = absurd g
      by p d (Resolved r) f g = (p, r, d, f)

  -- the known keys are all that they reach
  pub rested_closure : ((n : Note ℕ Outcome Range) → Member n (notes_of l.rows.items) → (j : ℕ) → Member j n.reads → Member j (numbers_of l.rows.items)) → IsClosure l e.known.items e.known.items
  rested_closure noted = record {
    rest = [];
    first = sym (append-nil e.known.items);
    below = b.below;
    apart = known_apart e (indexed e b.table);
    reached = λ k m. (k, m, Here);
    closed = λ n i m j r. b.all j (noted n i j r);
    noted = noted;
  }

  pub rested_core : ((n : Note ℕ Outcome Range) → Member n (notes_of l.rows.items) → (j : ℕ) → Member j n.reads → Member j (numbers_of l.rows.items)) → IsCore l e
  rested_core noted = record {
    ledger = h;
    table = b.table;
    below = b.below;
    resolved = λ p r d. (
        let (n, f) = get_there e.known.items p (let a = get_within e.statuses.items.items p (Resolved r) d in omega (arith, a, b.table.statuses)) in
        let (x, g, i) = b.begun p n (Resolved r) f d in
        (x, g, f ∙ ap Some (sym i)));
    passed = record {
      reads = λ p r i j x d g k q. noted_resolved j (noted (note x) (note_at r x g) j (member_at x.reads.items i j q));
      none = b.none;
    };
  }
    where
      note : Row Outcome Range → Note ℕ Outcome Range
      note x = record { key = x.by; outcome = x.outcome; reads = x.reads.items; looked = x.looked.items }

      note_at : (r : ℕ) (x : Row Outcome Range) → slice_get l.rows.items r ≡ Some x → Member (note x) (notes_of l.rows.items)
      note_at r x g = by l.rows.items r g
        where
          by : (rs : List (Row Outcome Range)) (r : ℕ) → slice_get rs r ≡ Some x → Member (note x) (notes_of rs)
          by [] r g = absurd (cc g)
          by (y ∷ rs) zero g = let d : y ≡ x = cc in inl (ap note (sym d))
          by (y ∷ rs) (suc r) g = inr (by rs r g)

-- ---- what a core keeps, where nothing waits any more

is_last : (old new : List Status) → AreReopened old new → (p r : ℕ) → slice_get old p ≡ Some (Resolved r) → slice_get new p ≡ Some (Resolved r)
is_last old new a p r d =
    let (s, f) = get_there new p (let h = get_within old p (Resolved r) d in omega (arith, h, a.size)) in
    by s f (a.each p s f)
  where
    by : (s : Status) → slice_get new p ≡ Some s → (slice_get old p ≡ Some s) ⊎ ((s ≡ Idle) × (q : ℕ) × (slice_get old p ≡ Some (Waiting q))) → slice_get new p ≡ Some (Resolved r)
    by s f (inl e) =
        let g : Some s ≡ Some (Resolved r) = sym e ∙ d in
        f ∙ g
    by s f (inr e) = let no : Some (Resolved r) ≡ Some (Waiting e.1) = sym d ∙ e.2 in absurd (cc no)

was_resolved : (old new : List Status) → AreReopened old new → (p r : ℕ) → slice_get new p ≡ Some (Resolved r) → slice_get old p ≡ Some (Resolved r)
was_resolved old new a p r d = elim (a.each p (Resolved r) d) [
  | inl e ↦ e
  | inr e ↦ absurd (cc e.0)
]

pub rest_core : (l : Ledger) (e e' : Entries) → IsCore l e → IsRestOf e e' → IsCore l e'
rest_core l e e' c r = record {
  ledger = c.ledger;
  table = r.table;
  below = subst (λ (ns : List ℕ). Each (λ n. n < length l.book) ns) (sym r.known) c.below;
  resolved = λ p n d. (let (x, f, g) = c.resolved p n (was_resolved ss ss' r.statuses p n d) in (x, f, ap (λ (ns : List ℕ). slice_get ns p) r.known ∙ g));
  passed = record {
    reads = λ p n i j x d f g h. resolved j (c.passed.reads p n i j x (ap (λ (ns : List ℕ). slice_get ns p) (sym r.known) ∙ d) f (subst (λ (ns : List ℕ). i < slice_index ns p) r.passed g) h);
    none = λ p n d f. ap (λ (ns : List ℕ). slice_index ns p) r.passed ∙ c.passed.none p n (ap (λ (ns : List ℕ). slice_get ns p) (sym r.known) ∙ d) f;
  };
}
  where
    ss : List Status
    ss = e.statuses.items.items

    ss' : List Status
    ss' = e'.statuses.items.items

    resolved : (j : ℕ) → IsResolved e j → IsResolved e' j
    resolved j (p, n, d, f) = (p, n, ap (λ (ns : List ℕ). slice_get ns p) r.known ∙ d, is_last ss ss' r.statuses p n f)

-- the same keys are resolved
has_still : (ns : List ℕ) (ss ss' : List Status) → AreReopened ss ss' → (n : ℕ) → has_in ns ss' n ≡ has_in ns ss n
has_still [] ss ss' a n = refl
has_still (m ∷ ns) [] [] a n = refl
has_still (m ∷ ns) [] (s ∷ ss') a n = absurd (omega (arith, a.size))
has_still (m ∷ ns) (s ∷ ss) [] a n = absurd (omega (arith, a.size))
has_still (m ∷ ns) (s ∷ ss) (s' ∷ ss') a n =
    let rest : AreReopened ss ss' = record { size = omega (arith, a.size); each = λ q x d. a.each (suc q) x d } in
    ap (λ (b : Bool). cond (nat_eq n m) b (has_in ns ss' n)) (same (a.each 0 s' refl)) ∙ ap (λ (b : Bool). cond (nat_eq n m) (is_row s) b) (has_still ns ss ss' rest n)
  where
    same : (Some s ≡ Some s') ⊎ ((s' ≡ Idle) × (q : ℕ) × (Some s ≡ Some (Waiting q))) → is_row s' ≡ is_row s
    same (inl e) = let d : s ≡ s' = cc in ap is_row (sym d)
    same (inr e) =
        let w : Some s ≡ Some (Waiting e.1) = e.2 in
        let d : s ≡ Waiting e.1 = cc in
        ap is_row e.0 ∙ sym (ap is_row d)

filter_alike : {X : Type 0} (p q : X → Bool) (xs : List X) → ((x : X) → p x ≡ q x) → filter p xs ≡ filter q xs
filter_alike p q [] h = refl
filter_alike p q (x ∷ xs) h = rw (h x, filter_alike p q xs h) refl

pub rest_filter : (e e' : Entries) → IsRestOf e e' → (rs : List (Row Outcome Range)) → filter (λ (r : Row Outcome Range). has_outcome e' r.by) rs ≡ filter (λ (r : Row Outcome Range). has_outcome e r.by) rs
rest_filter e e' r rs = filter_alike (λ (x : Row Outcome Range). has_outcome e' x.by) (λ (x : Row Outcome Range). has_outcome e x.by) rs
    (λ x. ap (λ (ns : List ℕ). has_in ns e'.statuses.items.items x.by) r.known ∙ has_still e.known.items e.statuses.items.items e'.statuses.items.items r.statuses x.by)
