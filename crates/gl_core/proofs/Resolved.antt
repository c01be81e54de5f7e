-- The resolved keys by numbers, and their notes.
use Rattle.std.proofs.Common.{◌≡◌, ℕ, zero, suc, ◌<◌, nat_eq, Bool, true, false, cond, if◌then◌else◌, List, [], ◌∷◌, length, filter, slice_get, slice_index, Option, Some, None, is_some, refl, sym, ap, ◌∙◌, subst, arith, inl, inr, eq-eqb}
use Rattle.std.specs.Prelude.{option_map}
use Rattle.gl_calculus.specs.Computation.Lists.{Member, AreDistinct}
use Rattle.gl_calculus.specs.Computation.Notes.{Note}
use Rattle.gl_machine.specs.Machine as Machine
use Rattle.gl_machine.specs.Machine.{at, table}
use Rattle.gl_calculus.specs.Grid.Grid.{Range}
use Rattle.gl_calculus.specs.Evaluation.Key as K
use Rattle.gl_calculus.specs.Evaluation.Key.{same_key}
use Rattle.gl_calculus.specs.Calculation.Memory.{Notes}
use Rattle.gl_support.specs.declared.row.Row.{Row}
use Rattle.gl_demand.specs.declared.outcome.Outcome.{Outcome}
use Rattle.gl_core.specs.Kept.{is_resolved}
use Rattle.gl_core.specs.State.{entries, status_tree, waits_for}
use Rattle.gl_core.specs.Numbers.{Each, key_at, keys_at, named, row_notes, outcome_at, IsBelow}
use Rattle.gl_core.specs.Ledger.{written}
use Rattle.gl_core.specs.Table.{known_keys, table_of, IsIndexed, IsCore, IsStatusOf, IsRowIn, IsResolvedBy, HasRow, is_row, has_in, has_outcome}
use Rattle.gl_core.specs.declared.ledger.Ledger.{Ledger}
use Rattle.gl_core.specs.declared.entries.Entries.{Entries}
use Rattle.gl_core.specs.declared.status.Status.{Status}
use Rattle.gl_core.specs.declared.status.Status.TheVariants.{Idle, Waiting, Resolved}
use Rattle.gl_core.proofs.Wakes.{get_within}
use Rattle.gl_core.proofs.Places.{member_at}
use Rattle.gl_core.proofs.Tables.{not_same}
use Rattle.gl_core.proofs.Numbered.{distinct_by, index_of_get, key_is, same_number}
use Rattle.gl_core.proofs.Cores.{readable, status_there, absent, rows_there}

-- ---- the test

-- a number that is known has its status
pub has_at : (ms : List ℕ) (ss : List Status) (p n : ℕ) (s : Status) → AreDistinct ms → slice_get ms p ≡ Some n → slice_get ss p ≡ Some s → has_in ms ss n ≡ is_row s
has_at [] ss p n s d e f = absurd (cc e)
has_at (m ∷ ms) [] p n s d e f = absurd (cc f)
has_at (m ∷ ms) (t ∷ ss) zero n s d e f =
    let a : m ≡ n = cc in
    let b : t ≡ s = cc in
    ap (λ c. cond c (is_row t) (has_in ms ss n)) (eq-eqb n m (sym a)) ∙ ap is_row b
has_at (m ∷ ms) (t ∷ ss) (suc p) n s d e f =
    ap (λ c. cond c (is_row t) (has_in ms ss n)) (not_same n m (λ i. d.0 (subst (λ (k : ℕ). Member k ms) i (member_at ms p n e)))) ∙ has_at ms ss p n s d.1 e f

has_none : (ms : List ℕ) (ss : List Status) (n : ℕ) → (Member n ms → ⊥) → has_in ms ss n ≡ false
has_none [] ss n non = refl
has_none (m ∷ ms) [] n non = refl
has_none (m ∷ ms) (t ∷ ss) n non = ap (λ c. cond c (is_row t) (has_in ms ss n)) (not_same n m (λ i. non (inl i))) ∙ has_none ms ss n (λ i. non (inr i))

pub known_apart : (e : Entries) → IsIndexed e → AreDistinct e.known.items
known_apart e i = distinct_by e.known.items (λ p q n d f.
    let a = i.there p (get_within e.known.items p n d) in
    let b = i.there q (get_within e.known.items q n f) in
    let g : slice_index e.known.items p ≡ slice_index e.known.items q = index_of_get e.known.items p n d ∙ sym (index_of_get e.known.items q n f) in
    let h : suc p ≡ suc q = sym a ∙ ap (slice_index e.at.items) g ∙ b in
    omega (arith, h))

-- a number is resolved where it has a row
pub resolved_by : (e : Entries) → IsIndexed e → (n : ℕ) (v : Option ℕ) → IsResolvedBy e n v → is_some v ≡ has_outcome e n
resolved_by e i n v (s, d, r) = by s d r
  where
    row : (s : Status) → IsRowIn (Some s) v → is_some v ≡ is_row s
    row Idle r = ap is_some r
    row (Waiting q) r = ap is_some r
    row (Resolved q) r = ap is_some r

    by : (s : Option Status) → IsStatusOf e n s → IsRowIn s v → is_some v ≡ has_outcome e n
    by None d r = ap is_some r ∙ sym (has_none e.known.items e.statuses.items.items n d)
    by (Some s) (p, f, g) r = row s r ∙ sym (has_at e.known.items e.statuses.items.items p n s (known_apart e i) f g)

-- ---- and its key is then resolved

module _ (ks : List K.Key) (apart : AreDistinct ks) (outs : ℕ → K.Outcome) (known : List K.Key) where
  waits_not : (v : Option K.Key) → false ≡ is_some (Machine.outcome_of (Some (waits_for v)))
  waits_not None = refl
  waits_not (Some j) = refl

  row_is : (s : Status) → is_row s ≡ is_some (Machine.outcome_of (Some (status_tree outs known s)))
  row_is Idle = refl
  row_is (Waiting p) = waits_not (slice_get known p)
  row_is (Resolved r) = refl

  has_resolved : (ms : List ℕ) → Each (λ m. m < length ks) ms → (ss : List Status) (n : ℕ) → n < length ks → has_in ms ss n ≡ is_some (table same_key (entries outs known (keys_at ks ms) ss) (key_at ks n))
  has_resolved [] a ss n h = refl
  has_resolved (m ∷ ms) a [] n h = refl
  has_resolved (m ∷ ms) a (s ∷ ss) n h =
      by (nat_eq n m) (has_resolved ms a.1 ss n h)
      ∙ ap (λ b. is_some (Machine.outcome_of (cond b (Some (status_tree outs known s)) (at same_key (entries outs known (keys_at ks ms) ss) (key_at ks n))))) (sym (same_number ks apart n m h a.0))
    where
      by : (b : Bool) → has_in ms ss n ≡ is_some (table same_key (entries outs known (keys_at ks ms) ss) (key_at ks n)) →
          cond b (is_row s) (has_in ms ss n) ≡ is_some (Machine.outcome_of (cond b (Some (status_tree outs known s)) (at same_key (entries outs known (keys_at ks ms) ss) (key_at ks n))))
      by true e = row_is s
      by false e = e

module _ (l : Ledger) (e : Entries) (c : IsCore l e) where
  number_resolved : (n : ℕ) → n < length l.book → has_outcome e n ≡ is_resolved (table_of l e) (key_at l.book n)
  number_resolved n h = has_resolved l.book c.ledger.book.apart (outcome_at l.rows.items) (known_keys l e) e.known.items c.below e.statuses.items.items n h

  -- the notes of the rows of resolved numbers are those of the resolved keys
  filtered : (rs : List (Row Outcome Range)) → Each (IsBelow (length l.book)) rs →
      row_notes l.book (filter (λ (r : Row Outcome Range). has_outcome e r.by) rs) ≡ filter (λ (n : Note K.Key K.Outcome Range). is_resolved (table_of l e) n.key) (row_notes l.book rs)
  filtered [] a = refl
  filtered (r ∷ rs) a =
      by (has_outcome e r.by) (filtered rs a.1)
      ∙ ap (λ b. if b then named l.book (record { key = r.by; outcome = r.outcome; reads = r.reads.items; looked = r.looked.items }) ∷ filter (λ (n : Note K.Key K.Outcome Range). is_resolved (table_of l e) n.key) (row_notes l.book rs) else filter (λ (n : Note K.Key K.Outcome Range). is_resolved (table_of l e) n.key) (row_notes l.book rs)) (number_resolved r.by a.0.0)
    where
      by : (b : Bool) → row_notes l.book (filter (λ (r : Row Outcome Range). has_outcome e r.by) rs) ≡ filter (λ (n : Note K.Key K.Outcome Range). is_resolved (table_of l e) n.key) (row_notes l.book rs) →
          row_notes l.book (if b then r ∷ filter (λ (r : Row Outcome Range). has_outcome e r.by) rs else filter (λ (r : Row Outcome Range). has_outcome e r.by) rs)
          ≡ (if b then named l.book (record { key = r.by; outcome = r.outcome; reads = r.reads.items; looked = r.looked.items }) ∷ filter (λ (n : Note K.Key K.Outcome Range). is_resolved (table_of l e) n.key) (row_notes l.book rs) else filter (λ (n : Note K.Key K.Outcome Range). is_resolved (table_of l e) n.key) (row_notes l.book rs))
      by true f = ap (λ (t : Notes). named l.book (record { key = r.by; outcome = r.outcome; reads = r.reads.items; looked = r.looked.items }) ∷ t) f
      by false f = f

  pub resolved_written : (l' : Ledger) → l'.book ≡ l.book → l'.rows.items ≡ filter (λ (r : Row Outcome Range). has_outcome e r.by) l.rows.items → written l' ≡ filter (λ (n : Note K.Key K.Outcome Range). is_resolved (table_of l e) n.key) (written l)
  resolved_written l' b r = ap (λ (ks : List K.Key). row_notes ks l'.rows.items) b ∙ ap (λ (rs : List (Row Outcome Range)). row_notes l.book rs) r ∙ filtered l.rows.items c.ledger.below

  -- ---- statuses of keys

  pub status_found : (n : ℕ) (k : K.Key) (s : Option Status) → slice_get l.book n ≡ Some k → IsStatusOf e n s → option_map (status_tree (outcome_at l.rows.items) (known_keys l e)) s ≡ at same_key (table_of l e) k
  status_found n k s f i = sym (ap (at same_key (table_of l e)) (sym (key_is l.book n k f)) ∙ status_there l e (readable l e c) n s (get_within l.book n k f) i)

  pub status_row : (n : ℕ) (s : Option Status) → IsStatusOf e n s → HasRow l.rows.items s
  status_row n None i = tt
  status_row n (Some Idle) i = tt
  status_row n (Some (Waiting p)) i = tt
  status_row n (Some (Resolved r)) (p, f, g) = rows_there l e c p r g

  pub status_none : (k : K.Key) → (Member k l.book → ⊥) → None ≡ at same_key (table_of l e) k
  status_none k non = sym (absent l e (readable l e c) k non)
