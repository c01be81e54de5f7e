-- Picks of keys with notes, and what they keep.
use Rattle.std.proofs.Common.{◌≡◌, ℕ, zero, suc, get_or, ◌<◌, ◌≤◌, true, false, List, [], ◌∷◌, length, set, slice_get, slice_index, Option, Some, None, Result, Ok, Err, OnOk, OnErr, IfOk, IfSome, inl, inr, refl, sym, ap, ◌∙◌, subst}
use Rattle.gl_calculus.specs.Computation.Lists.{Member}
use Rattle.gl_calculus.specs.Computation.Query.{Query, found, IsTrueTable}
use Rattle.gl_machine.specs.Reads.{first_without, end_by_note}
use Rattle.gl_machine.specs.Remembered.{AreTrue}
use Rattle.gl_machine.specs.Machine as Machine
use Rattle.gl_machine.specs.Machine.{at, table}
use Rattle.gl_calculus.specs.Grid.Limits.{max_demanded}
use Rattle.gl_calculus.specs.Grid.Grid.{Range}
use Rattle.gl_calculus.specs.Evaluation.Key as K
use Rattle.gl_calculus.specs.Evaluation.Key.{same_key}
use Rattle.gl_support.specs.declared.row.Row.{Row}
use Rattle.gl_demand.specs.View.{outcome_tree}
use Rattle.gl_demand.specs.declared.outcome.Outcome.{Outcome}
use Rattle.gl_core.specs.Statuses.{row_of, wake_each}
use Rattle.gl_core.specs.Numbers.{Each, key_at, keys_at, numbers_of, outcome_at, IsRowOf}
use Rattle.gl_core.specs.State.{state_by, is_noted}
use Rattle.gl_core.specs.Ledger.{written}
use Rattle.gl_core.specs.Table.{known_keys, table_of, IsTable, IsCore, IsNeed, IsResolved, ArePassed}
use Rattle.gl_core.specs.Answers.{picked_tree}
use Rattle.gl_core.specs.declared.answers.Picked.{Picked}
use Rattle.gl_core.specs.declared.answers.Picked.TheVariants.{Full}
use Rattle.gl_core.specs.declared.ledger.Ledger.{Ledger}
use Rattle.gl_core.specs.declared.entries.Entries.{Entries}
use Rattle.gl_core.specs.declared.status.Status.{Status}
use Rattle.gl_core.specs.declared.status.Status.TheVariants.{Idle, Resolved}
use Rattle.gl_core.proofs.Numbered.{all_at, all_in, get_map, index_apart, noted_number, not_noted}
use Rattle.gl_core.proofs.Places.{member_at, one_place}
use Rattle.gl_core.proofs.Passed.{below_or, resolved_as, passed_on, passed_more}
use Rattle.gl_core.proofs.Cores.{readable, known_at, resolved_table, resolved_core, needed_table, needed_core}
use Rattle.gl_core.proofs.Firsts.{row_below, found_by_row}

pub if_on : {X E : Type 0} {P : X → Type 0} {Q : Type 0} (r : Result X E) → IfOk r P → ((x : X) → P x → Q) → OnOk r Q
if_on (Ok x) p f = f x p
if_on (Err e) p f = tt

-- nothing changes where known keys and statuses stay
pub table_stays : (l : Ledger) (e e' : Entries) → e'.known.items ≡ e.known.items → e'.statuses.items.items ≡ e.statuses.items.items → table_of l e' ≡ table_of l e
table_stays l e e' a b = ap (λ (ns : List ℕ). state_by (outcome_at l.rows.items) (keys_at l.book ns) e'.statuses.items.items) a ∙ ap (state_by (outcome_at l.rows.items) (known_keys l e)) b

pub core_stays : (l : Ledger) (e e' : Entries) → IsCore l e → IsTable e' → ((q : ℕ) → slice_index e'.passed.items q ≡ slice_index e.passed.items q) → e'.known.items ≡ e.known.items → e'.statuses.items.items ≡ e.statuses.items.items → IsCore l e'
core_stays l e e' c t same a b = record {
  ledger = c.ledger;
  table = t;
  below = subst (λ (ns : List ℕ). Each (λ n. n < length l.book) ns) (sym a) c.below;
  resolved = λ p r d. (let (x, f, g) = c.resolved p r (ap (λ (xs : List Status). slice_get xs p) (sym b) ∙ d) in (x, f, ap (λ (ns : List ℕ). slice_get ns p) a ∙ g));
  passed = passed_on l e e' c.table.passed c.passed same (λ q n w d. ap (λ (ns : List ℕ). slice_get ns q) (sym a) ∙ d) (resolved_as e e' a b);
}

pub core_after : {X E : Type 0} (l : Ledger) (e e' : Entries) (r : Result X E) → IsCore l e → IsTable e' → ((q : ℕ) → slice_index e'.passed.items q ≡ slice_index e.passed.items q) → IfOk r (λ x. IsCore l e') → OnErr r (e'.known.items ≡ e.known.items) → OnErr r (e'.statuses.items.items ≡ e.statuses.items.items) → IsCore l e'
core_after l e e' (Ok x) c t same h a b = h
core_after l e e' (Err x) c t same h a b = core_stays l e e' c t same a b

pub table_err : {X E : Type 0} (l : Ledger) (e e' : Entries) (r : Result X E) → OnErr r (e'.known.items ≡ e.known.items) → OnErr r (e'.statuses.items.items ≡ e.statuses.items.items) → OnErr r (table_of l e' ≡ table_of l e)
table_err l e e' (Ok x) a b = tt
table_err l e e' (Err x) a b = table_stays l e e' a b

module _ (l : Ledger) (e e' : Entries) (c : IsCore l e) (t : IsTable e') (same : (q : ℕ) → slice_index e'.passed.items q ≡ slice_index e.passed.items q) (p row : ℕ) (x : Row Outcome Range) (there : slice_get l.rows.items row ≡ Some x) (by : slice_get e.known.items p ≡ Some x.by) where
  same_as : (k : K.Key) → slice_get (known_keys l e) p ≡ Some k → key_at l.book x.by ≡ k
  same_as k d = let a : Some (key_at l.book x.by) ≡ Some k = sym (known_at l e (readable l e c) p x.by by) ∙ d in cc

  finds : (program : K.Key → Query K.Key K.Outcome Range K.Outcome) → AreTrue same_key program (written l) → IsTrueTable program (table same_key (table_of l e)) → (v : Option K.Key) → v ≡ first_without (table same_key (table_of l e)) (keys_at l.book x.reads.items) →
      (k : K.Key) → slice_get (known_keys l e) p ≡ Some k → found (table same_key (table_of l e)) (program k) ≡ end_by_note (outcome_tree x.outcome) v
  finds program a b v d k f = ap (λ j. found (table same_key (table_of l e)) (program j)) (sym (same_as k f)) ∙ found_by_row l e c row x there program a b v d

  -- it needs the first read that is not resolved
  module _ (on : ℕ) (reads : List ℕ) (is : reads ≡ x.reads.items) (member : Member on reads) where
    on_there : on < length l.book
    on_there = all_in (λ n. n < length l.book) x.reads.items (row_below l e c row x there).1 on (subst (Member on) is member)

    pub waits_core : slice_get e.statuses.items.items p ≡ Some Idle → (picked : Picked) → IsNeed e.known.items e.statuses.items.items p on picked e'.known.items e'.statuses.items.items → IsCore l e'
    waits_core idle picked need = needed_core l e e' c t same p on (key_at l.book x.by) (known_at l e (readable l e c) p x.by by) on_there idle picked e'.known.items e'.statuses.items.items need refl refl

    pub waits_turn : Some (key_at l.book on) ≡ first_without (table same_key (table_of l e)) (keys_at l.book reads) → (picked : Picked) → IsNeed e.known.items e.statuses.items.items p on picked e'.known.items e'.statuses.items.items →
        (program : K.Key → Query K.Key K.Outcome Range K.Outcome) → AreTrue same_key program (written l) → IsTrueTable program (table same_key (table_of l e)) → (k : K.Key) → slice_get (known_keys l e) p ≡ Some k →
        (table_of l e' ≡ Machine.turn same_key max_demanded (table_of l e) k (found (table same_key (table_of l e)) (program k))) × (picked_tree picked ≡ Machine.turn_answer same_key max_demanded (table_of l e) (found (table same_key (table_of l e)) (program k)))
    waits_turn first picked need program a b k d =
        let f = finds program a b (Some (key_at l.book on)) (first ∙ ap (λ (ns : List ℕ). first_without (table same_key (table_of l e)) (keys_at l.book ns)) is) k d in
        let (g, h) = needed_table l e e' c t same p on k d on_there picked e'.known.items e'.statuses.items.items need refl refl in
        (g ∙ ap (Machine.turn same_key max_demanded (table_of l e) k) (sym f), h ∙ ap (Machine.turn_answer same_key max_demanded (table_of l e)) (sym f))

  -- it has its outcome
  module _ (known : e'.known.items ≡ e.known.items) (ss : e'.statuses.items.items ≡ wake_each p (row_of e.waiting.items p) (set e.statuses.items.items p (Resolved row))) where
    pub ready_core : IsCore l e'
    ready_core = resolved_core l e e' c t same p row x there by known ss

    pub ready_turn : (reads : List ℕ) → reads ≡ x.reads.items → None ≡ first_without (table same_key (table_of l e)) (keys_at l.book reads) →
        (program : K.Key → Query K.Key K.Outcome Range K.Outcome) → AreTrue same_key program (written l) → IsTrueTable program (table same_key (table_of l e)) → (k : K.Key) → slice_get (known_keys l e) p ≡ Some k →
        (table_of l e' ≡ Machine.turn same_key max_demanded (table_of l e) k (found (table same_key (table_of l e)) (program k))) × (Machine.Picked.Resolved ≡ Machine.turn_answer same_key max_demanded (table_of l e) (found (table same_key (table_of l e)) (program k)))
    ready_turn reads is first program a b k d =
        let f = finds program a b None (first ∙ ap (λ (ns : List ℕ). first_without (table same_key (table_of l e)) (keys_at l.book ns)) is) k d in
        (resolved_table l e e' c t same p row x there by known ss ∙ ap (λ j. Machine.resolve same_key j (outcome_tree x.outcome) (table_of l e)) (same_as k d) ∙ ap (Machine.turn same_key max_demanded (table_of l e) k) (sym f), ap (Machine.turn_answer same_key max_demanded (table_of l e)) (sym f))

-- ---- whether a key has a note

pub row_there : (l : Ledger) (e : Entries) (p n r : ℕ) → slice_get e.known.items p ≡ Some n → IsRowOf l.rows.items n (Some r) → (x : Row Outcome Range) × (slice_get l.rows.items r ≡ Some x) × (slice_get e.known.items p ≡ Some x.by)
row_there l e p n r d (x, f, g) = (x, f, d ∙ ap Some (sym g))

pub key_noted : (l : Ledger) (e : Entries) → IsCore l e → (p n r : ℕ) → slice_get e.known.items p ≡ Some n → IsRowOf l.rows.items n (Some r) → (k : K.Key) → slice_get (known_keys l e) p ≡ Some k → is_noted (written l) k ≡ true
key_noted l e c p n r d (x, f, g) k ek =
    let a : Some (key_at l.book n) ≡ Some k = sym (known_at l e (readable l e c) p n d) ∙ ek in
    let is : key_at l.book n ≡ k = cc in
    subst (λ j. is_noted (written l) j ≡ true) is (noted_number l.book l.rows.items n (subst (λ m. Member m (numbers_of l.rows.items)) g (member_at (numbers_of l.rows.items) r x.by (get_map (λ (y : Row Outcome Range). y.by) l.rows.items r x f))))

pub key_new : (l : Ledger) (e : Entries) → IsCore l e → (p n : ℕ) → slice_get e.known.items p ≡ Some n → (Member n (numbers_of l.rows.items) → ⊥) → (k : K.Key) → slice_get (known_keys l e) p ≡ Some k → is_noted (written l) k ≡ false
key_new l e c p n d non k ek =
    let a : Some (key_at l.book n) ≡ Some k = sym (known_at l e (readable l e c) p n d) ∙ ek in
    let is : key_at l.book n ≡ k = cc in
    subst (λ j. is_noted (written l) j ≡ false) is (not_noted l.book c.ledger.book.apart l.rows.items c.ledger.below n (all_at (λ m. m < length l.book) e.known.items c.below p n d) non)

pub on_err : {X E P Q : Type 0} (r : Result X E) → OnErr r P → (P → Q) → OnErr r Q
on_err (Ok x) p f = tt
on_err (Err e) p f = f p

pub any_ok : {X E P : Type 0} (r : Result X E) → P → OnOk r P
any_ok (Ok x) p = p
any_ok (Err e) p = tt

pub any_full : {E P : Type 0} (r : Result Picked E) → P → IfOk r (λ a. a ≡ Full → P)
any_full (Ok x) p = λ e. p
any_full (Err e) p = tt

pub any_err : {X E P : Type 0} (r : Result X E) → P → OnErr r P
any_err (Ok x) p = tt
any_err (Err e) p = p

pub same_item : {X : Type 0} (xs : List X) (i : ℕ) (y x : X) → y ≡ get_or xs i y → slice_get xs i ≡ Some x → y ≡ x
same_item [] i y x e d = absurd (cc d)
same_item (z ∷ zs) zero y x e d = let f : z ≡ x = cc in e ∙ f
same_item (z ∷ zs) (suc i) y x e d = same_item zs i y x e d

-- what stays where reads of one key were passed
pub core_passed : (l : Ledger) (e e' : Entries) → IsCore l e → IsTable e' → e'.known.items ≡ e.known.items → e'.statuses.items.items ≡ e.statuses.items.items → ArePassed l e' → IsCore l e'
core_passed l e e' c t a b p = record {
  ledger = c.ledger;
  table = t;
  below = subst (λ (ns : List ℕ). Each (λ n. n < length l.book) ns) (sym a) c.below;
  resolved = λ p r d. (let (x, f, g) = c.resolved p r (ap (λ (xs : List Status). slice_get xs p) (sym b) ∙ d) in (x, f, ap (λ (ns : List ℕ). slice_get ns p) a ∙ g));
  passed = p;
}

-- the reads that a pick by a note passes
pub pick_passes : (l : Ledger) (e e' : Entries) → IsCore l e → IsTable e' → (p row : ℕ) (x : Row Outcome Range) → slice_get l.rows.items row ≡ Some x → slice_get e.known.items p ≡ Some x.by → (reads : List ℕ) → reads ≡ x.reads.items → (from count : ℕ) → from ≡ slice_index e.passed.items p →
    ((i j : ℕ) → from ≤ i → i < count → slice_get reads i ≡ Some j → IsResolved e j) → e'.known.items ≡ e.known.items → e'.statuses.items.items ≡ e.statuses.items.items → e'.passed.items ≡ set e.passed.items p count →
    IsCore l e' × ((i j : ℕ) → i < count → slice_get reads i ≡ Some j → IsResolved e j)
pick_passes l e e' c t p row x there by reads is from count at passed a b s = (core_passed l e e' c t a b (passed_more l e e' p count c.table.passed a b s c.passed noted claims), all)
  where
    all : (i j : ℕ) → i < count → slice_get reads i ≡ Some j → IsResolved e j
    all i j h d = elim (below_or i from) [
      | inl w ↦ c.passed.reads p row i j x by there (subst (λ m. i < m) at w) (ap (λ (ns : List ℕ). slice_get ns i) (sym is) ∙ d)
      | inr o ↦ passed i j o h d
    ]

    number : slice_get (numbers_of l.rows.items) row ≡ Some x.by
    number = get_map (λ (y : Row Outcome Range). y.by) l.rows.items row x there

    noted : (m : ℕ) → slice_get e.known.items p ≡ Some m → Member m (numbers_of l.rows.items)
    noted m d =
        let s : Some x.by ≡ Some m = sym by ∙ d in
        let i : x.by ≡ m = cc in
        subst (λ n. Member n (numbers_of l.rows.items)) i (member_at (numbers_of l.rows.items) row x.by number)

    claims : (r i j : ℕ) (y : Row Outcome Range) → slice_get e.known.items p ≡ Some y.by → slice_get l.rows.items r ≡ Some y → i < count → slice_get y.reads.items i ≡ Some j → IsResolved e j
    claims r i j y d f h k =
        let s : Some x.by ≡ Some y.by = sym by ∙ d in
        let q : y.by ≡ x.by = cc in
        let o : r ≡ row = one_place (numbers_of l.rows.items) (index_apart (numbers_of l.rows.items) l.row_of.items c.ledger.index) r row x.by (get_map (λ (z : Row Outcome Range). z.by) l.rows.items r y f ∙ ap Some q) number in
        let u : Some y ≡ Some x = sym f ∙ ap (slice_get l.rows.items) o ∙ there in
        let v : y ≡ x = cc in
        all i j h (ap (λ (ns : List ℕ). slice_get ns i) is ∙ ap (λ (z : Row Outcome Range). slice_get z.reads.items i) (sym v) ∙ k)

pub some_member : (xs : List ℕ) (n : ℕ) (v : Option ℕ) → v ≡ slice_get xs n → IfSome v (λ x. Member x xs)
some_member xs n None d = tt
some_member xs n (Some x) d = member_at xs n x (sym d)

-- the same known keys and statuses are the same state
pub same_state : (l : Ledger) (e e' : Entries) → e'.known.items ≡ e.known.items → e'.statuses.items.items ≡ e.statuses.items.items → (table_of l e' ≡ table_of l e) × (known_keys l e' ≡ known_keys l e)
same_state l e e' a b = (table_stays l e e' a b, ap (λ (ns : List ℕ). keys_at l.book ns) a)
