-- Picks of keys without a note.
use Rattle.std.proofs.Common.{◌≡◌, ℕ, ◌<◌, List, [], ◌∷◌, ◌++◌, length, set, slice_get, slice_index, Some, refl, sym, ap, ◌∙◌, subst, IsTrue}
use Rattle.gl_calculus.specs.Computation.Lists.{Member}
use Rattle.gl_calculus.specs.Computation.Query.{Ready}
use Rattle.gl_machine.specs.Machine as Machine
use Rattle.gl_machine.specs.Machine.{at}
use Rattle.gl_calculus.specs.Grid.Limits.{max_demanded}
use Rattle.gl_calculus.specs.Grid.Grid.{Range}
use Rattle.gl_calculus.specs.Evaluation.Key as K
use Rattle.gl_calculus.specs.Evaluation.Key.{same_key}
use Rattle.gl_calculus.specs.Evaluation.Sound.{is_outcome_of}
use Rattle.gl_support.specs.declared.row.Row.{Row}
use Rattle.gl_demand.specs.View.{outcome_tree}
use Rattle.gl_demand.specs.Sound.{AreSoundKeys, IsSoundFound}
use Rattle.gl_demand.specs.declared.outcome.Outcome.{Outcome}
use Rattle.gl_core.specs.Statuses.{row_of, wake_each}
use Rattle.gl_core.specs.State.{IsSoundNote}
use Rattle.gl_core.specs.Numbers.{key_at, keys_at, named, numbers_of, Grows, AreNumbers}
use Rattle.gl_core.specs.Ledger.{written, IsLedger}
use Rattle.gl_core.specs.Table.{known_keys, table_of, IsTable, IsCore, IsNeed}
use Rattle.gl_core.specs.Answers.{picked_tree}
use Rattle.gl_core.specs.declared.answers.Picked.{Picked}
use Rattle.gl_core.specs.declared.ledger.Ledger.{Ledger}
use Rattle.gl_core.specs.declared.entries.Entries.{Entries}
use Rattle.gl_core.specs.declared.status.Status.TheVariants.{Idle, Resolved}
use Rattle.gl_core.proofs.Wakes.{get_within, get_last}
use Rattle.gl_core.proofs.Places.{member_at}
use Rattle.gl_core.proofs.Numbered.{all_at, key_is, get_key}
use Rattle.gl_core.proofs.Cores.{readable, known_at, number_there, table_added, written_added, resolved_table, resolved_core, needed_table, needed_core}
use Rattle.gl_core.proofs.Grown.{key_grown, within_grown, table_kept_grown, written_kept_grown, core_grown, core_added}

module _ (l : Ledger) (e : Entries) (c : IsCore l e) (l1 : Ledger) (h1 : IsLedger l1) (g : Grows l.book l1.book) (r1 : l1.rows.items ≡ l.rows.items) where
  -- the key at a place still has its number
  pub key_stays : (p n : ℕ) → slice_get e.known.items p ≡ Some n → (k : K.Key) → slice_get (known_keys l e) p ≡ Some k → key_at l1.book n ≡ k
  key_stays p n d k ek =
      let a : Some (key_at l.book n) ≡ Some k = sym (known_at l e (readable l e c) p n d) ∙ ek in
      let is : key_at l.book n ≡ k = cc in
      key_grown l.book l1.book g n (all_at (λ m. m < length l.book) e.known.items c.below p n d) ∙ is

  pub by_there : (p n : ℕ) → slice_get e.known.items p ≡ Some n → n < length l1.book
  by_there p n d = within_grown l.book l1.book g n (all_at (λ m. m < length l.book) e.known.items c.below p n d)

  -- a note of it is sound
  pub note_sound : (p n : ℕ) → slice_get e.known.items p ≡ Some n → (o : Outcome) (ns : List ℕ) (ls : List Range) (reads : List K.Key) → ((k : K.Key) → slice_get (known_keys l e) p ≡ Some k → IsSoundFound k (Ready (outcome_tree o))) → AreNumbers l1.book ns reads → AreSoundKeys reads → IsSoundNote (named l1.book (record { key = n; outcome = o; reads = ns; looked = ls }))
  note_sound p n d o ns ls reads s a sr =
      let k = key_at l.book n in
      let ek = known_at l e (readable l e c) p n d in
      let f = s k ek in
      let same : k ≡ key_at l1.book n = sym (key_stays p n d k ek) in
      record {
        key = h1.book.sound (key_at l1.book n) (member_at l1.book n (key_at l1.book n) (get_key l1.book n (by_there p n d)));
        outcome = f.0;
        kind = subst (λ j. IsTrue (is_outcome_of j (outcome_tree o))) same f.1;
        reads = subst AreSoundKeys (sym a.0) sr;
      }

  -- ---- a key that gets its outcome, and a note

  module _ (l2 : Ledger) (h2 : IsLedger l2) (p n : ℕ) (d : slice_get e.known.items p ≡ Some n) (x : Row Outcome Range) (is : x.by ≡ n) (b2 : l2.book ≡ l1.book) (r2 : l2.rows.items ≡ l1.rows.items ++ x ∷ []) (row : ℕ) (at_row : row ≡ length l1.rows.items)
      (e' : Entries) (t : IsTable e') (same : (q : ℕ) → slice_index e'.passed.items q ≡ slice_index e.passed.items q) (new : Member n (numbers_of l1.rows.items) → ⊥) (known : e'.known.items ≡ e.known.items) (ss : e'.statuses.items.items ≡ wake_each p (row_of e.waiting.items p) (set e.statuses.items.items p (Resolved row))) where
    core2 : IsCore l2 e
    core2 = core_added l1 l2 e (core_grown l l1 e c h1 g r1) h2 x b2 r2 (λ m. new (subst (λ i. Member i (numbers_of l1.rows.items)) is m))

    row_is : slice_get l2.rows.items row ≡ Some x
    row_is = ap (λ (rs : List (Row Outcome Range)). slice_get rs row) r2 ∙ ap (slice_get (l1.rows.items ++ x ∷ [])) at_row ∙ get_last l1.rows.items x

    pub settled_core : IsCore l2 e'
    settled_core = resolved_core l2 e e' core2 t same p row x row_is (d ∙ ap Some (sym is)) known ss

    pub settled_table : (k : K.Key) → slice_get (known_keys l e) p ≡ Some k → table_of l2 e' ≡ Machine.resolve same_key k (outcome_tree x.outcome) (table_of l e)
    settled_table k ek =
        resolved_table l2 e e' core2 t same p row x row_is (d ∙ ap Some (sym is)) known ss
        ∙ ap (λ j. Machine.resolve same_key j (outcome_tree x.outcome) (table_of l2 e)) (ap (λ (ks : List K.Key). key_at ks x.by) b2 ∙ ap (key_at l1.book) is ∙ key_stays p n d k ek)
        ∙ ap (Machine.resolve same_key k (outcome_tree x.outcome)) (table_added l1 l2 e x (core_grown l l1 e c h1 g r1) b2 r2 ∙ table_kept_grown l l1 e c h1 g r1)

    pub settled_notes : (k : K.Key) → slice_get (known_keys l e) p ≡ Some k → (reads : List K.Key) → AreNumbers l1.book x.reads.items reads → written l2 ≡ written l ++ record { key = k; outcome = outcome_tree x.outcome; reads = reads; looked = x.looked.items } ∷ []
    settled_notes k ek reads a =
        written_added l1 l2 x b2 r2 ∙ ap (λ ns. ns ++ named l1.book (record { key = x.by; outcome = x.outcome; reads = x.reads.items; looked = x.looked.items }) ∷ []) (written_kept_grown l l1 e c h1 g r1)
        ∙ ap (λ j. written l ++ record { key = j; outcome = outcome_tree x.outcome; reads = keys_at l1.book x.reads.items; looked = x.looked.items } ∷ []) (ap (key_at l1.book) is ∙ key_stays p n d k ek)
        ∙ ap (λ js. written l ++ record { key = k; outcome = outcome_tree x.outcome; reads = js; looked = x.looked.items } ∷ []) a.0

  -- ---- a key that needs another

  module _ (p on : ℕ) (j : K.Key) (is : slice_get l1.book on ≡ Some j) (e' : Entries) (t : IsTable e') (same : (q : ℕ) → slice_index e'.passed.items q ≡ slice_index e.passed.items q) where
    same_on : key_at l1.book on ≡ j
    same_on = key_is l1.book on j is

    here : (k : K.Key) → slice_get (known_keys l e) p ≡ Some k → slice_get (known_keys l1 e) p ≡ Some k
    here k ek = let (n, d, f) = number_there l e (readable l e c) p k ek in known_at l1 e (readable l1 e (core_grown l l1 e c h1 g r1)) p n d ∙ ap Some (key_stays p n d k ek)

    pub gone_core : slice_get e.statuses.items.items p ≡ Some Idle → (k : K.Key) → slice_get (known_keys l e) p ≡ Some k → (picked : Picked) → IsNeed e.known.items e.statuses.items.items p on picked e'.known.items e'.statuses.items.items → IsCore l1 e'
    gone_core idle k ek picked need = needed_core l1 e e' (core_grown l l1 e c h1 g r1) t same p on k (here k ek) (get_within l1.book on j is) idle picked e'.known.items e'.statuses.items.items need refl refl

    pub gone_on : (picked : Picked) → IsNeed e.known.items e.statuses.items.items p on picked e'.known.items e'.statuses.items.items → (k : K.Key) → slice_get (known_keys l e) p ≡ Some k →
        (table_of l1 e' ≡ Machine.need same_key max_demanded (table_of l e) k j (at same_key (table_of l e) j)) × (picked_tree picked ≡ Machine.need_answer max_demanded (table_of l e) (at same_key (table_of l e) j))
    gone_on picked need k ek =
        let (a, b) = needed_table l1 e e' (core_grown l l1 e c h1 g r1) t same p on k (here k ek) (get_within l1.book on j is) picked e'.known.items e'.statuses.items.items need refl refl in
        let st = table_kept_grown l l1 e c h1 g r1 in (
          a ∙ ap (λ i. Machine.need same_key max_demanded (table_of l1 e) k i (at same_key (table_of l1 e) i)) same_on ∙ ap (λ s. Machine.need same_key max_demanded s k j (at same_key s j)) st,
          b ∙ ap (λ i. Machine.need_answer max_demanded (table_of l1 e) (at same_key (table_of l1 e) i)) same_on ∙ ap (λ s. Machine.need_answer max_demanded s (at same_key s j)) st,
        )
