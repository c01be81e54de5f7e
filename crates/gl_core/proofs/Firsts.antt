-- The first of some keys that is not resolved, and picks by notes.
use Rattle.std.proofs.Common.{◌≡◌, ℕ, zero, suc, ◌<◌, arith, List, [], ◌∷◌, length, slice_get, Option, Some, None, refl, sym, ap, ◌∙◌}
use Rattle.std.specs.Prelude.{option_map}
use Rattle.gl_calculus.specs.Computation.Lists.{Member}
use Rattle.gl_calculus.specs.Computation.Query.{Query, found, next, IsTrueTable}
use Rattle.gl_machine.specs.Reads.{first_without, end_by_note}
use Rattle.gl_calculus.specs.Computation.Notes.{Note}
use Rattle.gl_machine.specs.Remembered.{AreTrue}
use Rattle.gl_machine.specs.Machine.{table}
use Rattle.gl_calculus.specs.Grid.Grid.{Range}
use Rattle.gl_calculus.specs.Evaluation.Key as K
use Rattle.gl_calculus.specs.Evaluation.Key.{same_key}
use Rattle.gl_support.specs.declared.row.Row.{Row}
use Rattle.gl_demand.specs.View.{outcome_tree}
use Rattle.gl_demand.specs.declared.outcome.Outcome.{Outcome}
use Rattle.gl_core.specs.Numbers.{Each, key_at, keys_at, named, row_notes, IsBelow}
use Rattle.gl_core.specs.Ledger.{written}
use Rattle.gl_core.specs.Table.{table_of, IsCore, IsResolved, IsResolvedBy}
use Rattle.gl_core.specs.declared.ledger.Ledger.{Ledger}
use Rattle.gl_core.specs.declared.entries.Entries.{Entries}
use Rattle.gl_core.specs.declared.status.Status.TheVariants.{Resolved}
use Rattle.gl_core.proofs.Places.{member_at}
use Rattle.gl_core.proofs.Numbered.{all_at, row_note_at}
use Rattle.gl_core.proofs.Notes.{noted_found}
use Rattle.gl_core.proofs.Cores.{readable, outcome_there}

-- the first read that is not resolved
pub first_at : (l : Ledger) (e : Entries) → IsCore l e → (reads : List ℕ) → Each (λ n. n < length l.book) reads → (n : ℕ) → ((i j : ℕ) → i < n → slice_get reads i ≡ Some j → IsResolved e j) → ((j : ℕ) → slice_get reads n ≡ Some j → IsResolvedBy e j None) →
    option_map (key_at l.book) (slice_get reads n) ≡ first_without (table same_key (table_of l e)) (keys_at l.book reads)
first_at l e c [] a n h k = refl
first_at l e c (x ∷ xs) a zero h k = sym (ap (λ v. next (Some (key_at l.book x)) v (λ o. first_without (table same_key (table_of l e)) (keys_at l.book xs))) (outcome_there l e (readable l e c) x None a.0 (k x refl)))
first_at l e c (x ∷ xs) a (suc n) h k =
    let (p, r, d, f) = h 0 x (omega arith) refl in
    first_at l e c xs a.1 n (λ i j g m. h (suc i) j (omega (arith, g)) m) k
    ∙ sym (ap (λ v. next (Some (key_at l.book x)) v (λ o. first_without (table same_key (table_of l e)) (keys_at l.book xs))) (outcome_there l e (readable l e c) x (Some r) a.0 (Some (Resolved r), (p, d, f), refl)))

-- ---- a pick by a note

module _ (l : Ledger) (e : Entries) (c : IsCore l e) (row : ℕ) (x : Row Outcome Range) (there : slice_get l.rows.items row ≡ Some x) where
  pub the_note : Note K.Key K.Outcome Range
  the_note = named l.book (record { key = x.by; outcome = x.outcome; reads = x.reads.items; looked = x.looked.items })

  pub note_member : Member (named l.book (record { key = x.by; outcome = x.outcome; reads = x.reads.items; looked = x.looked.items })) (written l)
  note_member = member_at (row_notes l.book l.rows.items) row (named l.book (record { key = x.by; outcome = x.outcome; reads = x.reads.items; looked = x.looked.items })) (row_note_at l.book l.rows.items row x there)

  pub row_below : IsBelow (length l.book) x
  row_below = all_at (IsBelow (length l.book)) l.rows.items c.ledger.below row x there

  pub found_by_row : (program : K.Key → Query K.Key K.Outcome Range K.Outcome) → AreTrue same_key program (written l) → IsTrueTable program (table same_key (table_of l e)) →
      (v : Option K.Key) → v ≡ first_without (table same_key (table_of l e)) (keys_at l.book x.reads.items) → found (table same_key (table_of l e)) (program (key_at l.book x.by)) ≡ end_by_note (outcome_tree x.outcome) v
  found_by_row program t s v d = noted_found (written l) (named l.book (record { key = x.by; outcome = x.outcome; reads = x.reads.items; looked = x.looked.items })) note_member program (table same_key (table_of l e)) t s ∙ ap (end_by_note (outcome_tree x.outcome)) (sym d)
