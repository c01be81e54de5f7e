-- Ledgers from tables of notes, and tables from ledgers.
use Rattle.std.proofs.Common.{◌≡◌, ℕ, ◌+◌, ◌<◌, true, false, List, [], ◌∷◌, ◌++◌, length, map, take, slice_get, Option, Some, Vec, Bor, sym, ap, ◌∙◌, subst}
use Rattle.std.specs.declared.alloc.Global.{Global}
use Rattle.std.specs.Prelude.{option_map}
use Rattle.gl_calculus.specs.Computation.Lists.{Member}
use Rattle.gl_calculus.specs.Computation.Notes.{Note}
use Rattle.gl_calculus.specs.Grid.Grid.{Range}
use Rattle.gl_calculus.specs.Evaluation.Key as K
use Rattle.gl_calculus.specs.Calculation.Memory.{Notes}
use Rattle.gl_demand.specs.View.{key_tree, outcome_tree}
use Rattle.gl_demand.specs.declared.key.Key.{Key}
use Rattle.gl_demand.specs.declared.outcome.Outcome.{Outcome}
use Rattle.gl_memo.specs.declared.memo.Noted.{Noted}
use Rattle.gl_core.specs.State.{note_tree, note_trees, is_noted, IsSoundNote, AreSoundNotes}
use Rattle.gl_core.specs.Numbers.{key_at, keys_at, named, numbers_of, AreNumbers, Grows}
use Rattle.gl_core.specs.Ledger.{written, IsLedger}
use Rattle.gl_core.specs.declared.ledger.Ledger.{Ledger}
use Rattle.gl_core.proofs.Wakes.{get_within}
use Rattle.gl_core.proofs.Places.{member_at}
use Rattle.gl_core.proofs.Numbered.{key_is, noted_number, map_push}
use Rattle.gl_core.proofs.Indexing.{take_next}
use Rattle.gl_core.proofs.Cores.{written_grown, written_added}
use Rattle.gl_core.proofs.Grown.{grows_twice, key_grown, within_grown}
use Rattle.gl_core.proofs.Copied.{note_tree_at}

abbrev note_with : K.Key → K.Outcome → List K.Key → List Range → Note K.Key K.Outcome Range
note_with k o reads looked = record { key = k; outcome = o; reads = reads; looked = looked }

-- ---- one more note

module _ (l l1 l2 : Ledger) (h : IsLedger l) (g1 : Grows l.book l1.book) (r1 : l1.rows.items ≡ l.rows.items) (g2 : Grows l1.book l2.book) (r2 : l2.rows.items ≡ l1.rows.items) (k : K.Key) (n : ℕ) (is : slice_get l1.book n ≡ Some k) where
  -- its number is in the book
  pub number_there : n < length l2.book
  number_there = within_grown l1.book l2.book g2 n (get_within l1.book n k is)

  key_now : key_at l2.book n ≡ k
  key_now = key_grown l1.book l2.book g2 n (get_within l1.book n k is) ∙ key_is l1.book n k is

  written_now : written l2 ≡ written l
  written_now = let g = grows_twice l.book l1.book l2.book g1 g2 in written_grown l l2 g.0 h g.1 (r2 ∙ r1)

  -- and has no row yet
  pub number_new : is_noted (written l) k ≡ false → Member n (numbers_of l2.rows.items) → ⊥
  number_new none m =
      let a : is_noted (written l2) (key_at l2.book n) ≡ true = noted_number l2.book l2.rows.items n m in
      let non : true ≡ false = sym a ∙ ap (is_noted (written l2)) key_now ∙ ap (λ (ns : Notes). is_noted ns k) written_now ∙ none in
      cc non

  module _ (o : Outcome) (reads : Vec ℕ Global) (looked : Vec Range Global) (t : K.Outcome) (js : List K.Key) (xs : List Range) (eo : outcome_tree o ≡ t) (er : AreNumbers l2.book reads.items js) (el : looked.items ≡ xs) where
    note_is : named l2.book (record { key = n; outcome = o; reads = reads.items; looked = looked.items }) ≡ note_with k t js xs
    note_is =
        ap (λ (j : K.Key). note_with j (outcome_tree o) (keys_at l2.book reads.items) looked.items) key_now
        ∙ ap (λ (u : K.Outcome). note_with k u (keys_at l2.book reads.items) looked.items) eo
        ∙ ap (λ (is : List K.Key). note_with k t is looked.items) er.0
        ∙ ap (λ (ys : List Range). note_with k t js ys) el

    pub note_sound : IsSoundNote (note_with k t js xs) → IsSoundNote (named l2.book (record { key = n; outcome = o; reads = reads.items; looked = looked.items }))
    note_sound s = subst IsSoundNote (sym note_is) s

    pub note_added : (l3 : Ledger) → l3.book ≡ l2.book → l3.rows.items ≡ l2.rows.items ++ record { by = n; outcome = o; reads = reads; looked = looked } ∷ [] → written l3 ≡ written l ++ note_with k t js xs ∷ []
    note_added l3 b r =
        written_added l2 l3 (record { by = n; outcome = o; reads = reads; looked = looked }) b r
        ∙ ap (λ (ns : Notes). ns ++ named l2.book (record { key = n; outcome = o; reads = reads.items; looked = looked.items }) ∷ []) written_now
        ∙ ap (λ (x : Note K.Key K.Outcome Range). written l ++ x ∷ []) note_is

-- what is read at a place
pub pair_at : (v : Option (Bor Key × Bor (Noted Key Outcome Range))) (es : List (Key × Noted Key Outcome Range)) (i : ℕ) (p : Bor Key × Bor (Noted Key Outcome Range)) → option_map (λ (q : Bor Key × Bor (Noted Key Outcome Range)). (q.0.now, q.1.now)) v ≡ slice_get es i → v ≡ Some p → slice_get es i ≡ Some (p.0.now, p.1.now)
pair_at v es i p e f = sym e ∙ ap (option_map (λ (q : Bor Key × Bor (Noted Key Outcome Range)). (q.0.now, q.1.now))) f

-- the note at a place is sound where all are
pub sound_at : (es : List (Key × Noted Key Outcome Range)) (i : ℕ) (e : Key × Noted Key Outcome Range) → AreSoundNotes (note_trees es) → slice_get es i ≡ Some e → IsSoundNote (note_tree e)
sound_at es i e s d = s (note_tree e) (member_at (note_trees es) i (note_tree e) (note_tree_at es i e d))

-- ---- the note of a row

-- one more of the keys
pub keys_next : (ks : List K.Key) (ns : List ℕ) (i n : ℕ) (k : K.Key) → slice_get ns i ≡ Some n → slice_get ks n ≡ Some k → keys_at ks (take (i + 1) ns) ≡ keys_at ks (take i ns) ++ k ∷ []
keys_next ks ns i n k e f = ap (keys_at ks) (take_next ns i n e) ∙ map_push (key_at ks) (take i ns) n ∙ ap (λ (j : K.Key). keys_at ks (take i ns) ++ j ∷ []) (key_is ks n k f)

pub row_note : (ks : List K.Key) (by : ℕ) (x : Outcome) (reads : List ℕ) (looked : List Range) (k : Key) (o : Outcome) (rs : Vec Key Global) (ls : Vec Range Global) → key_tree k ≡ key_at ks by → outcome_tree o ≡ outcome_tree x → map key_tree rs.items ≡ keys_at ks reads → ls.items ≡ looked →
    note_tree (k, record { outcome = o; reads = rs; looked = ls }) ≡ named ks (record { key = by; outcome = x; reads = reads; looked = looked })
row_note ks by x reads looked k o rs ls ek eo er el =
    ap (λ (j : K.Key). note_with j (outcome_tree o) (map key_tree rs.items) ls.items) ek
    ∙ ap (λ (u : K.Outcome). note_with (key_at ks by) u (map key_tree rs.items) ls.items) eo
    ∙ ap (λ (is : List K.Key). note_with (key_at ks by) (outcome_tree x) is ls.items) er
    ∙ ap (λ (ys : List Range). note_with (key_at ks by) (outcome_tree x) (keys_at ks reads) ys) el
