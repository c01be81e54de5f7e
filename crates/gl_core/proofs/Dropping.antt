-- What a search over numbers drops, by keys.
use Rattle.std.proofs.Common.{◌≡◌, ℕ, ◌<◌, Bool, List, [], ◌∷◌, length, inl, inr, refl, sym, ap, ◌∙◌, subst}
use Rattle.std.specs.Prelude.{◌↔◌}
use Rattle.gl_calculus.specs.Computation.Lists.{Member, AreDistinct}
use Rattle.gl_calculus.specs.Computation.Notes.{Note, note_keys}
use Rattle.gl_machine.specs.Remembered.{AreClosed, IsDropped, Touched, Reads, AreTheKept}
use Rattle.gl_calculus.specs.Grid.Grid.{Range}
use Rattle.gl_calculus.specs.Evaluation.Key as K
use Rattle.gl_support.specs.Rows.{note_of, notes_of}
use Rattle.gl_support.specs.declared.row.Row.{Row}
use Rattle.gl_demand.specs.declared.outcome.Outcome.{Outcome}
use Rattle.gl_core.specs.Numbers.{Each, key_at, keys_at, named, row_notes, numbers_of, IsBelow}
use Rattle.gl_core.specs.Dropped.{AreWithout}
use Rattle.gl_core.proofs.Numbered.{all_in, one_number, key_in}
use Rattle.gl_core.proofs.Graphed.{of_row}

pub keys_of_rows : (rs : List (Row Outcome Range)) → note_keys (notes_of rs) ≡ numbers_of rs
keys_of_rows [] = refl
keys_of_rows (r ∷ rs) = ap (λ t. r.by ∷ t) (keys_of_rows rs)

-- a row's note is among the notes by numbers, and among those by keys
row_noted : (rs : List (Row Outcome Range)) (r : Row Outcome Range) → Member r rs → Member (note_of r) (notes_of rs)
row_noted [] r m = absurd m
row_noted (x ∷ rs) r (inl e) = inl (ap (λ (y : Row Outcome Range). note_of y) e)
row_noted (x ∷ rs) r (inr m) = inr (row_noted rs r m)

pub row_named : (ks : List K.Key) (rs : List (Row Outcome Range)) (r : Row Outcome Range) → Member r rs → Member (named ks (note_of r)) (row_notes ks rs)
row_named ks [] r m = absurd m
row_named ks (x ∷ rs) r (inl e) = inl (ap (λ (y : Row Outcome Range). named ks (note_of y)) e)
row_named ks (x ∷ rs) r (inr m) = inr (row_named ks rs r m)

-- the row of a note
pub named_row : (ks : List K.Key) (rs : List (Row Outcome Range)) (n : Note K.Key K.Outcome Range) → Member n (row_notes ks rs) → (r : Row Outcome Range) × Member r rs × (n ≡ named ks (note_of r))
named_row ks [] n m = absurd m
named_row ks (r ∷ rs) n (inl e) = (r, inl refl, e)
named_row ks (r ∷ rs) n (inr m) = let (x, i, e) = named_row ks rs n m in (x, inr i, e)

-- the number of a key that was read
number_read : (ks : List K.Key) (ns : List ℕ) (k : K.Key) → Member k (keys_at ks ns) → (j : ℕ) × Member j ns × (k ≡ key_at ks j)
number_read ks [] k m = absurd m
number_read ks (n ∷ ns) k (inl e) = (n, inl refl, e)
number_read ks (n ∷ ns) k (inr m) = let (j, i, e) = number_read ks ns k m in (j, inr i, e)

-- distinct keys, and rows of some of them
module _ (ks : List K.Key) (apart : AreDistinct ks) (rs : List (Row Outcome Range)) (below : Each (IsBelow (length ks)) rs) where
  -- a row's number, and those that it read, are numbers of keys
  inside : (r : Row Outcome Range) → Member r rs → r.by < length ks
  inside r m = (all_in (IsBelow (length ks)) rs below r m).0

  read_inside : (r : Row Outcome Range) → Member r rs → (j : ℕ) → Member j r.reads.items → j < length ks
  read_inside r m j i = all_in (λ j. j < length ks) r.reads.items (all_in (IsBelow (length ks)) rs below r m).1 j i

  -- notes that are closed by keys are so by numbers
  pub closed_numbers : AreClosed (row_notes ks rs) → AreClosed (notes_of rs)
  closed_numbers c n m j i =
      let (r, a, e) = of_row rs n m in
      let read : Member j r.reads.items = subst (λ (x : Note ℕ Outcome Range). Member j x.reads) e i in
      let (x, b, f) = c (named ks (note_of r)) (row_named ks rs r a) (key_at ks j) (key_in ks j r.reads.items read) in
      let (y, d, g) = named_row ks rs x b in
      let same : key_at ks y.by ≡ key_at ks j = sym (ap (λ (z : Note K.Key K.Outcome Range). z.key) g) ∙ f in
      (note_of y, row_noted rs y d, one_number ks apart y.by j (inside y d) (read_inside r a j read) same)

  module _ (touched : Range → Bool) where
    -- what is dropped by numbers is so by keys
    dropped_key : (n : ℕ) → IsDropped touched (notes_of rs) n → IsDropped touched (row_notes ks rs) (key_at ks n)
    dropped_key n (Touched m a i e l t) =
        let (r, j, f) = of_row rs m i in
        Touched (named ks (note_of r)) a (row_named ks rs r j) (ap (key_at ks) (e ∙ ap (λ (x : Note ℕ Outcome Range). x.key) f)) (subst (λ (x : Note ℕ Outcome Range). Member a x.looked) f l) t
    dropped_key n (Reads m b i e l d) =
        let (r, j, f) = of_row rs m i in
        Reads (named ks (note_of r)) (key_at ks b) (row_named ks rs r j) (ap (key_at ks) (e ∙ ap (λ (x : Note ℕ Outcome Range). x.key) f)) (key_in ks b r.reads.items (subst (λ (x : Note ℕ Outcome Range). Member b x.reads) f l)) (dropped_key b d)

    -- and the other way round
    dropped_number : (k : K.Key) → IsDropped touched (row_notes ks rs) k → (n : ℕ) → n < length ks → k ≡ key_at ks n → IsDropped touched (notes_of rs) n
    dropped_number k (Touched m a i e l t) n h q =
        let (r, j, f) = named_row ks rs m i in
        let same : key_at ks n ≡ key_at ks r.by = sym q ∙ e ∙ ap (λ (x : Note K.Key K.Outcome Range). x.key) f in
        Touched (note_of r) a (row_noted rs r j) (one_number ks apart n r.by h (inside r j) same) (subst (λ (x : Note K.Key K.Outcome Range). Member a x.looked) f l) t
    dropped_number k (Reads m b i e l d) n h q =
        let (r, j, f) = named_row ks rs m i in
        let same : key_at ks n ≡ key_at ks r.by = sym q ∙ e ∙ ap (λ (x : Note K.Key K.Outcome Range). x.key) f in
        let (c, u, v) = number_read ks r.reads.items b (subst (λ (x : Note K.Key K.Outcome Range). Member b x.reads) f l) in
        Reads (note_of r) c (row_noted rs r j) (one_number ks apart n r.by h (inside r j) same) u (dropped_number b d c (read_inside r j c u) v)

    -- without the rows that a search found exactly the notes are left that are to be kept
    pub kept_by_search : (gone : List ℕ) (rs' : List (Row Outcome Range)) → ((n : Note ℕ Outcome Range) → Member n (notes_of rs) → Member n.key gone ↔ IsDropped touched (notes_of rs) n.key) → AreWithout gone rs rs' → AreTheKept touched (row_notes ks rs) (row_notes ks rs')
    kept_by_search gone rs' found without = (was, still)
      where
        was : (n : Note K.Key K.Outcome Range) → Member n (row_notes ks rs') → Member n (row_notes ks rs) × (IsDropped touched (row_notes ks rs) n.key → ⊥)
        was n m =
            let (r, i, e) = named_row ks rs' n m in
            let (j, non) = without.0 r i in (
              subst (λ (x : Note K.Key K.Outcome Range). Member x (row_notes ks rs)) (sym e) (row_named ks rs r j),
              λ d. non ((found (note_of r) (row_noted rs r j)).1 (dropped_number n.key d r.by (inside r j) (ap (λ (x : Note K.Key K.Outcome Range). x.key) e))),
            )

        still : (n : Note K.Key K.Outcome Range) → Member n (row_notes ks rs) → (IsDropped touched (row_notes ks rs) n.key → ⊥) → Member n (row_notes ks rs')
        still n m non =
            let (r, i, e) = named_row ks rs n m in
            let left = without.1 r i (λ g. non (subst (λ (x : Note K.Key K.Outcome Range). IsDropped touched (row_notes ks rs) x.key) (sym e) (dropped_key r.by ((found (note_of r) (row_noted rs r i)).0 g)))) in
            subst (λ (x : Note K.Key K.Outcome Range). Member x (row_notes ks rs')) (sym e) (row_named ks rs' r left)
