-- Some of the rows of a ledger.
use Rattle.std.proofs.Common.{◌≡◌, ℕ, zero, suc, All, ◌<◌, ◌≤◌, Bool, true, false, if◌then◌else◌, List, [], ◌∷◌, ◌++◌, length-append, length, filter, slice_index, Option, Some, None, IfSome, refl, sym, ap, ◌∙◌, subst, arith, inl, inr}
use Rattle.gl_calculus.specs.Computation.Lists.{Member, AreDistinct}
use Rattle.gl_calculus.specs.Computation.Notes.{Note}
use Rattle.gl_calculus.specs.Computation.Notes.{note_keys}
use Rattle.gl_calculus.specs.Grid.Grid.{Range}
use Rattle.gl_calculus.specs.Evaluation.Key as K
use Rattle.gl_support.specs.declared.row.Row.{Row}
use Rattle.gl_demand.specs.declared.outcome.Outcome.{Outcome}
use Rattle.gl_core.specs.State.{AreSoundNotes, IsSoundNote}
use Rattle.gl_core.specs.Numbers.{Each, keys_at, named, row_notes, numbers_of, AreBooked, IsBelow, IsIndex, IsPlace, IsRowOf}
use Rattle.gl_core.specs.Graph.{IsGraphOf}
use Rattle.gl_core.specs.Ledger.{written, IsLedger}
use Rattle.gl_core.specs.declared.ledger.Ledger.{Ledger}
use Rattle.gl_core.proofs.Numbered.{all_by, all_push, map_get, map_push, index_apart, index_within, keys_apart}
use Rattle.gl_core.proofs.Places.{place_of}
use Rattle.gl_core.proofs.Graphed.{more_rows}

module _ {X : Type 0} (p : X → Bool) where
  pub filter_member : (xs : List X) (x : X) → Member x (filter p xs) → Member x xs
  filter_member [] x m = m
  filter_member (y ∷ xs) x m = by (p y) m (filter_member xs x)
    where
      by : (b : Bool) → Member x (if b then y ∷ filter p xs else filter p xs) → (Member x (filter p xs) → Member x xs) → Member x (y ∷ xs)
      by true (inl e) f = inl e
      by true (inr m) f = inr (f m)
      by false m f = inr (f m)

  pub filter_all : (P : X → Type 0) (xs : List X) → Each P xs → Each P (filter p xs)
  filter_all P [] a = tt
  filter_all P (y ∷ xs) a = by (p y) (filter_all P xs a.1)
    where
      by : (b : Bool) → Each P (filter p xs) → Each P (if b then y ∷ filter p xs else filter p xs)
      by true f = (a.0, f)
      by false f = f

  pub filter_length : (xs : List X) → length (filter p xs) ≤ length xs
  filter_length [] = omega arith
  filter_length (y ∷ xs) = by (p y) (filter_length xs)
    where
      by : (b : Bool) → length (filter p xs) ≤ length xs → length (if b then y ∷ filter p xs else filter p xs) ≤ length (y ∷ xs)
      by true f = omega arith
      by false f = omega arith

number_member : (p : Row Outcome Range → Bool) (rs : List (Row Outcome Range)) (n : ℕ) → Member n (numbers_of (filter p rs)) → Member n (numbers_of rs)
number_member p [] n m = m
number_member p (r ∷ rs) n m = by (p r) m (number_member p rs n)
  where
    by : (b : Bool) → Member n (numbers_of (if b then r ∷ filter p rs else filter p rs)) → (Member n (numbers_of (filter p rs)) → Member n (numbers_of rs)) → Member n (numbers_of (r ∷ rs))
    by true (inl e) f = inl e
    by true (inr m) f = inr (f m)
    by false m f = inr (f m)

pub filter_apart : (p : Row Outcome Range → Bool) (rs : List (Row Outcome Range)) → AreDistinct (numbers_of rs) → AreDistinct (numbers_of (filter p rs))
filter_apart p [] d = tt
filter_apart p (r ∷ rs) d = by (p r) (filter_apart p rs d.1)
  where
    by : (b : Bool) → AreDistinct (numbers_of (filter p rs)) → AreDistinct (numbers_of (if b then r ∷ filter p rs else filter p rs))
    by true f = ((λ m. d.0 (number_member p rs r.by m)), f)
    by false f = f

note_member : (ks : List K.Key) (p : Row Outcome Range → Bool) (rs : List (Row Outcome Range)) (n : Note K.Key K.Outcome Range) → Member n (row_notes ks (filter p rs)) → Member n (row_notes ks rs)
note_member ks p [] n m = m
note_member ks p (r ∷ rs) n m = by (p r) m (note_member ks p rs n)
  where
    by : (b : Bool) → Member n (row_notes ks (if b then r ∷ filter p rs else filter p rs)) → (Member n (row_notes ks (filter p rs)) → Member n (row_notes ks rs)) → Member n (row_notes ks (r ∷ rs))
    by true (inl e) f = inl e
    by true (inr m) f = inr (f m)
    by false m f = inr (f m)

-- ---- what is needed of rows

pub each_all : {X : Type 0} (P : X → Type 0) (xs : List X) → Each P xs → All P xs
each_all P [] a k d h = absurd (omega (arith, h))
each_all P (x ∷ xs) a zero d h = a.0
each_all P (x ∷ xs) a (suc k) d h = each_all P xs a.1 k d (omega (arith, h))

pub numbers_below : (n : ℕ) (rs : List (Row Outcome Range)) → Each (IsBelow n) rs → Each (λ m. m < n) (numbers_of rs)
numbers_below n [] a = tt
numbers_below n (r ∷ rs) a = (a.0.0, numbers_below n rs a.1)

-- each number of a row has room for its place
pub numbers_there : (l : Ledger) → IsLedger l → Each (λ n. n < length l.row_of.items) (numbers_of l.rows.items)
numbers_there l h = all_by (λ n. n < length l.row_of.items) (numbers_of l.rows.items) (λ n m. let (p, e) = place_of (numbers_of l.rows.items) n m in index_within l.row_of.items n p (h.index.there p n e))

pub numbers_apart : (l : Ledger) → IsLedger l → AreDistinct (numbers_of l.rows.items)
numbers_apart l h = index_apart (numbers_of l.rows.items) l.row_of.items h.index

pub some_there : (p : Row Outcome Range → Bool) (rs : List (Row Outcome Range)) (P : ℕ → Type 0) → Each P (numbers_of rs) → Each P (numbers_of (filter p rs))
some_there p [] P a = tt
some_there p (r ∷ rs) P a = by (p r) (some_there p rs P a.1)
  where
    by : (b : Bool) → Each P (numbers_of (filter p rs)) → Each P (numbers_of (if b then r ∷ filter p rs else filter p rs))
    by true f = (a.0, f)
    by false f = f

-- what is left is a ledger
pub some_rows : (l l' : Ledger) (p : Row Outcome Range → Bool) → IsLedger l → l'.book ≡ l.book → l'.rows.items ≡ filter p l.rows.items → IsIndex (numbers_of l'.rows.items) l'.row_of.items → IfSome l'.graph (IsGraphOf (filter p l.rows.items)) → IsLedger l'
some_rows l l' p h b r i g =
    let few = filter_length p l.rows.items in
    let size : length l'.rows.items ≡ length (filter p l.rows.items) = ap length r in
    record {
      book = subst (λ (x : List K.Key). AreBooked x) (sym b) h.book;
      below = subst (λ (x : List K.Key). Each (IsBelow (length x)) l'.rows.items) (sym b) (subst (Each (IsBelow (length l.book))) (sym r) (filter_all p (IsBelow (length l.book)) l.rows.items h.below));
      index = i;
      sound = λ n m. h.sound n (note_member l.book p l.rows.items n (subst (λ (x : List (Row Outcome Range)). Member n (row_notes l.book x)) r (subst (λ (x : List K.Key). Member n (row_notes x l'.rows.items)) b m)));
      few = omega (arith, few, size, h.few);
      graph = subst (λ (x : List (Row Outcome Range)). IfSome l'.graph (IsGraphOf x)) (sym r) g;
    }

-- the keys of the notes of rows
pub keys_of_notes : (ks : List K.Key) (rs : List (Row Outcome Range)) → note_keys (row_notes ks rs) ≡ keys_at ks (numbers_of rs)
keys_of_notes ks [] = refl
keys_of_notes ks (r ∷ rs) = let a = keys_of_notes ks rs in rw a refl

pub notes_apart : (l : Ledger) → IsLedger l → AreDistinct (note_keys (written l))
notes_apart l h = subst AreDistinct (sym (keys_of_notes l.book l.rows.items)) (keys_apart l.book h.book.apart (numbers_of l.rows.items) (numbers_below (length l.book) l.rows.items h.below) (numbers_apart l h))

pub length-written : (l : Ledger) → length (written l) ≡ length l.rows.items
length-written l = by l.rows.items
  where
    by : (rs : List (Row Outcome Range)) → length (row_notes l.book rs) ≡ length rs
    by [] = refl
    by (r ∷ rs) = ap suc (by rs)

-- the row of a number by its place
pub row_by_place : (l : Ledger) → IsLedger l → (n : ℕ) (v : Option ℕ) → IsPlace (slice_index l.row_of.items n) v → IsRowOf l.rows.items n v
row_by_place l h n None e = λ m. (let (p, d) = place_of (numbers_of l.rows.items) n m in let a : 0 ≡ suc p = sym e ∙ h.index.there p n d in cc a)
row_by_place l h n (Some r) e = let (x, d, b) = map_get (λ (y : Row Outcome Range). y.by) l.rows.items r n (h.index.back n r e) in (x, d, b)

pub numbers_length : (rs : List (Row Outcome Range)) → length (numbers_of rs) ≡ length rs
numbers_length [] = refl
numbers_length (r ∷ rs) = ap suc (numbers_length rs)

-- the same rows with places read anew
pub same_rows : (l l' : Ledger) → IsLedger l → l'.book ≡ l.book → l'.rows.items ≡ l.rows.items → IsIndex (numbers_of l.rows.items) l'.row_of.items → IfSome l'.graph (IsGraphOf l.rows.items) → IsLedger l'
same_rows l l' h b r i g = record {
  book = subst (λ (x : List K.Key). AreBooked x) (sym b) h.book;
  below = subst (λ (x : List K.Key). Each (IsBelow (length x)) l'.rows.items) (sym b) (subst (Each (IsBelow (length l.book))) (sym r) h.below);
  index = subst (λ (x : List (Row Outcome Range)). IsIndex (numbers_of x) l'.row_of.items) (sym r) i;
  sound = subst (λ (x : List K.Key). AreSoundNotes (row_notes x l'.rows.items)) (sym b) (subst (λ (x : List (Row Outcome Range)). AreSoundNotes (row_notes l.book x)) (sym r) h.sound);
  few = (let s : length l'.rows.items ≡ length l.rows.items = ap length r in omega (arith, s, h.few));
  graph = subst (λ (x : List (Row Outcome Range)). IfSome l'.graph (IsGraphOf x)) (sym r) g;
}

-- one row more
pub one_row : (l l' : Ledger) (x : Row Outcome Range) → IsLedger l → l'.book ≡ l.book → l'.rows.items ≡ l.rows.items ++ x ∷ [] → IsIndex (numbers_of l.rows.items ++ x.by ∷ []) l'.row_of.items → IsBelow (length l.book) x →
    IsSoundNote (named l.book (record { key = x.by; outcome = x.outcome; reads = x.reads.items; looked = x.looked.items })) → length l.rows.items < 4000000000 → IfSome l'.graph (IsGraphOf l.rows.items) → IsLedger l'
one_row l l' x h b r i below s few g = record {
  book = subst (λ (y : List K.Key). AreBooked y) (sym b) h.book;
  below = subst (λ (y : List K.Key). Each (IsBelow (length y)) l'.rows.items) (sym b) (subst (Each (IsBelow (length l.book))) (sym r) (all_push (IsBelow (length l.book)) l.rows.items x h.below below));
  index = subst (λ (y : List (Row Outcome Range)). IsIndex (numbers_of y) l'.row_of.items) (sym r) (subst (λ ns. IsIndex ns l'.row_of.items) (sym (map_push (λ (y : Row Outcome Range). y.by) l.rows.items x)) i);
  sound = subst (λ (y : List K.Key). AreSoundNotes (row_notes y l'.rows.items)) (sym b) (subst (λ (y : List (Row Outcome Range)). AreSoundNotes (row_notes l.book y)) (sym r) (λ n m. last l.rows.items n m h.sound));
  few = (let n : length l'.rows.items ≡ length (l.rows.items ++ x ∷ []) = ap length r in let m = length-append l.rows.items (x ∷ []) in omega (arith, n, m, few));
  graph = subst (λ (y : List (Row Outcome Range)). IfSome l'.graph (IsGraphOf y)) (sym r) (more_rows l.rows.items (x ∷ []) l'.graph g);
}
  where
    last : (rs : List (Row Outcome Range)) (n : Note K.Key K.Outcome Range) → Member n (row_notes l.book (rs ++ x ∷ [])) → AreSoundNotes (row_notes l.book rs) → IsSoundNote n
    last [] n (inl e) t = subst IsSoundNote (sym e) s
    last [] n (inr e) t = absurd e
    last (y ∷ rs) n (inl e) t = t n (inl e)
    last (y ∷ rs) n (inr m) t = last rs n m (λ k i. t k (inr i))
