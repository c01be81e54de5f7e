-- A list of numbers that is its own queue: what comes to it, and what it has at the end.
use Rattle.std.proofs.Common.{◌≡◌, ◌⊎◌, ℕ, zero, suc, ◌+◌, ◌<◌, ◌≤◌, Bool, true, false, ◌||◌, nat_eq, List, [], ◌∷◌, ◌++◌, length, take, set, slice_get, Some, refl, sym, ap, ◌∙◌, subst, inl, inr, arith, append-nil, append_assoc}
use Rattle.std.proofs.lemmas.List.{take-append-le}
use Rattle.gl_calculus.specs.Computation.Lists.{Member, AreDistinct}
use Rattle.gl_calculus.specs.Computation.Notes.{Note, IsReached, Here, Through}
use Rattle.gl_machine.specs.Remembered.{AreClosed}
use Rattle.laws_calculus.proofs.Query.Quiet.{distinct_within}
use Rattle.laws_calculus.proofs.Query.Steps.{distinct_push}
use Rattle.gl_calculus.specs.Grid.Grid.{Range}
use Rattle.gl_calculus.specs.Evaluation.Key as K
use Rattle.gl_support.specs.Reach.{is_marked}
use Rattle.gl_support.specs.Rows.{note_of, notes_of}
use Rattle.gl_support.specs.declared.row.Row.{Row}
use Rattle.gl_support.proofs.Places.{marked_set}
use Rattle.gl_demand.specs.declared.outcome.Outcome.{Outcome}
use Rattle.gl_core.specs.Numbers.{Each, key_at, keys_at, named, row_notes, numbers_of, IsBelow}
use Rattle.gl_core.specs.Resuming.{IsClosure, IsQueue, Gets, GetsReads}
use Rattle.gl_core.specs.declared.ledger.Ledger.{Ledger}
use Rattle.gl_core.proofs.Places.{member_at, place_of, one_place}
use Rattle.gl_core.proofs.Numbered.{all_in, all_push, get_map, key_in, one_number}
use Rattle.gl_core.proofs.Indexing.{take_next, take_whole}
use Rattle.gl_core.proofs.Graphed.{of_row}
use Rattle.gl_core.proofs.Marks.{has_push, has_there, in_both, in_first, in_second, note_number}

-- ---- what comes to the queue

pub queue_push : (count : ℕ) (marks : List Bool) (all : List ℕ) (n : ℕ) → IsQueue count marks all → n < count → count ≡ length marks → is_marked marks n ≡ false → IsQueue count (set marks n true) (all ++ n ∷ [])
queue_push count marks all n q h l off = record {
  below = all_push (λ k. k < count) all n q.below h;
  apart = distinct_push all n q.apart (λ m. (let no : true ≡ false = sym (has_there all n m) ∙ sym (q.marked n) ∙ off in cc no));
  marked = λ k. marked_set marks n k (omega (arith, h, l)) ∙ ap (λ b. b || nat_eq k n) (q.marked k) ∙ sym (has_push all n k);
}

-- the numbers below n
abbrev firsts : ℕ → List ℕ
firsts zero = []
firsts (suc n) = n ∷ firsts n

firsts_length : (n : ℕ) → length (firsts n) ≡ n
firsts_length zero = refl
firsts_length (suc n) = ap suc (firsts_length n)

firsts_has : (n k : ℕ) → k < n → Member k (firsts n)
firsts_has zero k h = absurd (omega (arith, h))
firsts_has (suc n) k h = by (less k n (omega (arith, h))) (firsts_has n k)
  where
    less : (k n : ℕ) → k ≤ n → (k ≡ n) ⊎ (k < n)
    less zero zero h = inl refl
    less zero (suc n) h = inr (omega arith)
    less (suc k) zero h = absurd (omega (arith, h))
    less (suc k) (suc n) h = elim (less k n (omega (arith, h))) [
      | inl e ↦ inl (ap suc e)
      | inr l ↦ inr (omega (arith, l))
    ]

    by : (k ≡ n) ⊎ (k < n) → (k < n → Member k (firsts n)) → (k ≡ n) ⊎ Member k (firsts n)
    by (inl e) f = inl e
    by (inr l) f = inr (f l)

-- so the queue ends
pub queue_fits : (count : ℕ) (marks : List Bool) (all : List ℕ) → IsQueue count marks all → length all ≤ count
queue_fits count marks all q =
    let n = distinct_within all (firsts count) q.apart (λ k m. firsts_has count k (all_in (λ j. j < count) all q.below k m)) in
    let l = firsts_length count in
    omega (arith, n, l)

pub gets_none : (xs : List ℕ) → Gets [] xs xs
gets_none xs = record { more = []; first = sym (append-nil xs); from = λ k m. absurd m; all = λ k m. absurd m }

pub gets_new : (xs : List ℕ) (n : ℕ) → Gets (n ∷ []) xs (xs ++ n ∷ [])
gets_new xs n = record { more = n ∷ []; first = refl; from = λ k m. m; all = λ k m. in_second xs (n ∷ []) k m }

pub gets_known : (xs : List ℕ) (n : ℕ) → Member n xs → Gets (n ∷ []) xs xs
gets_known xs n i = record { more = []; first = sym (append-nil xs); from = λ k m. absurd m; all = λ k m. one k m }
  where
    one : (k : ℕ) → (k ≡ n) ⊎ ⊥ → Member k xs
    one k (inl e) = subst (λ (j : ℕ). Member j xs) (sym e) i
    one k (inr m) = absurd m

pub gets_more : (ns : List ℕ) (n : ℕ) (xs ys zs : List ℕ) → Gets ns xs ys → Gets (n ∷ []) ys zs → Gets (ns ++ n ∷ []) xs zs
gets_more ns n xs ys zs g h = record {
  more = g.more ++ h.more;
  first = h.first ∙ ap (λ (t : List ℕ). t ++ h.more) g.first ∙ append_assoc xs g.more h.more;
  from = λ k m. in_both g.more h.more k m (λ i. in_first ns (n ∷ []) k (g.from k i)) (λ i. in_second ns (n ∷ []) k (h.from k i));
  all = λ k m. in_both ns (n ∷ []) k m (λ i. subst (λ (t : List ℕ). Member k t) (sym h.first) (in_first ys h.more k (g.all k i))) (λ i. h.all k i);
}

-- ---- what a note read

same_row : (rs : List (Row Outcome Range)) → AreDistinct (numbers_of rs) → (x y : Row Outcome Range) → Member x rs → Member y rs → x.by ≡ y.by → x ≡ y
same_row rs d x y i j e =
    let (p, a) = place_of rs x i in
    let (q, b) = place_of rs y j in
    let one = one_place (numbers_of rs) d p q y.by (get_map (λ (r : Row Outcome Range). r.by) rs p x a ∙ ap Some e) (get_map (λ (r : Row Outcome Range). r.by) rs q y b) in
    let same : Some x ≡ Some y = sym a ∙ ap (slice_get rs) one ∙ b in
    cc same

pub row_note : (rs : List (Row Outcome Range)) (x : Row Outcome Range) → Member x rs → Member (note_of x) (notes_of rs)
row_note [] x m = absurd m
row_note (r ∷ rs) x (inl e) = inl (ap (λ (y : Row Outcome Range). note_of y) e)
row_note (r ∷ rs) x (inr m) = inr (row_note rs x m)

pub gets_reads : (rs : List (Row Outcome Range)) → AreDistinct (numbers_of rs) → (r n : ℕ) (x : Row Outcome Range) → slice_get rs r ≡ Some x → x.by ≡ n → (old new : List ℕ) → Gets x.reads.items old new → GetsReads (notes_of rs) n old new
gets_reads rs d r n x e b old new g = record {
  more = g.more;
  first = g.first;
  from = λ k m. (note_of x, row_note rs x (member_at rs r x e), b, g.from k m);
  all = λ y i f k m.
      let (z, j, a) = of_row rs y i in
      let number : z.by ≡ x.by = sym (ap (λ (u : Note ℕ Outcome Range). u.key) a) ∙ f ∙ sym b in
      let row = same_row rs d z x j (member_at rs r x e) number in
      g.all k (subst (λ (u : Row Outcome Range). Member k u.reads.items) row (subst (λ (u : Note ℕ Outcome Range). Member k u.reads) a m));
}

pub gets_no_reads : (rs : List (Row Outcome Range)) (n : ℕ) → (Member n (numbers_of rs) → ⊥) → (xs : List ℕ) → GetsReads (notes_of rs) n xs xs
gets_no_reads rs n non xs = record {
  more = [];
  first = sym (append-nil xs);
  from = λ k m. absurd m;
  all = λ y i f k m. absurd (non (subst (λ (j : ℕ). Member j (numbers_of rs)) f (note_number rs y i)));
}

-- ---- the queue so far

-- the list begins with the seeds, which reach all of it, and what the numbers before a place read is in it
pub record IsQueued (l : Ledger) (seeds all : List ℕ) (i : ℕ) : Type 0 where
  pub rest : List ℕ
  pub first : all ≡ seeds ++ rest
  pub reached : (k : ℕ) → Member k all → (s : ℕ) × Member s seeds × IsReached (notes_of l.rows.items) s k
  pub closed : (n : Note ℕ Outcome Range) → Member n (notes_of l.rows.items) → Member n.key (take i all) → (j : ℕ) → Member j n.reads → Member j all

pub queue_begun : (l : Ledger) (seeds : List ℕ) → IsQueued l seeds seeds 0
queue_begun l seeds = record {
  rest = [];
  first = sym (append-nil seeds);
  reached = λ k m. (k, m, Here);
  closed = λ n i m j r. absurd m;
}

-- what a reached number read is reached
reached_on : (notes : List (Note ℕ Outcome Range)) (n : Note ℕ Outcome Range) (s k j : ℕ) → Member n notes → Member j n.reads → k ≡ n.key → IsReached notes s k → IsReached notes s j
reached_on notes n s _ j m i e Here = Through n j m e i Here
reached_on notes n s k j m i e (Through l h p q r t) = Through l h p q r (reached_on notes n h k j m i e t)

pub queue_next : (l : Ledger) (seeds all all' : List ℕ) (i n : ℕ) → i < length all → slice_get all i ≡ Some n → IsQueued l seeds all i → GetsReads (notes_of l.rows.items) n all all' → IsQueued l seeds all' (i + 1)
queue_next l seeds all all' i n h e q g = record {
  rest = q.rest ++ g.more;
  first = g.first ∙ ap (λ (t : List ℕ). t ++ g.more) q.first ∙ append_assoc seeds q.rest g.more;
  reached = λ k m. in_both all g.more k (subst (λ (t : List ℕ). Member k t) g.first m) (q.reached k) (λ j.
      let (x, a, b, r) = g.from k j in
      let (s, c, t) = q.reached n (member_at all i n e) in
      (s, c, reached_on (notes_of l.rows.items) x s n k a r (sym b) t));
  closed = λ x a m j r. in_both (take i all) (n ∷ []) x.key (subst (λ (t : List ℕ). Member x.key t) front m)
      (λ b. subst (λ (t : List ℕ). Member j t) (sym g.first) (in_first all g.more j (q.closed x a b j r)))
      (λ b. g.all x a (one x.key b) j r);
}
  where
    front : take (i + 1) all' ≡ take i all ++ n ∷ []
    front = ap (take (i + 1)) g.first ∙ take-append-le (i + 1) all g.more (omega (arith, h)) ∙ take_next all i n e

    one : (k : ℕ) → (k ≡ n) ⊎ ⊥ → k ≡ n
    one k (inl f) = f
    one k (inr m) = absurd m

-- each read of a note has a row
pub read_noted : (rs : List (Row Outcome Range)) → AreClosed (notes_of rs) → (n : Note ℕ Outcome Range) → Member n (notes_of rs) → (j : ℕ) → Member j n.reads → Member j (numbers_of rs)
read_noted rs c n m j r = let (x, i, q) = c n m j r in subst (λ (k : ℕ). Member k (numbers_of rs)) q (note_number rs x i)

-- behind its end all reads are in it
pub queue_closed : (l : Ledger) (seeds all : List ℕ) (marks : List Bool) (count i : ℕ) → count ≡ length l.book → IsQueue count marks all → length all ≤ i → AreClosed (notes_of l.rows.items) → IsQueued l seeds all i → IsClosure l seeds all
queue_closed l seeds all marks count i b w h c q = record {
  rest = q.rest;
  first = q.first;
  below = subst (λ (m : ℕ). Each (λ n. n < m) all) b w.below;
  apart = w.apart;
  reached = q.reached;
  closed = λ n a m j r. q.closed n a (subst (λ (t : List ℕ). Member n.key t) (sym (take_whole all i h)) m) j r;
  noted = read_noted l.rows.items c;
}

-- ---- notes that are closed

pub named_note : (ks : List K.Key) (rs : List (Row Outcome Range)) (x : Note K.Key K.Outcome Range) → Member x (row_notes ks rs) → (n : Note ℕ Outcome Range) × Member n (notes_of rs) × (x ≡ named ks n)
named_note ks [] x m = absurd m
named_note ks (r ∷ rs) x (inl e) = (note_of r, inl refl, e)
named_note ks (r ∷ rs) x (inr m) = let (n, i, e) = named_note ks rs x m in (n, inr i, e)

pub note_named : (ks : List K.Key) (rs : List (Row Outcome Range)) (n : Note ℕ Outcome Range) → Member n (notes_of rs) → Member (named ks n) (row_notes ks rs)
note_named ks [] n m = absurd m
note_named ks (r ∷ rs) n (inl e) = inl (ap (named ks) e)
note_named ks (r ∷ rs) n (inr m) = inr (note_named ks rs n m)

pub key_of_number : (ks : List K.Key) (ns : List ℕ) (k : K.Key) → Member k (keys_at ks ns) → (n : ℕ) × Member n ns × (key_at ks n ≡ k)
key_of_number ks [] k m = absurd m
key_of_number ks (n ∷ ns) k (inl e) = (n, inl refl, sym e)
key_of_number ks (n ∷ ns) k (inr m) = let (j, i, e) = key_of_number ks ns k m in (j, inr i, e)

pub number_below : (c : ℕ) (rs : List (Row Outcome Range)) → Each (IsBelow c) rs → (n : Note ℕ Outcome Range) → Member n (notes_of rs) → n.key < c
number_below c rs a n m =
    let (r, i, e) = of_row rs n m in
    subst (λ (q : ℕ). q < c) (sym (ap (λ (u : Note ℕ Outcome Range). u.key) e)) (all_in (IsBelow c) rs a r i).0

pub read_below : (c : ℕ) (rs : List (Row Outcome Range)) → Each (IsBelow c) rs → (n : Note ℕ Outcome Range) → Member n (notes_of rs) → (j : ℕ) → Member j n.reads → j < c
read_below c rs a n m j r =
    let (x, i, e) = of_row rs n m in
    all_in (λ p. p < c) x.reads.items (all_in (IsBelow c) rs a x i).1 j (subst (λ (u : Note ℕ Outcome Range). Member j u.reads) e r)

-- rows are closed where their notes are
pub closed_rows : (ks : List K.Key) → AreDistinct ks → (rs : List (Row Outcome Range)) → Each (IsBelow (length ks)) rs → AreClosed (row_notes ks rs) → AreClosed (notes_of rs)
closed_rows ks d rs a c n m j r =
    let (x, i, e) = c (named ks n) (note_named ks rs n m) (key_at ks j) (key_in ks j n.reads r) in
    let (y, k, f) = named_note ks rs x i in
    let same : key_at ks y.key ≡ key_at ks j = sym (ap (λ (u : Note K.Key K.Outcome Range). u.key) f) ∙ e in
    (y, k, one_number ks d y.key j (number_below (length ks) rs a y k) (read_below (length ks) rs a n m j r) same)
