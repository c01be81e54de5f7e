-- Ledgers that lose rows.
use Rattle.std.proofs.Common.{◌≡◌, ℕ, ◌+◌, ◌<◌, ◌≤◌, List, [], ◌∷◌, ◌++◌, length, set, slice_get, slice_index, Some, IfSome, option_map, Option, refl, sym, ap, ◌∙◌, subst, arith, inl, inr}
use Rattle.gl_calculus.specs.Computation.Lists.{Member}
use Rattle.gl_calculus.specs.Computation.Notes.{Note}
use Rattle.gl_calculus.specs.Evaluation.Key as K
use Rattle.gl_calculus.specs.Grid.Grid.{Range}
use Rattle.gl_support.specs.Rows.{note_of}
use Rattle.gl_support.specs.declared.row.Row.{Row}
use Rattle.gl_demand.specs.declared.outcome.Outcome.{Outcome}
use Rattle.gl_core.specs.Graph.{HasAll, IsGraphOf, fewer}
use Rattle.gl_core.specs.Numbers.{Each, named, row_notes, numbers_of, AreBooked, IsBelow, IsIndex, IsRowOf}
use Rattle.gl_core.specs.State.{IsSoundNote}
use Rattle.gl_core.specs.Ledger.{IsLedger}
use Rattle.gl_core.specs.Dropped.{DropsRows, IsSearched}
use Rattle.gl_core.specs.declared.graph.Graph.{Graph}
use Rattle.gl_core.specs.declared.ledger.Ledger.{Ledger}
use Rattle.gl_core.proofs.Places.{member_at}
use Rattle.gl_core.proofs.Wakes.{get_within}
use Rattle.gl_core.proofs.Numbered.{all_by, all_in, all_push, index_other}
use Rattle.gl_core.proofs.Filtered.{numbers_apart, numbers_below, numbers_there}
use Rattle.gl_core.proofs.Dropping.{named_row, row_named}
use Rattle.gl_core.proofs.Swapped.{IsSwapped, left_was, rows_without, swapped_graph, swapped_index, swapped_numbers}

number_of : (rs : List (Row Outcome Range)) (r : Row Outcome Range) → Member r rs → Member r.by (numbers_of rs)
number_of [] r m = absurd m
number_of (x ∷ rs) r (inl e) = inl (ap (λ (y : Row Outcome Range). y.by) e)
number_of (x ∷ rs) r (inr m) = inr (number_of rs r m)

-- a row's number has room for its place
pub row_there : (l : Ledger) → IsLedger l → (p : ℕ) (x : Row Outcome Range) → slice_get l.rows.items p ≡ Some x → x.by < length l.row_of.items
row_there l h p x e = all_in (λ i. i < length l.row_of.items) (numbers_of l.rows.items) (numbers_there l h) x.by (number_of l.rows.items x (member_at l.rows.items p x e))

-- a ledger of some of the rows
fewer_ledger : (l l' : Ledger) → IsLedger l → l'.book ≡ l.book → ((r : Row Outcome Range) → Member r l'.rows.items → Member r l.rows.items) → length l'.rows.items ≤ length l.rows.items → IsIndex (numbers_of l'.rows.items) l'.row_of.items → IfSome l'.graph (IsGraphOf l'.rows.items) → IsLedger l'
fewer_ledger l l' h b was few i g = record {
  book = subst (λ (x : List K.Key). AreBooked x) (sym b) h.book;
  below = subst (λ (x : List K.Key). Each (IsBelow (length x)) l'.rows.items) (sym b) (all_by (IsBelow (length l.book)) l'.rows.items (λ r m. all_in (IsBelow (length l.book)) l.rows.items h.below r (was r m)));
  index = i;
  sound = λ n m. sound n (named_row l.book l'.rows.items n (subst (λ (x : List K.Key). Member n (row_notes x l'.rows.items)) b m));
  few = (let f = h.few in omega (arith, few, f));
  graph = g;
}
  where
    sound : (n : Note K.Key K.Outcome Range) → (r : Row Outcome Range) × Member r l'.rows.items × (n ≡ named l.book (note_of r)) → IsSoundNote n
    sound n (r, m, e) = subst IsSoundNote (sym e) (h.sound (named l.book (note_of r)) (row_named l.book l.rows.items r (was r m)))

-- the row at a place went, and the last one took its place
module _ (l l' : Ledger) (s : IsSearched l) (r k : ℕ) (x m : Row Outcome Range) (h : IsSwapped l.rows.items l'.rows.items r k x m) (b : l'.book ≡ l.book) (places : l'.row_of.items ≡ set (set l.row_of.items m.by (r + 1)) x.by 0) where
  row_in : Member x l.rows.items
  row_in = member_at l.rows.items r x h.gone

  last_in : Member m l.rows.items
  last_in = member_at l.rows.items k m h.last

  taken_index : IsIndex (numbers_of l'.rows.items) l'.row_of.items
  taken_index =
      let n = swapped_numbers l.rows.items l'.rows.items r k x m h in
      subst (IsIndex (numbers_of l'.rows.items)) (sym places)
      (swapped_index (numbers_of l.rows.items) (numbers_of l'.rows.items) l.row_of.items r k x.by m.by s.0.index (numbers_apart l s.0) n (row_there l s.0 r x h.gone) (row_there l s.0 k m h.last))

  pub taken_ledger : l'.graph ≡ option_map (fewer 1) l.graph → IsSearched l'
  taken_ledger g =
      let (a, c) = swapped_graph l.rows.items l'.rows.items r k x m h l.graph s.0.graph s.1 in (
        fewer_ledger l l' s.0 b (left_was l.rows.items l'.rows.items r k x m h) (omega (arith, h.size, h.short)) taken_index (subst (λ (o : Option Graph). IfSome o (IsGraphOf l'.rows.items)) (sym g) a),
        subst (λ (o : Option Graph). IfSome o (HasAll l'.rows.items)) (sym g) c,
      )

  pub taken_drops : (was noted : List ℕ) → noted ≡ (was ++ x.by ∷ []) ++ m.by ∷ [] → DropsRows l l' (x.by ∷ []) was noted
  taken_drops was noted e = record {
    rows = rows_without l.rows.items l'.rows.items r k x m h (numbers_apart l s.0);
    book = b;
    same = λ n non. ap (λ (ps : List ℕ). slice_index ps n) places
        ∙ index_other (set l.row_of.items m.by (r + 1)) x.by n 0 (λ t. non (subst (Member n) (sym e) (front (was ++ x.by ∷ []) (m.by ∷ []) n (back was (x.by ∷ []) n (inl t)))))
        ∙ index_other l.row_of.items m.by n (r + 1) (λ t. non (subst (Member n) (sym e) (back (was ++ x.by ∷ []) (m.by ∷ []) n (inl t))));
    more = λ n i. subst (Member n) (sym e) (front (was ++ x.by ∷ []) (m.by ∷ []) n (front was (x.by ∷ []) n i));
    below = λ a. subst (λ (ns : List ℕ). Each (λ n. n < length l.book) ns) (sym e)
        (all_push (λ n. n < length l.book) (was ++ x.by ∷ []) m.by (all_push (λ n. n < length l.book) was x.by a (all_in (IsBelow (length l.book)) l.rows.items s.0.below x row_in).0) (all_in (IsBelow (length l.book)) l.rows.items s.0.below m last_in).0);
  }
    where
      front : (xs ys : List ℕ) (n : ℕ) → Member n xs → Member n (xs ++ ys)
      front [] ys n i = absurd i
      front (y ∷ xs) ys n (inl t) = inl t
      front (y ∷ xs) ys n (inr i) = inr (front xs ys n i)

      back : (xs ys : List ℕ) (n : ℕ) → Member n ys → Member n (xs ++ ys)
      back [] ys n i = i
      back (y ∷ xs) ys n i = inr (back xs ys n i)

-- numbers without rows
pub drops_none : (l : Ledger) (ns was : List ℕ) → ((r : Row Outcome Range) → Member r l.rows.items → Member r.by ns → ⊥) → DropsRows l l ns was was
drops_none l ns was none = record {
  rows = (λ r m. (m, none r m), λ r m non. m);
  book = refl;
  same = λ n non. refl;
  more = λ n m. m;
  below = λ a. a;
}

-- a number that has no row
pub drops_absent : (l : Ledger) (n : ℕ) (was : List ℕ) → (Member n (numbers_of l.rows.items) → ⊥) → DropsRows l l (n ∷ []) was was
drops_absent l n was non = drops_none l (n ∷ []) was none
  where
    none : (r : Row Outcome Range) → Member r l.rows.items → Member r.by (n ∷ []) → ⊥
    none r m (inl e) = non (subst (λ (q : ℕ). Member q (numbers_of l.rows.items)) e (number_of l.rows.items r m))
    none r m (inr e) = e

-- a number behind those of the keys
pub drops_past : (l : Ledger) (n : ℕ) (was : List ℕ) → IsLedger l → length l.book ≤ n → DropsRows l l (n ∷ []) was was
drops_past l n was h past = drops_absent l n was (λ m. let a = all_in (λ q. q < length l.book) (numbers_of l.rows.items) (numbers_below (length l.book) l.rows.items h.below) n m in omega (arith, a, past))

-- the row of a number
pub drops_row : (l l' : Ledger) (n r : ℕ) (x : Row Outcome Range) (was noted : List ℕ) → IsRowOf l.rows.items n (Some r) → slice_get l.rows.items r ≡ Some x → DropsRows l l' (x.by ∷ []) was noted → DropsRows l l' (n ∷ []) was noted
drops_row l l' n r x was noted (y, e, b) f d =
    let g : Some y ≡ Some x = sym e ∙ f in
    let s : y ≡ x = cc in
    subst (λ (q : ℕ). DropsRows l l' (q ∷ []) was noted) (sym (ap (λ (z : Row Outcome Range). z.by) s) ∙ b) d

pub row_inside : (l : Ledger) (n r : ℕ) → IsRowOf l.rows.items n (Some r) → r < length l.rows.items
row_inside l n r (y, e, b) = get_within l.rows.items r y e

-- one number more
pub drops_next : (a b c : Ledger) (ns : List ℕ) (n : ℕ) (was mid noted : List ℕ) → DropsRows a b ns was mid → DropsRows b c (n ∷ []) mid noted → DropsRows a c (ns ++ n ∷ []) was noted
drops_next a b c ns n was mid noted f g = record {
  rows = (
    λ r m. (let (i, o) = g.rows.0 r m in let (j, u) = f.rows.0 r i in (j, λ t. pushed ns r.by t u o)),
    λ r m non. g.rows.1 r (f.rows.1 r m (λ t. non (front ns r.by t))) (λ t. non (last ns r.by t)),
  );
  book = g.book ∙ f.book;
  same = λ q non. g.same q non ∙ f.same q (λ t. non (g.more q t));
  more = λ q m. g.more q (f.more q m);
  below = λ e. subst (λ (ks : List K.Key). Each (λ q. q < length ks) noted) f.book (g.below (subst (λ (ks : List K.Key). Each (λ q. q < length ks) mid) (sym f.book) (f.below e)));
}
  where
    pushed : (xs : List ℕ) (q : ℕ) → Member q (xs ++ n ∷ []) → (Member q xs → ⊥) → (Member q (n ∷ []) → ⊥) → ⊥
    pushed [] q m u o = o m
    pushed (x ∷ xs) q (inl e) u o = u (inl e)
    pushed (x ∷ xs) q (inr m) u o = pushed xs q m (λ t. u (inr t)) o

    front : (xs : List ℕ) (q : ℕ) → Member q xs → Member q (xs ++ n ∷ [])
    front [] q m = absurd m
    front (x ∷ xs) q (inl e) = inl e
    front (x ∷ xs) q (inr m) = inr (front xs q m)

    last : (xs : List ℕ) (q : ℕ) → Member q (n ∷ []) → Member q (xs ++ n ∷ [])
    last [] q m = m
    last (x ∷ xs) q m = inr (last xs q m)
