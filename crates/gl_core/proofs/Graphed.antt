-- Rows of a graph, and what a search of it drops.
use Rattle.std.proofs.Common.{◌≡◌, ℕ, zero, suc, ◌+◌, ◌-◌, ◌<◌, ◌≤◌, nat_eq, Bool, true, false, cond, if◌then◌else◌, List, [], ◌∷◌, ◌++◌, length, take, filter, option_map, Option, Some, None, IfSome, ◌⊎◌, slice_get, refl, sym, ap, ◌∙◌, subst, arith, inl, inr, length-append, eqb-true, eq-eqb}
use Rattle.std.proofs.lemmas.List.{take-append-le}
use Rattle.std.specs.Prelude.{◌↔◌}
use Rattle.gl_calculus.specs.Computation.Lists.{Member, AreDistinct}
use Rattle.gl_calculus.specs.Computation.Notes.{Note}
use Rattle.gl_calculus.specs.Grid.Grid.{Range}
use Rattle.gl_machine.specs.Remembered.{AreClosed, IsDropped}
use Rattle.laws_calculus.proofs.Query.AmongMore.{dropped_among_more}
use Rattle.gl_support.specs.Rests.{items_at, rest_of, rest_notes, IsSound}
use Rattle.gl_support.specs.Rows.{note_of, notes_of}
use Rattle.gl_support.specs.declared.rests.Rests.{Rests}
use Rattle.gl_support.specs.declared.row.Row.{Row}
use Rattle.gl_support.proofs.Resting.{note, note_in, note_is}
use Rattle.gl_demand.specs.declared.outcome.Outcome.{Outcome}
use Rattle.gl_core.specs.Graph.{HaveRows, IsGraphOf, fewer}
use Rattle.gl_core.specs.Numbers.{Each, numbers_of, IsBelow}
use Rattle.gl_core.specs.declared.graph.Graph.{Graph}
use Rattle.gl_core.proofs.Numbered.{get_map}
use Rattle.gl_core.proofs.Indexing.{take_next, take_whole, before}

-- ---- rows that come and go

-- rows behind the others change nothing
pub more_rows : (rs more : List (Row Outcome Range)) (g : Option Graph) → IfSome g (IsGraphOf rs) → IfSome g (IsGraphOf (rs ++ more))
more_rows rs more None h = tt
more_rows rs more (Some g) h = record {
  sound = h.sound;
  few = (let l = length-append rs more in omega (arith, l, h.few));
  rows = subst (HaveRows g.rests) (sym (take-append-le g.rows rs more h.few)) h.rows;
}

module _ {X : Type 0} (p : X → Bool) where
  fewer_items : (xs : List X) → length (filter p xs) ≤ length xs
  fewer_items [] = omega arith
  fewer_items (y ∷ xs) = by (p y) (fewer_items xs)
    where
      by : (b : Bool) → length (filter p xs) ≤ length xs → length (if b then y ∷ filter p xs else filter p xs) ≤ length (y ∷ xs)
      by true f = omega arith
      by false f = omega arith

  -- of some items the first ones, fewer by as many as are gone, were among the first ones
  take_filter : (xs : List X) (k t : ℕ) (x : X) → k + length xs ≤ t + length (filter p xs) → Member x (take k (filter p xs)) → Member x (take t xs)
  take_filter xs zero t x h m = absurd m
  take_filter [] (suc k) t x h m = absurd m
  take_filter (y ∷ xs) (suc k) zero x h m = let f = fewer_items (y ∷ xs) in absurd (omega (arith, f, h))
  take_filter (y ∷ xs) (suc k) (suc t) x h m = by (p y) h m (λ k t. take_filter xs k t x)
    where
      by : (b : Bool) → suc k + length (y ∷ xs) ≤ suc t + length (if b then y ∷ filter p xs else filter p xs) → Member x (take (suc k) (if b then y ∷ filter p xs else filter p xs)) →
          ((k t : ℕ) → k + length xs ≤ t + length (filter p xs) → Member x (take k (filter p xs)) → Member x (take t xs)) → Member x (y ∷ take t xs)
      by true h (inl e) f = inl e
      by true h (inr m) f = inr (f k t (omega (arith, h)) m)
      by false h m f = inr (f (suc k) t (omega (arith, h)) m)

pub fewer_rows : (p : Row Outcome Range → Bool) (rs : List (Row Outcome Range)) (g : Option Graph) (n : ℕ) → length rs ≡ length (filter p rs) + n → IfSome g (IsGraphOf rs) → IfSome (option_map (fewer n) g) (IsGraphOf (filter p rs))
fewer_rows p rs None n e h = tt
fewer_rows p rs (Some g) n e h = record {
  sound = h.sound;
  few = (let w = h.few in omega (arith, w, e));
  rows = λ r m. h.rows r (by (g.rows - n) refl r m);
}
  where
    by : (k : ℕ) → g.rows - n ≡ k → (r : Row Outcome Range) → Member r (take k (filter p rs)) → Member r (take g.rows rs)
    by zero q r m = absurd m
    by (suc k) q r m = take_filter p rs (suc k) g.rows r (omega (arith, e, q)) m

-- ---- rests

rest_in : (s : Rests) → IsSound s → (k : ℕ) → k < length s.reads.items → Member (note k (items_at s.reads.items k) (items_at s.looked.items k)) (rest_notes s)
rest_in s h k l = subst (λ n. Member (note n (items_at s.reads.items k) (items_at s.looked.items k)) (rest_notes s)) (let z : 0 + k ≡ k = omega arith in z) (note_in 0 s.reads.items s.looked.items k h.looked l)

rest_is : (s : Rests) (x : Note ℕ (Unit {0}) Range) → Member x (rest_notes s) → x ≡ note x.key (items_at s.reads.items x.key) (items_at s.looked.items x.key)
rest_is s x m =
    let (j, e) = note_is 0 s.reads.items s.looked.items x m in
    let z : 0 + j ≡ j = omega arith in
    let key : x.key ≡ j = ap (λ (y : Note ℕ (Unit {0}) Range). y.key) e ∙ z in
    e ∙ ap (λ n. note n (items_at s.reads.items j) (items_at s.looked.items j)) z ∙ ap (λ n. note n (items_at s.reads.items n) (items_at s.looked.items n)) (sym key)

-- the row of a note
pub of_row : (rs : List (Row Outcome Range)) (n : Note ℕ Outcome Range) → Member n (notes_of rs) → (r : Row Outcome Range) × Member r rs × (n ≡ note_of r)
of_row [] n m = absurd m
of_row (r ∷ rs) n (inl e) = (r, inl refl, e)
of_row (r ∷ rs) n (inr m) = let (x, i, e) = of_row rs n m in (x, inr i, e)

-- what was said of rows holds of longer rests that have the same of each number
pub have_longer : (rs : List (Row Outcome Range)) (s s' : Rests) → length s.reads.items ≤ length s'.reads.items → ((n : ℕ) → rest_of s' n ≡ rest_of s n) → HaveRows s rs → HaveRows s' rs
have_longer rs s s' l e h r m = let (i, q) = h r m in (omega (arith, i, l), e r.by ∙ q)

number_front : (rs : List (Row Outcome Range)) (i : ℕ) (r : Row Outcome Range) → Member r (take i rs) → Member r.by (take i (numbers_of rs))
number_front rs zero r m = absurd m
number_front [] (suc i) r m = absurd m
number_front (x ∷ rs) (suc i) r (inl e) = inl (ap (λ (y : Row Outcome Range). y.by) e)
number_front (x ∷ rs) (suc i) r (inr m) = inr (number_front rs i r m)

-- the rests of one row more
pub have_next : (rs : List (Row Outcome Range)) (s s' : Rests) (i : ℕ) (x : Row Outcome Range) → AreDistinct (numbers_of rs) → slice_get rs i ≡ Some x → x.by < length s.reads.items → length s'.reads.items ≡ length s.reads.items →
    ((n : ℕ) → rest_of s' n ≡ cond (nat_eq n x.by) (x.reads.items, x.looked.items) (rest_of s n)) → HaveRows s (take i rs) → HaveRows s' (take (i + 1) rs)
have_next rs s s' i x d e l z q h r m = by (pushed (take i rs) (subst (λ (ns : List (Row Outcome Range)). Member r ns) (take_next rs i x e) m))
  where
    pushed : (ns : List (Row Outcome Range)) → Member r (ns ++ x ∷ []) → Member r ns ⊎ (r ≡ x)
    pushed [] (inl e) = inr e
    pushed [] (inr e) = absurd e
    pushed (y ∷ ns) (inl e) = inl (inl e)
    pushed (y ∷ ns) (inr m) = elim (pushed ns m) [
      | inl i ↦ inl (inr i)
      | inr e ↦ inr e
    ]

    other : Member r (take i rs) → (b : Bool) → nat_eq r.by x.by ≡ b → cond b (x.reads.items, x.looked.items) (rest_of s r.by) ≡ (r.reads.items, r.looked.items)
    other m true f = absurd (before (numbers_of rs) i x.by d (get_map (λ (y : Row Outcome Range). y.by) rs i x e) (subst (λ (n : ℕ). Member n (take i (numbers_of rs))) (eqb-true _ _ f) (number_front rs i r m)))
    other m false f = (h r m).1

    by : Member r (take i rs) ⊎ (r ≡ x) → (r.by < length s'.reads.items) × (rest_of s' r.by ≡ (r.reads.items, r.looked.items))
    by (inl m) = let a = (h r m).0 in (omega (arith, a, z), q r.by ∙ other m (nat_eq r.by x.by) refl)
    by (inr f) = subst (λ (y : Row Outcome Range). (y.by < length s'.reads.items) × (rest_of s' y.by ≡ (y.reads.items, y.looked.items))) (sym f) (
      omega (arith, l, z),
      q x.by ∙ ap (λ b. cond b (x.reads.items, x.looked.items) (rest_of s x.by)) (eq-eqb x.by x.by refl),
    )

-- numbers below one are below a greater one
pub below_wider : (n m : ℕ) → n ≤ m → (rs : List (Row Outcome Range)) → Each (IsBelow n) rs → Each (IsBelow m) rs
below_wider n m l [] a = tt
below_wider n m l (r ∷ rs) a = ((omega (arith, l, a.0.0), all r.reads.items a.0.1), below_wider n m l rs a.1)
  where
    all : (js : List ℕ) → Each (λ j. j < n) js → Each (λ j. j < m) js
    all [] b = tt
    all (j ∷ js) b = (omega (arith, l, b.0), all js b.1)

-- a graph of all rows
pub graph_of_all : (rs : List (Row Outcome Range)) (g : Graph) → IsSound g.rests → g.rows ≡ length rs → HaveRows g.rests rs → IsGraphOf rs g
graph_of_all rs g s e h = record {
  sound = s;
  few = omega (arith, e);
  rows = subst (HaveRows g.rests) (sym (take_whole rs g.rows (omega (arith, e)))) h;
}

pub rows_of_all : (rs : List (Row Outcome Range)) (g : Graph) → g.rows ≡ length rs → IsGraphOf rs g → HaveRows g.rests rs
rows_of_all rs g e h = subst (HaveRows g.rests) (take_whole rs g.rows (omega (arith, e))) h.rows

-- a graph of no row is one of any rows
pub graph_of_none : (rs : List (Row Outcome Range)) (g : Graph) → IsSound g.rests → g.rows ≡ 0 → IsGraphOf rs g
graph_of_none rs g s e = record {
  sound = s;
  few = omega (arith, e);
  rows = λ r m. absurd (subst (λ (n : ℕ). Member r (take n rs)) e m);
}

-- among the rests of numbers the same rows are dropped
module _ (rs : List (Row Outcome Range)) (s : Rests) (h : IsSound s) (a : HaveRows s rs) (c : AreClosed (notes_of rs)) (touched : Range → Bool) where
  sub : (n : Note ℕ Outcome Range) → Member n (notes_of rs) → (m : Note ℕ (Unit {0}) Range) × Member m (rest_notes s) × (n.key ≡ m.key)
  sub n m =
      let (r, i, e) = of_row rs n m in
      (note r.by (items_at s.reads.items r.by) (items_at s.looked.items r.by), rest_in s h r.by (a r i).0, ap (λ (x : Note ℕ Outcome Range). x.key) e)

  one : (n : Note ℕ Outcome Range) (m : Note ℕ (Unit {0}) Range) → Member n (notes_of rs) → Member m (rest_notes s) → n.key ≡ m.key → (n.reads ≡ m.reads) × (n.looked ≡ m.looked)
  one n m i j e =
      let (r, k, f) = of_row rs n i in
      let q = (a r k).1 in
      let same : r.by ≡ m.key = sym (ap (λ (x : Note ℕ Outcome Range). x.key) f) ∙ e in
      let is = rest_is s m j in (
        ap (λ (x : Note ℕ Outcome Range). x.reads) f ∙ sym (ap (λ (x : List ℕ × List Range). x.0) q) ∙ ap (items_at s.reads.items) same ∙ sym (ap (λ (x : Note ℕ (Unit {0}) Range). x.reads) is),
        ap (λ (x : Note ℕ Outcome Range). x.looked) f ∙ sym (ap (λ (x : List ℕ × List Range). x.1) q) ∙ ap (items_at s.looked.items) same ∙ sym (ap (λ (x : Note ℕ (Unit {0}) Range). x.looked) is),
      )

  pub dropped_rows : (v : List ℕ) → ((k : ℕ) → Member k v ↔ IsDropped touched (rest_notes s) k) → (n : Note ℕ Outcome Range) → Member n (notes_of rs) → Member n.key v ↔ IsDropped touched (notes_of rs) n.key
  dropped_rows v all n m =
      let d = dropped_among_more ℕ Outcome (Unit {0}) Range touched (notes_of rs) (rest_notes s) c sub one n m in
      let g = all n.key in
      (λ i. d.0 (g.0 i), λ e. g.1 (d.1 e))
