-- Lists in which the last item took the place of one that went.
use Rattle.std.proofs.Common.{◌≡◌, ℕ, suc, ◌+◌, ◌-◌, ◌<◌, ◌≢◌, ◌⊎◌, List, [], ◌∷◌, length, map, set, slice_get, slice_index, get_or, Option, Some, None, IfSome, option_map, sym, ap, ◌∙◌, subst, arith, inl, inr}
use Rattle.std.proofs.lemmas.Option.{slice_get-get_or, slice_get-map}
use Rattle.std.proofs.lemmas.List.{length-set}
use Rattle.gl_calculus.specs.Computation.Lists.{Member, AreDistinct}
use Rattle.gl_calculus.specs.Grid.Grid.{Range}
use Rattle.gl_support.specs.declared.row.Row.{Row}
use Rattle.gl_demand.specs.declared.outcome.Outcome.{Outcome}
use Rattle.gl_core.specs.Graph.{HasAll, IsGraphOf, fewer}
use Rattle.gl_core.specs.Numbers.{numbers_of, IsIndex}
use Rattle.gl_core.specs.Dropped.{AreWithout}
use Rattle.gl_core.specs.declared.graph.Graph.{Graph}
use Rattle.gl_core.proofs.Trees.{same_or_other}
use Rattle.gl_core.proofs.Wakes.{get_within}
use Rattle.gl_core.proofs.Places.{member_at, place_of, one_place}
use Rattle.gl_core.proofs.Numbered.{get_map, length-map, index_there, index_other}
use Rattle.gl_core.proofs.Graphed.{graph_of_all, rows_of_all}

-- the item x at r went, and m, which stood last, at k, took its place
pub record IsSwapped {X : Type 0} (xs ys : List X) (r k : ℕ) (x m : X) : Type 0 where
  pub gone : slice_get xs r ≡ Some x
  pub last : slice_get xs k ≡ Some m
  pub size : length xs ≡ suc k
  pub short : length ys ≡ k
  pub moved : r < k → slice_get ys r ≡ Some m
  pub stay : (p : ℕ) → p ≢ r → p < k → slice_get ys p ≡ slice_get xs p

-- what is told of items with a default; n and j are the length
pub swapped : {X : Type 0} (xs ys : List X) (n j r : ℕ) (x m : X) → n ≡ length xs → j ≡ n → length ys + 1 ≡ n → r < n → x ≡ get_or xs r x → m ≡ get_or xs (j - 1) m →
    ((d : X) → r + 1 < n → get_or ys r d ≡ get_or xs (n - 1) d) → ((p : ℕ) (d : X) → p ≢ r → p + 1 < n → get_or ys p d ≡ get_or xs p d) → IsSwapped xs ys r (n - 1) x m
swapped {X} xs ys n j r x m size same short there gone last moved stay = record {
  gone = slice_get-get_or xs r x (omega (arith, size, there)) ∙ ap Some (sym gone);
  last = slice_get-get_or xs (n - 1) m (omega (arith, size, there)) ∙ ap Some (sym at);
  size = omega (arith, size, there);
  short = omega (arith, short);
  moved = λ l. slice_get-get_or ys r m (omega (arith, short, l)) ∙ ap Some (moved m (omega (arith, l)) ∙ sym at);
  stay = λ p d l. slice_get-get_or ys p x (omega (arith, short, l)) ∙ ap Some (stay p x d (omega (arith, l))) ∙ sym (slice_get-get_or xs p x (omega (arith, size, l)));
}
  where
    at : m ≡ get_or xs (n - 1) m
    at = subst (λ (i : ℕ). m ≡ get_or xs (i - 1) m) same last

swapped_map : {X Y : Type 0} (f : X → Y) (xs ys : List X) (r k : ℕ) (x m : X) → IsSwapped xs ys r k x m → IsSwapped (map f xs) (map f ys) r k (f x) (f m)
swapped_map f xs ys r k x m h = record {
  gone = get_map f xs r x h.gone;
  last = get_map f xs k m h.last;
  size = length-map f xs ∙ h.size;
  short = length-map f ys ∙ h.short;
  moved = λ l. get_map f ys r m (h.moved l);
  stay = λ p d l. slice_get-map f ys p ∙ ap (option_map f) (h.stay p d l) ∙ sym (slice_get-map f xs p);
}

-- where an item that is left stood
stood : {X : Type 0} (xs ys : List X) (r k : ℕ) (x m : X) → IsSwapped xs ys r k x m → (p : ℕ) (y : X) → slice_get ys p ≡ Some y → ((p ≡ r) × (r < k) × (y ≡ m)) ⊎ ((p ≢ r) × (p < k) × (slice_get xs p ≡ Some y))
stood {X} xs ys r k x m h p y e = by (same_or_other p r)
  where
    inside : p < k
    inside = let l = get_within ys p y e in omega (arith, l, h.short)

    by : (p ≡ r) ⊎ (p ≢ r) → ((p ≡ r) × (r < k) × (y ≡ m)) ⊎ ((p ≢ r) × (p < k) × (slice_get xs p ≡ Some y))
    by (inl s) =
        let l : r < k = omega (arith, s, inside) in
        let f : Some y ≡ Some m = sym e ∙ ap (slice_get ys) s ∙ h.moved l in
        let g : y ≡ m = cc in
        inl (s, l, g)
    by (inr d) = inr (d, inside, sym (h.stay p d inside) ∙ e)

-- an item at another place is left
left : {X : Type 0} (xs ys : List X) (r k : ℕ) (x m : X) → IsSwapped xs ys r k x m → (p : ℕ) (y : X) → slice_get xs p ≡ Some y → p ≢ r → Member y ys
left {X} xs ys r k x m h p y e d = by (same_or_other p k)
  where
    inside : p < suc k
    inside = let l = get_within xs p y e in omega (arith, l, h.size)

    there : r < suc k
    there = let l = get_within xs r x h.gone in omega (arith, l, h.size)

    by : (p ≡ k) ⊎ (p ≢ k) → Member y ys
    by (inl s) =
        let f : Some m ≡ Some y = sym h.last ∙ ap (slice_get xs) (sym s) ∙ e in
        let g : m ≡ y = cc in
        subst (λ (t : X). Member t ys) g (member_at ys r m (h.moved (omega (arith, s, d, there))))
    by (inr o) = let l : p < k = omega (arith, o, inside) in member_at ys p y (h.stay p d l ∙ e)

-- the places of the numbers that are left, where the last one got that of the one that went
pub swapped_index : (ns ns' places : List ℕ) (r k n m : ℕ) → IsIndex ns places → AreDistinct ns → IsSwapped ns ns' r k n m → n < length places → m < length places → IsIndex ns' (set (set places m (r + 1)) n 0)
swapped_index ns ns' places r k n m i d h ln lm = record {
  there = λ p q e. there p q e (stood ns ns' r k n m h p q e);
  back = λ q p e. back q p e (same_or_other q n);
}
  where
    -- the one that went is no other one
    apart : (p q : ℕ) → slice_get ns p ≡ Some q → p ≢ r → q ≢ n
    apart p q e o s = o (one_place ns d p r n (e ∙ ap Some s) h.gone)

    there : (p q : ℕ) → slice_get ns' p ≡ Some q → ((p ≡ r) × (r < k) × (q ≡ m)) ⊎ ((p ≢ r) × (p < k) × (slice_get ns p ≡ Some q)) → slice_index (set (set places m (r + 1)) n 0) q ≡ suc p
    there p q e (inl (s, l, f)) =
        let o : q ≢ n = λ g. apart k m h.last (λ t. omega (arith, t, l)) (sym f ∙ g) in
        index_other (set places m (r + 1)) n q 0 o ∙ ap (slice_index (set places m (r + 1))) f ∙ index_there places m (r + 1) lm ∙ (let a : r + 1 ≡ suc p = omega (arith, s) in a)
    there p q e (inr (o, l, f)) =
        let u : q ≢ n = apart p q f o in
        let v : q ≢ m = λ g. (let a = one_place ns d p k m (f ∙ ap Some g) h.last in omega (arith, a, l)) in
        index_other (set places m (r + 1)) n q 0 u ∙ index_other places m q (r + 1) v ∙ i.there p q f

    back : (q p : ℕ) → slice_index (set (set places m (r + 1)) n 0) q ≡ suc p → (q ≡ n) ⊎ (q ≢ n) → slice_get ns' p ≡ Some q
    back q p e (inl s) =
        let l : n < length (set places m (r + 1)) = (let a = length-set places m (r + 1) in omega (arith, a, ln)) in
        let a : 0 ≡ suc p = sym (index_there (set places m (r + 1)) n 0 l) ∙ ap (slice_index (set (set places m (r + 1)) n 0)) (sym s) ∙ e in
        absurd (cc a)
    back q p e (inr o) = by (same_or_other q m)
      where
        f : slice_index (set places m (r + 1)) q ≡ suc p
        f = sym (index_other (set places m (r + 1)) n q 0 o) ∙ e

        first : r < suc k
        first = let l = get_within ns r n h.gone in omega (arith, l, h.size)

        by : (q ≡ m) ⊎ (q ≢ m) → slice_get ns' p ≡ Some q
        by (inl s) =
            let a : r + 1 ≡ suc p = sym (index_there places m (r + 1) lm) ∙ ap (slice_index (set places m (r + 1))) (sym s) ∙ f in
            let b : p ≡ r = omega (arith, a) in
            let t : r ≢ k = λ g. (let x : Some n ≡ Some m = sym h.gone ∙ ap (slice_get ns) g ∙ h.last in let y : n ≡ m = cc in o (s ∙ sym y)) in
            ap (slice_get ns') b ∙ h.moved (omega (arith, first, t)) ∙ ap Some (sym s)
        by (inr v) =
            let g = i.back q p (sym (index_other places m q (r + 1) v) ∙ f) in
            let u : p ≢ r = λ t. (let x : Some q ≡ Some n = sym g ∙ ap (slice_get ns) t ∙ h.gone in let y : q ≡ n = cc in o y) in
            let w : p ≢ k = λ t. (let x : Some q ≡ Some m = sym g ∙ ap (slice_get ns) t ∙ h.last in let y : q ≡ m = cc in v y) in
            let l = get_within ns p q g in
            h.stay p u (omega (arith, l, h.size, w)) ∙ g

-- ---- rows

module _ (rs rs' : List (Row Outcome Range)) (r k : ℕ) (x m : Row Outcome Range) (h : IsSwapped rs rs' r k x m) where
  pub swapped_numbers : IsSwapped (numbers_of rs) (numbers_of rs') r k x.by m.by
  swapped_numbers = swapped_map (λ (y : Row Outcome Range). y.by) rs rs' r k x m h

  -- a row that is left was there
  pub left_was : (y : Row Outcome Range) → Member y rs' → Member y rs
  left_was y i = let (p, e) = place_of rs' y i in by p (stood rs rs' r k x m h p y e)
    where
      by : (p : ℕ) → ((p ≡ r) × (r < k) × (y ≡ m)) ⊎ ((p ≢ r) × (p < k) × (slice_get rs p ≡ Some y)) → Member y rs
      by p (inl (s, l, f)) = member_at rs k y (h.last ∙ ap Some (sym f))
      by p (inr (o, l, f)) = member_at rs p y f

  pub rows_without : AreDistinct (numbers_of rs) → AreWithout (x.by ∷ []) rs rs'
  rows_without d = (λ y i. (left_was y i, λ n. other y i n), λ y i n. still y n (place_of rs y i))
    where
      at : (p : ℕ) (y : Row Outcome Range) → slice_get rs p ≡ Some y → y.by ≡ x.by → p ≡ r
      at p y e s = one_place (numbers_of rs) d p r x.by (get_map (λ (t : Row Outcome Range). t.by) rs p y e ∙ ap Some s) (get_map (λ (t : Row Outcome Range). t.by) rs r x h.gone)

      off : (y : Row Outcome Range) → y.by ≡ x.by → (p : ℕ) → ((p ≡ r) × (r < k) × (y ≡ m)) ⊎ ((p ≢ r) × (p < k) × (slice_get rs p ≡ Some y)) → ⊥
      off y s p (inl (t, l, f)) = let a = at k y (h.last ∙ ap Some (sym f)) s in omega (arith, a, l)
      off y s p (inr (o, l, f)) = o (at p y f s)

      other : (y : Row Outcome Range) → Member y rs' → Member y.by (x.by ∷ []) → ⊥
      other y i (inl s) = let (p, e) = place_of rs' y i in off y s p (stood rs rs' r k x m h p y e)
      other y i (inr s) = s

      still : (y : Row Outcome Range) → (Member y.by (x.by ∷ []) → ⊥) → (p : ℕ) × (slice_get rs p ≡ Some y) → Member y rs'
      still y n (p, e) = left rs rs' r k x m h p y e (λ t. n (inl (ap (λ (z : Row Outcome Range). z.by) (let f : Some y ≡ Some x = sym e ∙ ap (slice_get rs) t ∙ h.gone in let g : y ≡ x = cc in g))))

  -- a graph of all rows
  pub swapped_graph : (g : Option Graph) → IfSome g (IsGraphOf rs) → IfSome g (HasAll rs) → IfSome (option_map (fewer 1) g) (IsGraphOf rs') × IfSome (option_map (fewer 1) g) (HasAll rs')
  swapped_graph None a b = (tt, tt)
  swapped_graph (Some g) a b =
      let all = rows_of_all rs g b a in
      let less : g.rows - 1 ≡ length rs' = omega (arith, b, h.size, h.short) in
      (graph_of_all rs' (fewer 1 g) a.sound less (λ y i. all y (left_was y i)), less)
