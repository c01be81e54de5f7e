-- A refused root of a consistent oracle has an obstacle.
use Rattle.std.proofs.Common.{◌≡◌, ◌≢◌, ◌⊎◌, ◌↔◌, inl, inr, Bool, true, false, ◌&&◌, ◌||◌, not, is_none, cond, List, [], ◌∷◌, Option, Some, None, option_map, refl, ap, sym, ◌∙◌, subst}
use Rattle.std.specs.Prelude.{IsTrue, IsFalse}
use Rattle.std.specs.List.{find, list_all}
use Rattle.gl_calculus.specs.Computation.Lists.{Member}
use Rattle.gl_calculus.specs.Grid.Grid.{Addr, Range, same_addr, is_before, addresses, covers, lies_in, meets}
use Rattle.gl_calculus.specs.Values.Value.{Permit, Permitted, Refused, Entry, Oracle}
use Rattle.gl_calculus.specs.Values.Same.{is_permitted}
use Rattle.gl_calculus.specs.Evaluation.Oracle.{entry_at, status, area_of, Obstacle, first_obstacle, obstacle, ArePermits}
use Rattle.gl_calculus.proofs.Tests.{addr_exact}
use Rattle.gl_grant.proofs.Free.{none_found}
use Rattle.gl_calculus.proofs.Grants.{clash, all_covered}

-- without an obstacle the area lies in the bound, has no other content and meets no permitted area
none_by : (l : Bool) (b : Option Addr) (x : Option Entry) → first_obstacle l b x ≡ None → (l ≡ true) × (b ≡ None) × (x ≡ None)
none_by true None None h = (refl, refl, refl)
none_by true None (Some x) h = absurd (cc h)
none_by true (Some b) x h = absurd (cc h)
none_by false b x h = absurd (cc h)

not_held : (s h : Bool) → (s || not h) ≡ true → h ≡ true → s ≡ true
not_held true h e k = refl
not_held false true e k = absurd (cc e)
not_held false false e k = absurd (cc k)

pub next_none : {X : Type 0} (b : Bool) (x : X) (rest : Option X) → cond b (Some x) rest ≡ None → (b ≡ false) × (rest ≡ None)
next_none true x rest h = absurd (cc h)
next_none false x rest h = (refl, h)

none_passes : {X : Type 0} (p : X → Bool) (xs : List X) (x : X) → find p xs ≡ None → Member x xs → p x ≡ false
none_passes p [] x h m = absurd m
none_passes p (y ∷ ys) x h (inl e) = let n = next_none (p y) y (find p ys) h in subst (λ z. p z ≡ false) (sym e) n.0
none_passes p (y ∷ ys) x h (inr m) = let n = next_none (p y) y (find p ys) h in none_passes p ys x n.1 m

-- the entry at an address is one of the oracle's
entry_step : (b : Bool) (x y : Entry) (xs : Oracle) (rest : Option Entry) → (rest ≡ Some y → Member y xs) → cond b (Some x) rest ≡ Some y → Member y (x ∷ xs)
entry_step true x y xs rest f h = inl (sym (let e : x ≡ y = cc h in e))
entry_step false x y xs rest f h = inr (f h)

entry_member : (w : Oracle) (a : Addr) (y : Entry) → entry_at w a ≡ Some y → Member y w
entry_member [] a y h = absurd (cc h)
entry_member (x ∷ xs) a y h = entry_step (same_addr a x.root) x y xs (entry_at xs a) (entry_member xs a y) h

module _ (bound : Range) (held : Addr → Bool) (w : Oracle) (ok : ArePermits bound held w) where
  has_obstacle : (x : Entry) → Member x w → x.permit ≡ Refused → obstacle bound held w x.root (area_of x) ≡ None → ⊥
  has_obstacle x m q h = by (ok.refused x m q)
    where
      clear : (lies_in (area_of x) bound ≡ true) × (find (λ b. held b && not (same_addr b x.root)) (addresses (area_of x)) ≡ None) × (find (λ y. is_permitted y.permit && meets (area_of x) (area_of y)) w ≡ None)
      clear = none_by (lies_in (area_of x) bound) (find (λ b. held b && not (same_addr b x.root)) (addresses (area_of x))) (find (λ y. is_permitted y.permit && meets (area_of x) (area_of y)) w) h

      empty : list_all (λ b. same_addr b x.root || not (held b)) (addresses (area_of x)) ≡ true
      empty = none_found held x.root (addresses (area_of x)) ∙ ap is_none clear.1

      by : IsFalse (lies_in (area_of x) bound)
          ⊎ (((a : Addr) × IsTrue (covers (area_of x) a) × IsTrue (held a) × (a ≢ x.root))
          ⊎ ((y : Entry) × Member y w × (y.permit ≡ Permitted) × IsTrue (is_before y.root x.root) × IsTrue (meets (area_of x) (area_of y)))) → ⊥
      by (inl l) = clash clear.0 l
      by (inr (inl (a, c, k, n))) = n (addr_exact a x.root (not_held (same_addr a x.root) (held a) (all_covered (λ b. same_addr b x.root || not (held b)) (area_of x) empty a c) k))
      by (inr (inr (y, n, p, b, t))) = clash (ap is_permitted p) (left_false (is_permitted y.permit) (meets (area_of x) (area_of y)) t (none_passes (λ z. is_permitted z.permit && meets (area_of x) (area_of z)) w y clear.2 n))
        where
          left_false : (u v : Bool) → v ≡ true → (u && v) ≡ false → u ≡ false
          left_false true v f g = absurd (clash f g)
          left_false false v f g = refl

  -- so no obstacle is found exactly where the root is permitted
  pub none_where_permitted : {T : Type 0} (tree : T → Obstacle) (found : Option T) (root : Addr) (x : Entry) → entry_at w root ≡ Some x → x.permit ≡ Refused →
      option_map tree found ≡ obstacle bound held w x.root (area_of x) → (found ≡ None) ↔ (status w root ≡ Some Permitted)
  none_where_permitted tree found root x e q v = (
    λ f. absurd (has_obstacle x (entry_member w root x e) q (sym v ∙ ap (option_map tree) f)),
    λ s. let t : ◌≡◌ {A = Option Permit} (Some Refused) (Some Permitted) = sym (ap Some q) ∙ sym (ap (option_map (λ (x : Entry). x.permit)) e) ∙ s in absurd (cc t),
  )
