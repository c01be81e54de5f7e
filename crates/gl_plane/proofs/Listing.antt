-- The differences of two oracles, listed entry by entry.
use Rattle.std.specs.Prelude.{if◌then◌else◌}
use Rattle.std.proofs.Common.{◌≡◌, ℕ, zero, suc, ◌+◌, List, [], ◌∷◌, ◌++◌, drop, slice_get, Bool, true, false, Option, Some, None, refl, sym, ap, ◌∙◌, arith, append_assoc}
use Rattle.std.specs.List.{list_any, flat_map}
use Rattle.gl_calculus.specs.Grid.Grid.{Addr, same_addr, Range, covers, single}
use Rattle.gl_calculus.specs.Values.Value.{Entry, Oracle}
use Rattle.gl_calculus.specs.Values.Same.{same_permit}
use Rattle.gl_calculus.specs.Calculation.Memory.{differs_at}
use Rattle.gl_calculus.specs.Evaluation.Oracle.{IsInOrder, area_of, entry_at}
use Rattle.gl_calculus.specs.Calculation.Differences.{AreApart, spills, areas_apart, by_both, by_entry, by_new, differences}
use Rattle.gl_calculus.proofs.Tells.{tells}
use Rattle.gl_plane.proofs.Search.{around, entry_here}
use Rattle.std.proofs.lemmas.Option.{slice_get_within, get_or_from_slice_get}
use Rattle.gl_plane.specs.Listed.{between, by_entries, by_news}
use Rattle.gl_plane.specs.Entries.{spilt_area}

pub both_areas : (x y : Entry) → between (spilt_area x) (spilt_area y) ≡ areas_apart (spills x) (spills y) (area_of x) (area_of y)
both_areas x y = by (spills x) (spills y)
  where
    by : (b c : Bool) → between (if b then Some (area_of x) else None) (if c then Some (area_of y) else None) ≡ areas_apart b c (area_of x) (area_of y)
    by true true = refl
    by true false = refl
    by false true = refl
    by false false = refl

-- the root and the areas of two entries, one after the other
pub both_listed : (old mid new : List Range) (x y : Entry) (a b : Option Range) → mid ≡ old ++ (if same_permit y.permit x.permit then [] else single x.root ∷ []) → a ≡ spilt_area x → b ≡ spilt_area y → new ≡ mid ++ between a b → new ≡ old ++ by_both x y
both_listed old mid new x y a b m e f n =
    n ∙ ap (λ l. l ++ between a b) m ∙ ap (λ u. (old ++ root) ++ between u b) e ∙ ap (λ v. (old ++ root) ++ between (spilt_area x) v) f
    ∙ ap (λ l. (old ++ root) ++ l) (both_areas x y) ∙ append_assoc old root (areas_apart (spills x) (spills y) (area_of x) (area_of y))
  where
    root : List Range
    root = if same_permit y.permit x.permit then [] else single x.root ∷ []

-- one entry further
pub flat_step : {X Y : Type 0} (f : X → List Y) (xs : List X) (i : ℕ) (x : X) → slice_get xs i ≡ Some x → flat_map f (drop i xs) ≡ f x ++ flat_map f (drop (i + 1) xs)
flat_step f [] i x e = absurd (cc e)
flat_step f (y ∷ ys) zero x e = let q : y ≡ x = cc e in ap (λ z. f z ++ flat_map f ys) q
flat_step f (y ∷ ys) (suc i) x e =
    let next : suc (i + 1) ≡ suc i + 1 = omega arith in
    flat_step f ys i x e ∙ ap (λ k. f x ++ flat_map f (drop k (y ∷ ys))) next

-- what is listed so far, and what is left
pub listed_step : {X Y : Type 0} (f : X → List Y) (xs : List X) (i : ℕ) (x : X) (mid new all : List Y) → slice_get xs i ≡ Some x → new ≡ mid ++ f x → mid ++ flat_map f (drop i xs) ≡ all → new ++ flat_map f (drop (i + 1) xs) ≡ all
listed_step f xs i x mid new all e n k =
    ap (λ l. l ++ flat_map f (drop (i + 1) xs)) n ∙ append_assoc mid (f x) (flat_map f (drop (i + 1) xs)) ∙ ap (λ l. mid ++ l) (sym (flat_step f xs i x e)) ∙ k

pub entry_listed : (v w : Oracle) (i : ℕ) (x : Entry) (mid new : List Range) → slice_get w i ≡ Some x → new ≡ mid ++ by_entry x (entry_at v x.root) → new ++ by_entries v (drop (i + 1) w) ≡ mid ++ by_entries v (drop i w)
entry_listed v w i x mid new e n = listed_step (λ y. by_entry y (entry_at v y.root)) w i x mid new (mid ++ by_entries v (drop i w)) e n refl

pub new_listed : (w v : Oracle) (i : ℕ) (y : Entry) (mid new : List Range) → slice_get v i ≡ Some y → new ≡ mid ++ by_new y (entry_at w y.root) → new ++ by_news w (drop (i + 1) v) ≡ mid ++ by_news w (drop i v)
new_listed w v i y mid new e n = listed_step (λ z. by_new z (entry_at w z.root)) v i y mid new (mid ++ by_news w (drop i v)) e n refl

-- they are exactly where the oracles differ
pub told : (w v : Oracle) (rs : List Range) → rs ≡ differences w v → IsInOrder w × IsInOrder v → AreApart w → AreApart v → (a : Addr) → list_any (λ r. covers r a) rs ≡ differs_at [] w v a
told w v rs e o p q a = ap (λ l. list_any (λ r. covers r a) l) e ∙ tells w v a o.0 o.1 p q

-- an entry is found by its root
pub found_there : (w : Oracle) (i : ℕ) (x : Entry) (a : Addr) → IsInOrder w → slice_get w i ≡ Some x → same_addr a x.root ≡ true → entry_at w a ≡ Some x
found_there w i x a o e s = entry_here w i x (around w i x (slice_get_within w i x e) (sym (get_or_from_slice_get w i x x e))) o a s
