-- Lists of numbers that rise, by their last.
use Rattle.std.proofs.Common.{◌≡◌, ◌⊎◌, inl, inr, ℕ, ◌<◌, List, [], ◌∷◌, ◌++◌, map, refl, sym, subst, ap}
use Rattle.gl_calculus.specs.Computation.Lists.{Member}
use Rattle.gl_graph.specs.Search.{Rises}

pub member_push : {X : Type 0} (x y : X) (xs : List X) → Member x (xs ++ y ∷ []) → Member x xs ⊎ (x ≡ y)
member_push x y [] (inl e) = inr e
member_push x y [] (inr m) = absurd m
member_push x y (z ∷ zs) (inl e) = inl (inl e)
member_push x y (z ∷ zs) (inr m) = by (member_push x y zs m)
  where
    by : Member x zs ⊎ (x ≡ y) → Member x (z ∷ zs) ⊎ (x ≡ y)
    by (inl i) = inl (inr i)
    by (inr e) = inr e

pub member_before : {X : Type 0} (x y : X) (xs : List X) → Member x xs → Member x (xs ++ y ∷ [])
member_before x y [] m = absurd m
member_before x y (z ∷ zs) (inl e) = inl e
member_before x y (z ∷ zs) (inr m) = inr (member_before x y zs m)

pub member_last : {X : Type 0} (y : X) (xs : List X) → Member y (xs ++ y ∷ [])
member_last y [] = inl refl
member_last y (z ∷ zs) = inr (member_last y zs)

pub member_map : {X Y : Type 0} (f : X → Y) (x : X) (xs : List X) → Member x xs → Member (f x) (map f xs)
member_map f x [] m = absurd m
member_map f x (z ∷ zs) (inl e) = inl (ap f e)
member_map f x (z ∷ zs) (inr m) = inr (member_map f x zs m)

pub member_unmap : {X Y : Type 0} (f : X → Y) (y : Y) (xs : List X) → Member y (map f xs) → (x : X) × Member x xs × (f x ≡ y)
member_unmap f y [] m = absurd m
member_unmap f y (z ∷ zs) (inl e) = (z, inl refl, sym e)
member_unmap f y (z ∷ zs) (inr m) = let (x, i, e) = member_unmap f y zs m in (x, inr i, e)

pub map_push : {X Y : Type 0} (f : X → Y) (xs : List X) (y : X) → map f (xs ++ y ∷ []) ≡ map f xs ++ f y ∷ []
map_push f [] y = refl
map_push f (x ∷ xs) y = ap (λ t. f x ∷ t) (map_push f xs y)

pub rises_push : (xs : List ℕ) (y : ℕ) → Rises xs → ((x : ℕ) → Member x xs → x < y) → Rises (xs ++ y ∷ [])
rises_push [] y r h = ((λ x m. absurd m), tt)
rises_push (x ∷ xs) y r h = ((λ z m. by z (member_push z y xs m)), rises_push xs y r.1 (λ z m. h z (inr m)))
  where
    by : (z : ℕ) → Member z xs ⊎ (z ≡ y) → x < z
    by z (inl m) = r.0 z m
    by z (inr e) = subst (λ t. x < t) (sym e) (h x (inl refl))

pub rises_before : (xs : List ℕ) (y : ℕ) → Rises (xs ++ y ∷ []) → Rises xs
rises_before [] y r = tt
rises_before (x ∷ xs) y r = ((λ z m. r.0 z (member_before z y xs m)), rises_before xs y r.1)

pub rises_last : (xs : List ℕ) (y : ℕ) → Rises (xs ++ y ∷ []) → (x : ℕ) → Member x xs → x < y
rises_last [] y r x m = absurd m
rises_last (z ∷ xs) y r x (inl e) = subst (λ t. t < y) (sym e) (r.0 y (member_last y xs))
rises_last (z ∷ xs) y r x (inr m) = rises_last xs y r.1 x m
