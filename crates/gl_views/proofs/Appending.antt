-- What loops append, element by element.
use Rattle.std.proofs.Common.{◌≡◌, ◌∙◌, ℕ, suc, ◌+◌, ◌-◌, ◌<◌, ◌≤◌, List, [], ◌∷◌, ◌++◌, length, drop, replicate, Some, None, inl, inr, sym, ap, arith, append_assoc, append-nil}
use Rattle.std.specs.Prelude.{flat_map}
use Rattle.std.specs.List.{slice_get}
use Rattle.std.proofs.lemmas.List.{drop_more, at_drop_all}
use Rattle.std.proofs.lemmas.Option.{slice_get_within, get_or_from_slice_get, slice_get_cases}

none_some : {X : Type 0} (x : X) → None ≡ Some x → ⊥
none_some x h = cc

pub past_end : {X : Type 0} (xs : List X) (i : ℕ) → None ≡ slice_get xs i → length xs ≤ i
past_end xs i h = elim (slice_get_cases xs i).1 [
  | inl w ↦ absurd (none_some w.0 (h ∙ w.2))
  | inr k ↦ k.0
]

-- the texts of the elements from a place on, after one more of them
pub append_more : {X : Type 0} (f : X → List ℕ) (xs : List X) (i : ℕ) (x : X) (a b : List ℕ) → Some x ≡ slice_get xs i → b ≡ a ++ f x → b ++ flat_map f (drop (i + 1) xs) ≡ a ++ flat_map f (drop i xs)
append_more f xs i x a b h e =
    let below = slice_get_within xs i x (sym h) in
    let one = drop_more xs i x below ∙ ap (λ y. y ∷ drop (i + 1) xs) (get_or_from_slice_get xs i x x (sym h)) in
    ap (λ z. z ++ flat_map f (drop (i + 1) xs)) e ∙ append_assoc a (f x) (flat_map f (drop (i + 1) xs)) ∙ ap (λ ys. a ++ flat_map f ys) (sym one)

pub append_all : {X : Type 0} (f : X → List ℕ) (xs : List X) (i : ℕ) (a : List ℕ) → length xs ≤ i → a ++ flat_map f (drop i xs) ≡ a
append_all f xs i a h = ap (λ z. a ++ z) (at_drop_all (flat_map f) xs i h) ∙ append-nil a

-- the spaces in front of a text, after one more of them
pub space_more : (n i : ℕ) (a b t : List ℕ) → i < n → b ≡ a ++ 32 ∷ [] → b ++ (replicate (n - (i + 1)) 32 ++ t) ≡ a ++ (replicate (n - i) 32 ++ t)
space_more n i a b t h e =
    let k : n - i ≡ (n - (i + 1)) + 1 = omega arith in
    ap (λ z. z ++ (replicate (n - (i + 1)) 32 ++ t)) e ∙ append_assoc a (32 ∷ []) (replicate (n - (i + 1)) 32 ++ t) ∙ ap (λ m. a ++ (replicate m 32 ++ t)) (sym (k ∙ add_one (n - (i + 1))))
  where
    add_one : (m : ℕ) → m + 1 ≡ suc m
    add_one m = omega arith

pub space_all : (n i : ℕ) (t : List ℕ) → n ≤ i → replicate (n - i) 32 ++ t ≡ t
space_all n i t h = let k : n - i ≡ 0 = omega arith in ap (λ m. replicate m 32 ++ t) k
