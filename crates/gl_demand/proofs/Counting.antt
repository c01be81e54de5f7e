-- Lists taken element by element.
use Rattle.std.proofs.Common.{◌≡◌, ℕ, ◌+◌, ◌≤◌, ◌<◌, Bool, true, false, cond, List, [], ◌∷◌, ◌++◌, filter, length, take, drop, get_or, slice_get, Some, None, refl, ap, sym, ◌∙◌, arith, append_assoc, length-append}
use Rattle.std.specs.List.{find}
use Rattle.std.proofs.Math.ListN.{drop_of_length-le}
use Rattle.std.proofs.lemmas.List.{append-nil, drop_more, take-append-drop}
use Rattle.std.proofs.lemmas.Option.{slice_get_within, get_or_from_slice_get}

module _ {X : Type 0} where
  pub drop_at : (xs : List X) (i : ℕ) (x : X) → Some x ≡ slice_get xs i → drop i xs ≡ x ∷ drop (i + 1) xs
  drop_at xs i x h = drop_more xs i x (slice_get_within xs i x (sym h)) ∙ ap (λ y. y ∷ drop (i + 1) xs) (get_or_from_slice_get xs i x x (sym h))

  pub drop_item : (xs : List X) (i : ℕ) (x : X) → x ≡ get_or xs i x → i < length xs → drop i xs ≡ x ∷ drop (i + 1) xs
  drop_item xs i x e l = drop_more xs i x l ∙ ap (λ y. y ∷ drop (i + 1) xs) (sym e)

  pub take_all : (xs : List X) (i : ℕ) → length xs ≤ i → take i xs ≡ xs
  take_all xs i l = sym (append-nil (take i xs)) ∙ ap (λ ys. take i xs ++ ys) (sym (drop_of_length-le xs l)) ∙ take-append-drop i xs

  joined : (b : Bool) (x : X) (rest : List X) → cond b (x ∷ []) [] ++ rest ≡ cond b (x ∷ rest) rest
  joined true x rest = refl
  joined false x rest = refl

  module _ (p : X → Bool) (xs : List X) (i : ℕ) where
    -- those that pass so far, and one more
    pub filter_more : (x : X) (b : Bool) (fs gs : List X) → Some x ≡ slice_get xs i → b ≡ p x → gs ≡ fs ++ cond b (x ∷ []) [] → fs ++ filter p (drop i xs) ≡ filter p xs → gs ++ filter p (drop (i + 1) xs) ≡ filter p xs
    filter_more x b fs gs h e g k =
        let rest = filter p (drop (i + 1) xs) in
        ap (λ l. l ++ rest) g
        ∙ append_assoc fs (cond b (x ∷ []) []) rest
        ∙ ap (λ l. fs ++ l) (joined b x rest ∙ ap (λ c. cond c (x ∷ rest) rest) e)
        ∙ ap (λ l. fs ++ filter p l) (sym (drop_at xs i x h))
        ∙ k

    pub filter_all : (fs : List X) → length xs ≤ i → fs ++ filter p (drop i xs) ≡ filter p xs → fs ≡ filter p xs
    filter_all fs l k = sym (append-nil fs) ∙ ap (λ ys. fs ++ filter p ys) (sym (drop_of_length-le xs l)) ∙ k

    -- the first that passes is the one here, or is behind it
    pub found_at : (x : X) → Some x ≡ slice_get xs i → p x ≡ true → find p xs ≡ find p (drop i xs) → Some x ≡ find p xs
    found_at x h e k = sym (k ∙ ap (find p) (drop_at xs i x h) ∙ ap (λ c. cond c (Some x) (find p (drop (i + 1) xs))) e)

    pub found_behind : (x : X) → Some x ≡ slice_get xs i → p x ≡ false → find p xs ≡ find p (drop i xs) → find p xs ≡ find p (drop (i + 1) xs)
    found_behind x h e k = k ∙ ap (find p) (drop_at xs i x h) ∙ ap (λ c. cond c (Some x) (find p (drop (i + 1) xs))) e

    pub found_none : length xs ≤ i → find p xs ≡ find p (drop i xs) → None ≡ find p xs
    found_none l k = sym (k ∙ ap (find p) (drop_of_length-le xs l))

-- one more at most
pub one_more : {X : Type 0} (b : Bool) (x : X) (fs gs : List X) (i : ℕ) → gs ≡ fs ++ cond b (x ∷ []) [] → length fs ≤ i → length gs ≤ i + 1
one_more true x fs gs i g l = let e : length gs ≡ length fs + 1 = ap length g ∙ length-append fs (x ∷ []) in omega (arith, e, l)
one_more false x fs gs i g l = let e : length gs ≡ length fs = ap length (g ∙ append-nil fs) in omega (arith, e, l)
