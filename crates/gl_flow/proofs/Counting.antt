-- A list from a place on.
use Rattle.std.proofs.Common.{◌≡◌, ℕ, ◌+◌, List, ◌∷◌, drop, slice_get, Some, ap, sym, ◌∙◌}
use Rattle.std.proofs.lemmas.List.{drop_more}
use Rattle.std.proofs.lemmas.Option.{slice_get_within, get_or_from_slice_get}

module _ {X : Type 0} where
  pub drop_at : (xs : List X) (i : ℕ) (x : X) → Some x ≡ slice_get xs i → drop i xs ≡ x ∷ drop (i + 1) xs
  drop_at xs i x h = drop_more xs i x (slice_get_within xs i x (sym h)) ∙ ap (λ y. y ∷ drop (i + 1) xs) (get_or_from_slice_get xs i x x (sym h))
