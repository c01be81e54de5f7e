-- An oracle gives sizes at most once.
use Rattle.std.proofs.Common.{◌≡◌, inl, inr, List, [], ◌∷◌, true, refl, ap, subst, ◌∙◌}
use Rattle.laws_calculus.proofs.Query.Levels.{Has-one, Has-Loops}
use Rattle.gl_calculus.specs.Grid.Grid.{Addr, Size}
use Rattle.gl_calculus.specs.Values.Value.{Scalars, Array, Top}
use Rattle.gl_calculus.specs.Evaluation.Oracle.{Sizes}
use Rattle.gl_calculus.specs.Evaluation.Key.{Cell, Outcome}
use Rattle.gl_calculus.specs.Evaluation.World.{World}
use Rattle.gl_calculus.specs.Evaluation.Evaluation.{program}
use Rattle.gl_calculus.specs.Calculation.Calculation.{is_array, TopHas, TopFails, Arrays, none, array, other}
use Rattle.gl_calculus.proofs.Grants.{clash}

module _ (W : World) where
  no_array : (a : Addr) (z : Size) (xs : Scalars) → TopHas W a (Outcome.Value (Array z xs)) → TopFails W is_array a → ⊥
  no_array a z xs h (inl l) = Has-Loops (program W) (Cell Top a) _ h l
  no_array a z xs h (inr (o, g, f)) = clash (subst (λ u. is_array u ≡ true) (Has-one (program W) (Cell Top a) _ _ h g) refl) f

  pub one_arrays : (rest : List Addr) (ys zs : Sizes) → Arrays W rest ys → Arrays W rest zs → ys ≡ zs
  one_arrays [] _ _ none none = refl
  one_arrays (a ∷ rest) _ _ (array {z = y} {zs = ys} xs g r) (array {z = z} {zs = zs} vs h s) =
      let q : Outcome.Value (Array y xs) ≡ Outcome.Value (Array z vs) = Has-one (program W) (Cell Top a) _ _ g h in
      let e : y ≡ z = cc q in
      ap (λ u. (a, u) ∷ ys) e ∙ ap (λ u. (a, z) ∷ u) (one_arrays rest ys zs r s)
  one_arrays (a ∷ rest) _ _ (array {z = y} xs g r) (other f s) = absurd (no_array a y xs g f)
  one_arrays (a ∷ rest) _ _ (other f r) (array {z = z} vs h s) = absurd (no_array a z vs h f)
  one_arrays (a ∷ rest) _ _ (other f r) (other g s) = one_arrays rest _ _ r s
