-- What one level over true outcomes reads up to a need is a front of all that the key reads.
use Rattle.std.proofs.Common.{◌≡◌, List, [], ◌∷◌, ◌++◌, Bool, true, false, cond, Option, Some, None, refl, sym, ap, subst, ◌∙◌}
use Rattle.gl_calculus.specs.Computation.Lists.{Begins, has_member, fresh, distinct}
use Rattle.gl_calculus.specs.Computation.Query.{Query, Found, next, asked, looked, Path, Returns, Looks, Asks, Stops, Has, Loops, IsTrueTable}
use Rattle.gl_machine.specs.Reads.{first_without, needs_of}
use Rattle.laws_calculus.specs.Query.{LevelNeeds}
use Rattle.laws_calculus.proofs.Query.Levels.{Has-one, Has-Loops}
use Rattle.laws_calculus.proofs.Query.Quiet.{walk_first, first_fresh}

longer : {X : Type 0} (x : X) (xs ys : List X) → Begins xs ys → Begins (x ∷ xs) (x ∷ ys)
longer x xs ys (zs, e) = (zs, ap (λ l. x ∷ l) e)

whole : {X : Type 0} (xs : List X) → Begins [] xs
whole xs = (xs, refl)

-- the distinct ones of a front are a front of the distinct ones
fresh_front : {X : Type 0} (same : X → X → Bool) (xs ys seen : List X) → Begins (fresh same seen xs) (fresh same seen (xs ++ ys))
fresh_front same [] ys seen = whole (fresh same seen ys)
fresh_front same (x ∷ xs) ys seen =
    elim (has_member same x seen) as (λ b. Begins (cond b (fresh same seen xs) (x ∷ fresh same (x ∷ seen) xs)) (cond b (fresh same seen (xs ++ ys)) (x ∷ fresh same (x ∷ seen) (xs ++ ys)))) [
      | true ↦ fresh_front same xs ys seen
      | false ↦ longer x (fresh same (x ∷ seen) xs) (fresh same (x ∷ seen) (xs ++ ys)) (fresh_front same xs ys (x ∷ seen))
    ]

distinct_front : {X : Type 0} (same : X → X → Bool) (xs ys : List X) → Begins xs ys → Begins (distinct same xs) (distinct same ys)
distinct_front same xs ys (zs, e) = subst (λ l. Begins (distinct same xs) (distinct same l)) (sym e) (fresh_front same xs zs [])

module _ {K O A : Type 0} (program : K → Query K O A O) (f : K → Option O) (true' : IsTrueTable program f) where
  -- a walk over the table goes along the path, up to the first key that the table lacks
  fronts : {q : Query K O A O} {ks : List K} {ls : List A} {e : Found K O} → Path (Has program) (Loops program) q ks ls e → Begins (asked f q) ks × Begins (looked f q) ls
  fronts Returns = (whole [], whole [])
  fronts (Looks {a = a} {q = q} {ks = ks} {ls = ls} p) = let (x, y) = fronts p in (x, longer a (looked f q) ls y)
  fronts (Asks {k = k} {c = c} {o = x} {ks = ks} {ls = ls} r p) =
      (elim (f k) as (λ v. f k ≡ v → Begins (k ∷ next [] v (λ o. asked f (c o))) (k ∷ ks) × Begins (next [] v (λ o. looked f (c o))) ls) [
        | None ↦ λ e. (longer k [] ks (whole ks), whole ls)
        | Some y ↦ λ e. subst (λ t. Begins (k ∷ asked f (c t)) (k ∷ ks) × Begins (looked f (c t)) ls) (Has-one program k x y r (true' k y e)) (let (a, b) = fronts p in (longer k (asked f (c x)) ks a, b))
      ]) refl
  fronts (Stops {k = k} {c = c} n) =
      (elim (f k) as (λ v. f k ≡ v → Begins (k ∷ next [] v (λ o. asked f (c o))) (k ∷ []) × Begins (next [] v (λ o. looked f (c o))) []) [
        | None ↦ λ e. (longer k [] [] (whole []), whole [])
        | Some y ↦ λ e. absurd (Has-Loops program k y (true' k y e) n)
      ]) refl

pub level_needs : (K O A : Type 0) → LevelNeeds K O A
level_needs K O A same program f eq t k j e = (
  λ rs r. let (ks, ls, d, p, a) = r in (
    subst (λ z. first_without f z ≡ Some j) (sym a) (first_fresh same eq f ks [] (λ i m. absurd m) ∙ walk_first program f t (Loops program) (Has-Loops program) p ∙ ap needs_of e),
    subst (λ z. Begins (distinct same (asked f (program k))) z) (sym a) (distinct_front same (asked f (program k)) ks (fronts program f t p).0),
  ),
  λ ls r. let (ks, d, p) = r in (fronts program f t p).1,
)
