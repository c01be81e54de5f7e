-- The addresses of steps.
use Rattle.std.proofs.Common.{◌≡◌, ◌∙◌, List, [], ◌∷◌, map, Option, refl, sym, ap, subst}
use Rattle.gl_calculus.specs.Computation.Lists.{AreDistinct}
use Rattle.gl_calculus.specs.Grid.Grid.{Addr}
use Rattle.gl_calculus.specs.Formulas.Formula as F
use Rattle.gl_calculus.specs.Edits.Replicas as R
use Rattle.gl_calculus.specs.Edits.Steps as E
use Rattle.gl_calculus.specs.Edits.Steps.{befores}
use Rattle.gl_cells.specs.declared.content.Content.{Content}
use Rattle.gl_undo.specs.declared.changes.Change.{Change}
use Rattle.gl_undo.specs.declared.changes.Side.{Side}
use Rattle.gl_undo.specs.declared.changes.Side.TheVariants as side
use Rattle.gl_undo.specs.Sides.{changes_on}
use Rattle.gl_undo.specs.View.{step_tree, changes_tree}

-- the addresses of plain changes, of listed contents, and of a step
abbrev plain_places : R.Changes → List Addr
plain_places cs = map (λ (c : Addr × Option F.Content). c.0) cs

abbrev listed_places : List (Addr × Option Content) → List Addr
listed_places vs = map (λ (c : Addr × Option Content). c.0) vs

abbrev step_places : List Change → List Addr
step_places xs = map (λ (c : Change). c.place) xs

of_listed : (vs : List (Addr × Option Content)) → plain_places (changes_tree vs) ≡ listed_places vs
of_listed [] = refl
of_listed (v ∷ vs) = ap (λ bs. v.0 ∷ bs) (of_listed vs)

on : (side : Side) (xs : List Change) → plain_places (changes_on side (step_tree xs)) ≡ step_places xs
on side [] = refl
on side (x ∷ xs) = ap (λ bs. x.place ∷ bs) (on side xs)

of_step : (S : F.Cells) (vs : List (Addr × Option Content)) → plain_places (befores (E.step_of S (changes_tree vs))) ≡ listed_places vs
of_step S [] = refl
of_step S (v ∷ vs) = ap (λ bs. v.0 ∷ bs) (of_step S vs)

pub apart_on : (side : Side) (vs : List (Addr × Option Content)) (xs : List Change) → changes_tree vs ≡ changes_on side (step_tree xs) → AreDistinct (step_places xs) → AreDistinct (listed_places vs)
apart_on side vs xs e h = subst AreDistinct (sym (sym (of_listed vs) ∙ ap plain_places e ∙ on side xs)) h

pub apart_step : (S : F.Cells) (vs : List (Addr × Option Content)) (xs : List Change) → step_tree xs ≡ E.step_of S (changes_tree vs) → AreDistinct (listed_places vs) → AreDistinct (step_places xs)
apart_step S vs xs e h = subst AreDistinct (sym (sym (on side.Before xs) ∙ ap (λ d. plain_places (befores d)) e ∙ of_step S vs)) h
