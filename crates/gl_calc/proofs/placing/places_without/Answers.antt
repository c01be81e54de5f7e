use Rattle.std.proofs.Common.{List, not, filter, ap, sym, subst, ◌∙◌}
use Rattle.gl_calculus.specs.Grid.Grid.{Addr, covers}
use Rattle.gl_calc.specs.Places.{ArePlaces}
use Rattle.gl_calc.proofs.Places.{without_covered}
use Rattle.gl_calc.proofs.placing.places_without.Goals as goal

pub returns-in-Some : goal.returns-in-Some
returns-in-Some c = λ S k. c.outside.ensures ∙ ap (λ (xs : List Addr). filter (λ a. not (covers c.args.r.now a)) xs) (subst (ArePlaces S) c.in-Some.is k) ∙ sym (without_covered S c.args.r.now)
