use Rattle.std.proofs.Common.{subst}
use Rattle.gl_calc.specs.Places.{ArePlaces}
use Rattle.gl_calc.proofs.placing.places_with.Goals as goal

pub returns-in-Some : goal.returns-in-Some
returns-in-Some c = λ S x o e k. c.put_place.ensures S x o e (subst (ArePlaces S) c.in-Some.is k)
