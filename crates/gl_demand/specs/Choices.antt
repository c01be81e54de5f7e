-- What is left of IF and of IFERROR once the first argument is known.
use Rattle.gl_calculus.specs.Values.Value as V
use Rattle.gl_calculus.specs.Values.Lift.{lift2, lift3}
use Rattle.gl_calculus.specs.Evaluation.Key.{Eval, give, ◌>>=◌}
use Rattle.gl_calculus.specs.Evaluation.Evaluation.{chosen, in_place_of_error}
use Rattle.gl_value.specs.View.{error_tree}
use Rattle.gl_demand.specs.declared.choosing.Choice.{Choice}
use Rattle.gl_demand.specs.declared.choosing.Choice.TheVariants as choice
use Rattle.gl_demand.specs.declared.choosing.Replacement.{Replacement}
use Rattle.gl_demand.specs.declared.choosing.Replacement.TheVariants as replacement

-- one of two evaluations, an error, or both and then the choice at each element
abbrev pub by_choice : Choice → V.Value → Eval V.Value → Eval V.Value → Eval V.Value
by_choice choice.First c p q = p
by_choice choice.Second c p q = q
by_choice (choice.Fails k) c p q = give (V.Value.One (V.Scalar.Err (error_tree k)))
by_choice choice.Each c p q = p >>= λ u. q >>= λ v. give (lift3 chosen c u v)

-- the value itself, the other evaluation, or the replacement at each element
abbrev pub by_replacement : Replacement → V.Value → Eval V.Value → Eval V.Value
by_replacement replacement.Own v q = give v
by_replacement replacement.Other v q = q
by_replacement replacement.Each v q = q >>= λ u. give (lift2 in_place_of_error v u)
