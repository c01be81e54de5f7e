-- What was being read, as the definitions have it, and the key that an address demands.
use Rattle.std.specs.Prelude.{List, [], ◌∷◌, Option, Some, None}
use Rattle.gl_calculus.specs.Evaluation.Key as K
use Rattle.gl_machine.specs.Ahead.Reading as A
use Rattle.gl_value.specs.View.{frame_tree}
use Rattle.gl_demand.specs.declared.ahead.Ahead.{Ahead}
use Rattle.gl_demand.specs.declared.ahead.Ahead.TheVariants.{Nothing, Area, Round, Own}

abbrev pub ahead_tree : Ahead → A.Ahead
ahead_tree Nothing = A.Nothing
ahead_tree (Area x) = A.Area (frame_tree x.env) x.range
ahead_tree (Round x) = A.Round (frame_tree x.env) x.range
ahead_tree (Own x) = A.Own (frame_tree x.env) x.address

-- the list of the key that there is, if any
abbrev pub one_key : Option K.Key → List K.Key
one_key None = []
one_key (Some k) = k ∷ []
