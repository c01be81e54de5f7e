-- The elements of several values, one after the other.
use Rattle.std.specs.Prelude.{◌≤◌, List, ◌++◌, length, map, IsTrue}
use Rattle.std.specs.List.{All}
use Rattle.gl_calculus.specs.Grid.Limits.{max_arguments}
use Rattle.gl_calculus.specs.Values.Value as V
use Rattle.gl_calculus.specs.Evaluation.Sound.{is_sound_value}
use Rattle.gl_calculus.specs.Values.Functions.{all_elements}
use Rattle.gl_value.specs.View.{scalar_tree, value_tree}
use Rattle.gl_value.specs.declared.Scalar.{Scalar}
use Rattle.gl_value.specs.declared.Value.{Value}

abbrev pub AreSound : List Value → Type 0
AreSound vs = All (λ v. IsTrue (is_sound_value (value_tree v))) vs

-- sound values, and not too many
abbrev pub AreArguments : List Value → Type 0
AreArguments vs = (length vs ≤ max_arguments) × AreSound vs

-- all elements of the values, in order
abbrev pub elements_of : List Value → List V.Scalar
elements_of vs = all_elements (map value_tree vs)

-- what is left of the elements of one value, then those of the values behind it
abbrev pub elements_left : List Scalar → List Value → List V.Scalar
elements_left items vs = map scalar_tree items ++ elements_of vs
