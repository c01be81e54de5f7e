-- Values one under the other, and side by side.
use Rattle.std.specs.Prelude.{ℕ, ◌+◌, ◌-◌, ◌≤◌, max, nat_lt, List, [], ◌∷◌, All, IsTrue, length, if◌then◌else◌}
use Rattle.gl_calculus.specs.Values.ErrKind.{ErrKind}
use Rattle.gl_calculus.specs.Values.Value.{Scalar, Value}
use Rattle.gl_calculus.specs.Grid.Limits.{max_arguments}
use Rattle.gl_calculus.specs.Values.Lift.{item, shape}
use Rattle.gl_calculus.specs.Evaluation.Sound.{is_sound_value}
use Rattle.gl_value.specs.View.{value_tree}
use Rattle.gl_value.specs.declared.Value as Code
use Rattle.gl_arrays.specs.declared.stacks.Axis.{Axis}
use Rattle.gl_arrays.specs.declared.stacks.Axis.TheVariants.{Rows, Columns}

-- at least one value, and not too many, which are sound
abbrev pub AreStackable : List Code.Value → Type 0
AreStackable vs = (1 ≤ length vs) × (length vs ≤ max_arguments) × All (λ v. IsTrue (is_sound_value (value_tree v))) vs

-- how many rows or columns a value has
abbrev pub extent : Axis → Value → ℕ
extent Rows v = (shape v).rows
extent Columns v = (shape v).cols

abbrev pub total : Axis → List Value → ℕ
total axis [] = 0
total axis (v ∷ vs) = extent axis v + total axis vs

abbrev pub greatest : Axis → List Value → ℕ
greatest axis [] = 0
greatest axis (v ∷ vs) = max (extent axis v) (greatest axis vs)

-- the element at a place along the axis and one across it
abbrev pub item_along : Axis → Value → ℕ → ℕ → Scalar
item_along Rows v at across = item v at across
item_along Columns v at across = item v across at

-- the same of values that stand along the axis, one after the other
abbrev pub stacked : Axis → List Value → ℕ → ℕ → Scalar
stacked axis [] at across = Scalar.Err ErrKind.Na
stacked axis (v ∷ vs) at across = if nat_lt at (extent axis v) then item_along axis v at across else stacked axis vs (at - extent axis v) across
