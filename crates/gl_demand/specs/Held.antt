-- What an address holds in a frame, as the code finds it.
use Rattle.std.specs.Prelude.{Option, Some, None, IsTrue}
use Rattle.gl_calculus.specs.Grid.Grid.{Addr}
use Rattle.gl_calculus.specs.Values.Value as V
use Rattle.gl_calculus.specs.Values.Value.{Frame, Top, In, sheet_value}
use Rattle.gl_calculus.specs.Values.Sheet.{override_at}
use Rattle.gl_calculus.specs.Evaluation.Reference as R
use Rattle.gl_calculus.specs.Evaluation.Sound.{is_sound_value}
use Rattle.gl_calculus.specs.Formulas.Fit.{is_fit}
use Rattle.gl_ast.specs.View.{formula_tree}
use Rattle.gl_value.specs.View.{value_tree, scalar_tree}
use Rattle.gl_demand.specs.declared.held.Held.{Held}
use Rattle.gl_demand.specs.declared.held.Held.TheVariants.{Value, Scalar, Formula}

abbrev pub held_tree : Held → R.Held
held_tree (Value v) = R.Given (value_tree v.now)
held_tree (Scalar x) = R.Given (V.One (scalar_tree x.now))
held_tree (Formula f) = R.Computed (formula_tree f.now)

-- a value that is held is sound, and a formula is fit
abbrev pub IsSoundHeld : R.Held → Type 0
IsSoundHeld (R.Given v) = IsTrue (is_sound_value v)
IsSoundHeld (R.Computed f) = IsTrue (is_fit f)

abbrev pub or_else : Option V.Value → Option V.Value → Option V.Value
or_else (Some v) other = Some v
or_else None other = other

-- the value of the nearest override outward
abbrev pub override_in : Frame → Addr → Option V.Value
override_in Top a = None
override_in (In (sheet_value r os e k w) o) a = or_else (override_at os a) (override_in e a)
