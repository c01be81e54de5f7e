-- Each condition on formulas is needed: without it a formula has a value that isn't sound.
use Rattle.std.proofs.Common.{◌≡◌, false, [], refl}
use Rattle.gl_calculus.specs.Grid.Grid.{addr, range, extents}
use Rattle.gl_calculus.specs.Values.Value.{Array, no_scalar}
use Rattle.gl_calculus.specs.Formulas.Formula.{Formula, no_formula}
use Rattle.gl_calculus.specs.Formulas.Formula as F
use Rattle.gl_calculus.specs.Values.Functions.{apply}
use Rattle.gl_calculus.specs.Evaluation.Sound.{is_sound_value}
use Rattle.gl_calculus.specs.Formulas.Fit.{is_fit}

-- a stack of nothing
no_stack : is_fit (F.Formula.Call F.Fun.VStack no_formula) ≡ false
no_stack = refl

empty_stack : is_sound_value (apply F.Fun.VStack []) ≡ false
unfolding apply
empty_stack = refl

-- a range whose last corner comes first has no cell
no_area : is_fit (F.Formula.Area (range (addr 1 2) (addr 1 1))) ≡ false
no_area = refl

empty_area : is_sound_value (Array (extents (range (addr 1 2) (addr 1 1))) no_scalar) ≡ false
empty_area = refl
