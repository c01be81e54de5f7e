-- The operators on numbers are one form with four rules.
use Rattle.std.proofs.Common.{◌≡◌, IsTrue, refl}
use Rattle.gl_calculus.specs.Values.Operators as O
use Rattle.gl_calculus.specs.Formulas.Formula as F
use Rattle.gl_calculus.specs.Values.Value as V
use Rattle.gl_scalar.specs.Rules.{is_arithmetic, calculated}

pub operate_is : (op : F.Op) (x y : V.Scalar) → IsTrue (is_arithmetic op) → O.operate op x y ≡ O.numeric (calculated op) x y
operate_is F.Op.Add x y h = refl
operate_is F.Op.Sub x y h = refl
operate_is F.Op.Mul x y h = refl
operate_is F.Op.Div x y h = refl
operate_is F.Op.Eq x y h = absurd (cc h)
operate_is F.Op.Ne x y h = absurd (cc h)
operate_is F.Op.Lt x y h = absurd (cc h)
operate_is F.Op.Le x y h = absurd (cc h)
operate_is F.Op.Gt x y h = absurd (cc h)
operate_is F.Op.Ge x y h = absurd (cc h)
operate_is F.Op.Join x y h = absurd (cc h)

pub ruleset arithmetic = (operate_is)
