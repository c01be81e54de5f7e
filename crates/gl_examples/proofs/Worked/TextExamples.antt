-- Printed texts, by computation.
use Rattle.std.proofs.Common.{◌≡◌, refl}
use Rattle.std.specs.Prelude.{codes}
use Rattle.std.specs.Fmt.{digits}
use Rattle.gl_calculus.specs.Formulas.Formula as F
use Rattle.gl_calculus.specs.Formulas.Formula.{Formula}
use Rattle.gl_language.specs.Texts.Text.{formula_text}
use Rattle.gl_examples.proofs.Worked.Sheets.{int, plus, times}

canonical_first : formula_text (plus (int 1) (times (int 2) (int 3))) ≡ codes "1+2*3"
unfolding digits
canonical_first = refl

canonical_second : formula_text (plus (plus (int 1) (int 2)) (int 3)) ≡ codes "(1+2)+3"
unfolding digits
canonical_second = refl

eight : formula_text (F.Formula.Neg (F.Formula.Neg (F.Formula.Neg (F.Formula.Neg (F.Formula.Neg (F.Formula.Neg (F.Formula.Neg (F.Formula.Neg (F.Formula.Neg (int 1)))))))))) ≡ codes "--------(-1)"
unfolding digits
eight = refl
