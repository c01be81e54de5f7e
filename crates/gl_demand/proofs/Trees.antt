-- The evaluations of formulas by their kinds.
use Rattle.std.proofs.Common.{◌≡◌, ap, sym, ◌∙◌}
use Rattle.std.specs.Rc.{rc_str_bytes}
use Rattle.std.specs.declared.alloc.Global.{Global}
use Rattle.std.specs.declared.boxed.Box.{Box}
use Rattle.std.specs.declared.rc.RcStr.{RcStr}
use Rattle.gl_calculus.specs.Grid.Grid.{Addr, Range}
use Rattle.gl_calculus.specs.Values.Value as V
use Rattle.gl_calculus.specs.Values.Value.{Frame}
use Rattle.gl_calculus.specs.Formulas.Formula as F
use Rattle.gl_calculus.specs.Formulas.Formula.{Version}
use Rattle.gl_calculus.specs.Values.Lift.{lift1, lift2}
use Rattle.gl_calculus.specs.Values.Operators.{negate, compare}
use Rattle.gl_calculus.specs.Evaluation.Key.{Eval, give, ◌>>=◌}
use Rattle.gl_calculus.specs.Evaluation.Reference.{at_address, at_range, spill_of}
use Rattle.gl_calculus.specs.Evaluation.Evaluation as E
use Rattle.gl_ast.specs.View.{formula_tree, op_tree}
use Rattle.gl_ast.specs.Forms.{formula_tree-Text, formula_tree-At, formula_tree-Spill, formula_tree-Area, formula_tree-Neg, formula_tree-Compare}
use Rattle.gl_ast.specs.declared.Op.{Op}
use Rattle.gl_ast.specs.declared.Formula.{Formula}
use Rattle.gl_ast.specs.declared.Formula.TheVariants as form

module _ (v : Version) (e : Frame) (bs : E.Bindings) where
  abbrev value : F.Formula → Eval V.Value
  value f = E.eval v e bs f

  pub text_is : (f : Formula) (t : RcStr Global) → f ≡ form.Text t → value (formula_tree f) ≡ give (V.Value.One (V.Scalar.Text (rc_str_bytes t)))
  text_is f t i = ap (λ x. value (formula_tree x)) i ∙ ap value (formula_tree-Text t)

  pub at_is : (f : Formula) (a : Addr) → f ≡ form.At a → value (formula_tree f) ≡ at_address e a
  at_is f a i = ap (λ x. value (formula_tree x)) i ∙ ap value (formula_tree-At a)

  pub spill_is : (f : Formula) (a : Addr) → f ≡ form.Spill a → value (formula_tree f) ≡ spill_of e a
  spill_is f a i = ap (λ x. value (formula_tree x)) i ∙ ap value (formula_tree-Spill a)

  pub area_is : (f : Formula) (r : Range) → f ≡ form.Area r → value (formula_tree f) ≡ at_range e r
  area_is f r i = ap (λ x. value (formula_tree x)) i ∙ ap value (formula_tree-Area r)

  pub neg_is : (f : Formula) (g : Box Formula Global) (h : Formula) → f ≡ form.Neg g → h ≡ g.value → value (formula_tree f) ≡ (value (formula_tree h) >>= λ u. give (lift1 negate u))
  neg_is f g h i j = ap (λ x. value (formula_tree x)) i ∙ ap value (formula_tree-Neg g) ∙ ap (λ x. value (F.Formula.Neg (formula_tree x))) (sym j)

  pub compare_is : (f : Formula) (o : Op) (g h : Box Formula Global) (x y : Formula) → f ≡ form.Compare o g h → x ≡ g.value → y ≡ h.value
      → value (formula_tree f) ≡ (value (formula_tree x) >>= λ u. value (formula_tree y) >>= λ z. give (lift2 (compare (op_tree o)) u z))
  compare_is f o g h x y i j k =
      ap (λ z. value (formula_tree z)) i ∙ ap value (formula_tree-Compare o g h)
      ∙ ap (λ z. value (F.Formula.Compare (op_tree o) (formula_tree z) (formula_tree h.value))) (sym j)
      ∙ ap (λ z. value (F.Formula.Compare (op_tree o) (formula_tree x) (formula_tree z))) (sym k)
