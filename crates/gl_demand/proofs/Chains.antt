-- A chain of operands, taken one after another.
use Rattle.std.proofs.Common.{◌≡◌, List, [], ◌∷◌, Ok, Err, ap, sym, ◌∙◌}
use Rattle.std.specs.declared.alloc.Global.{Global}
use Rattle.std.specs.declared.boxed.Box.{Box}
use Rattle.std.specs.declared.vec.Vec.{Vec}
use Rattle.gl_calculus.specs.Computation.Query.{Ready}
use Rattle.gl_calculus.specs.Values.Value as V
use Rattle.gl_calculus.specs.Values.Value.{Frame}
use Rattle.gl_calculus.specs.Formulas.Formula as F
use Rattle.gl_calculus.specs.Formulas.Formula.{Version}
use Rattle.gl_calculus.specs.Values.Lift.{lift2}
use Rattle.gl_calculus.specs.Values.Operators.{operate}
use Rattle.gl_calculus.specs.Evaluation.Key.{Eval, ◌>>=◌}
use Rattle.gl_calculus.specs.Evaluation.Evaluation as E
use Rattle.gl_ast.specs.View.{formula_tree, op_tree, level_tree, operand_trees}
use Rattle.gl_ast.specs.Forms.{formula_tree-Chain}
use Rattle.gl_ast.specs.declared.Op.{Op}
use Rattle.gl_ast.specs.declared.Level.{Level}
use Rattle.gl_ast.specs.declared.Formula.{Formula}
use Rattle.gl_ast.specs.declared.Formula.TheVariants as form
use Rattle.gl_value.specs.View.{value_tree}
use Rattle.gl_value.specs.declared.Value.{Value}
use Rattle.gl_demand.specs.Walk.{Inputs, walk}
use Rattle.gl_demand.specs.Walks.{Walks, trail_tree}
use Rattle.gl_demand.specs.declared.trail.Trail as Code
use Rattle.gl_demand.specs.declared.trail.Halt.{Halt}
use Rattle.gl_demand.proofs.Walking.{Same, now, same_part, same_then, same_on, halts, later}

module _ (w : Inputs) (v : Version) (e : Frame) (bs : E.Bindings) where
  abbrev value : F.Formula → Eval V.Value
  value f = E.eval v e bs f

  abbrev rest_value : V.Value → F.Operands → Eval V.Value
  rest_value u os = E.eval_rest v e bs u os

  pub chain_is : (f : Formula) (l : Level) (g : Box Formula Global) (os : Vec (Op × Formula) Global) (h : Formula) → f ≡ form.Chain l g os → h ≡ g.value
      → value (formula_tree f) ≡ (value (formula_tree h) >>= λ u. rest_value u (operand_trees os.items))
  chain_is f l g os h i j =
      ap (λ x. value (formula_tree x)) i ∙ ap value (formula_tree-Chain l g os)
      ∙ ap (λ x. value (F.Formula.Chain (level_tree l) (formula_tree x) (operand_trees os.items))) (sym j)

  pub chain_start : (f : Formula) (l : Level) (g : Box Formula Global) (os : Vec (Op × Formula) Global) (h : Formula) (u : Value) (old mid : Code.Trail) → f ≡ form.Chain l g os → h ≡ g.value
      → Walks w (value (formula_tree h)) value_tree old (Ok u) mid → Same w (value (formula_tree f)) (trail_tree old) (rest_value (value_tree u) (operand_trees os.items)) (trail_tree mid)
  chain_start f l g os h u old mid i j m =
      same_then w (value (formula_tree f)) (value (formula_tree h) >>= λ z. rest_value z (operand_trees os.items)) (rest_value (value_tree u) (operand_trees os.items)) (trail_tree old) (trail_tree old) (trail_tree mid)
      (same_part w (value (formula_tree f)) (value (formula_tree h) >>= λ z. rest_value z (operand_trees os.items)) (trail_tree old) (chain_is f l g os h i j))
      (same_on w (λ z. rest_value z (operand_trees os.items)) (value (formula_tree h)) (trail_tree old) (value_tree u) (trail_tree mid) m)

  module _ (p : Eval V.Value) (start old new : Code.Trail) (os rest : List (Op × Formula)) (o : Op) (h : Formula) (u : Value) (inv : Same w p (trail_tree start) (rest_value (value_tree u) (operand_trees os)) (trail_tree old)) (split : os ≡ (o, h) ∷ rest) where
    abbrev on : V.Value → Eval V.Value
    on z = rest_value (lift2 (operate (op_tree o)) (value_tree u) z) (operand_trees rest)

    opened : Same w p (trail_tree start) (value (formula_tree h) >>= on) (trail_tree old)
    opened = same_then w p (rest_value (value_tree u) (operand_trees os)) (value (formula_tree h) >>= on) (trail_tree start) (trail_tree old) (trail_tree old) inv
        (same_part w (rest_value (value_tree u) (operand_trees os)) (value (formula_tree h) >>= on) (trail_tree old) (ap (λ l. rest_value (value_tree u) (operand_trees l)) split))

    pub chain_next : (y x : Value) → Walks w (value (formula_tree h)) value_tree old (Ok y) new → value_tree x ≡ lift2 (operate (op_tree o)) (value_tree u) (value_tree y)
        → Same w p (trail_tree start) (rest_value (value_tree x) (operand_trees rest)) (trail_tree new)
    chain_next y x m q =
        same_then w p (value (formula_tree h) >>= on) (rest_value (value_tree x) (operand_trees rest)) (trail_tree start) (trail_tree old) (trail_tree new) opened
        (same_then w (value (formula_tree h) >>= on) (on (value_tree y)) (rest_value (value_tree x) (operand_trees rest)) (trail_tree old) (trail_tree new) (trail_tree new)
        (same_on w on (value (formula_tree h)) (trail_tree old) (value_tree y) (trail_tree new) m)
        (same_part w (on (value_tree y)) (rest_value (value_tree x) (operand_trees rest)) (trail_tree new) (ap (λ z. rest_value z (operand_trees rest)) (sym q))))

    pub chain_halts : (n : Halt) → Walks w (value (formula_tree h)) value_tree old (Err n) new → Walks w p value_tree start (Err n) new
    chain_halts n m = later w p (value (formula_tree h) >>= on) value_tree start old new (Err n) opened (halts w on (value (formula_tree h)) value_tree value_tree old new n m)

  pub chain_end : (p : Eval V.Value) (start old : Code.Trail) (os : List (Op × Formula)) (u : Value) → Same w p (trail_tree start) (rest_value (value_tree u) (operand_trees os)) (trail_tree old) → os ≡ []
      → walk w p (trail_tree start) ≡ (Ready (Ok (value_tree u)), trail_tree old)
  chain_end p start old os u inv e = now w p (rest_value (value_tree u) (operand_trees os)) (trail_tree start) (trail_tree old) inv ∙ ap (λ l. walk w (rest_value (value_tree u) (operand_trees l)) (trail_tree old)) e
