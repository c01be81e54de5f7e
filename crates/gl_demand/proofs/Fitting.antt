-- The parts of fit formulas are fit, and fit calls have the arguments that their functions take.
use Rattle.std.proofs.Common.{◌≡◌, ℕ, zero, suc, ◌<◌, ◌≤◌, true, false, List, [], ◌∷◌, length, get_or, IsTrue, refl, ap, sym, subst, ◌∙◌, arith}
use Rattle.std.specs.List.{All}
use Rattle.std.specs.Rc.{rc_str_bytes}
use Rattle.std.proofs.lemmas.Bool.{and_parts, leb-true}
use Rattle.std.specs.declared.alloc.Global.{Global}
use Rattle.std.specs.declared.boxed.Box.{Box}
use Rattle.std.specs.declared.rc.RcStr.{RcStr}
use Rattle.std.specs.declared.vec.Vec.{Vec}
use Rattle.gl_calculus.specs.Grid.Grid.{Range, extents}
use Rattle.gl_calculus.specs.Grid.Limits.{max_arguments}
use Rattle.gl_calculus.specs.Evaluation.Sound.{is_size, is_sound_scalar}
use Rattle.gl_calculus.specs.Formulas.Formula as F
use Rattle.gl_calculus.specs.Formulas.Fit.{is_fit, are_fit, are_fit_operands, number_of, takes, takes_any}
use Rattle.gl_calculus.specs.Values.Value as V
use Rattle.gl_ast.specs.View.{formula_tree, argument_trees, operand_trees, op_tree, level_tree, fun_tree}
use Rattle.gl_ast.specs.Forms.{formula_tree-Text, formula_tree-Area, formula_tree-Neg, formula_tree-Chain, formula_tree-Compare, formula_tree-Call, formula_tree-Let}
use Rattle.gl_ast.specs.declared.Fun.{Fun}
use Rattle.gl_ast.specs.declared.Level.{Level}
use Rattle.gl_ast.specs.declared.Op.{Op}
use Rattle.gl_ast.specs.declared.Formula.{Formula}
use Rattle.gl_ast.specs.declared.Formula.TheVariants as form
use Rattle.gl_demand.specs.Fit.{IsFit, AreFit, Takes}

-- ---- lists of formulas

number_is : (xs : List Formula) → number_of (argument_trees xs) ≡ length xs
number_is [] = refl
number_is (x ∷ xs) = ap suc (number_is xs)

all_fit : (xs : List Formula) → IsTrue (are_fit (argument_trees xs)) → AreFit xs
all_fit [] h k d l = absurd (omega arith)
all_fit (x ∷ xs) h zero d l = (and_parts (is_fit (formula_tree x)) (are_fit (argument_trees xs)) h).0
all_fit (x ∷ xs) h (suc k) d l = all_fit xs (and_parts (is_fit (formula_tree x)) (are_fit (argument_trees xs)) h).1 k d (omega arith)

abbrev pub AreFitOperands : List (Op × Formula) → Type 0
AreFitOperands os = All (λ o. IsFit o.1) os

operands_fit : (os : List (Op × Formula)) → IsTrue (are_fit_operands (operand_trees os)) → AreFitOperands os
operands_fit [] h k d l = absurd (omega arith)
operands_fit (o ∷ os) h zero d l = (and_parts (is_fit (formula_tree o.1)) (are_fit_operands (operand_trees os)) h).0
operands_fit (o ∷ os) h (suc k) d l = operands_fit os (and_parts (is_fit (formula_tree o.1)) (are_fit_operands (operand_trees os)) h).1 k d (omega arith)

pub item_fit : (xs : List Formula) (k : ℕ) (x : Formula) → AreFit xs → k < length xs → x ≡ get_or xs k x → IsFit x
item_fit xs k x h l is = subst IsFit (sym is) (h k x l)

pub operand_fit : (os : List (Op × Formula)) (k : ℕ) (o : Op × Formula) → AreFitOperands os → k < length os → o ≡ get_or os k o → IsFit o.1
operand_fit os k o h l is = subst (λ z. IsFit z.1) (sym is) (h k o l)

-- ---- the kinds of formulas

seen : (f : Formula) (t : F.Formula) → formula_tree f ≡ t → IsFit f → IsTrue (is_fit t)
seen f t i h = subst (λ z. IsTrue (is_fit z)) i h

pub text_short : (f : Formula) (t : RcStr Global) → f ≡ form.Text t → IsFit f → IsTrue (is_sound_scalar (V.Scalar.Text (rc_str_bytes t)))
text_short f t i h = seen f (F.Formula.Text (rc_str_bytes t)) (ap formula_tree i ∙ formula_tree-Text t) h

pub area_small : (f : Formula) (r : Range) → f ≡ form.Area r → IsFit f → IsTrue (is_size (extents r))
area_small f r i h = seen f (F.Formula.Area r) (ap formula_tree i ∙ formula_tree-Area r) h

pub neg_fit : (f : Formula) (g : Box Formula Global) (x : Formula) → f ≡ form.Neg g → x ≡ g.value → IsFit f → IsFit x
neg_fit f g x i j h = subst IsFit (sym j) (seen f (F.Formula.Neg (formula_tree g.value)) (ap formula_tree i ∙ formula_tree-Neg g) h)

module _ (f : Formula) (o : Op) (g k : Box Formula Global) (i : f ≡ form.Compare o g k) (h : IsFit f) where
  compare_parts : IsFit g.value × IsFit k.value
  compare_parts = and_parts (is_fit (formula_tree g.value)) (is_fit (formula_tree k.value)) (seen f (F.Formula.Compare (op_tree o) (formula_tree g.value) (formula_tree k.value)) (ap formula_tree i ∙ formula_tree-Compare o g k) h)

  pub left_fit : (x : Formula) → x ≡ g.value → IsFit x
  left_fit x j = subst IsFit (sym j) compare_parts.0

  pub right_fit : (x : Formula) → x ≡ k.value → IsFit x
  right_fit x j = subst IsFit (sym j) compare_parts.1

module _ (f : Formula) (l : Level) (g : Box Formula Global) (os : Vec (Op × Formula) Global) (i : f ≡ form.Chain l g os) (h : IsFit f) where
  chain_parts : IsFit g.value × IsTrue (are_fit_operands (operand_trees os.items))
  chain_parts = and_parts (is_fit (formula_tree g.value)) (are_fit_operands (operand_trees os.items)) (seen f (F.Formula.Chain (level_tree l) (formula_tree g.value) (operand_trees os.items)) (ap formula_tree i ∙ formula_tree-Chain l g os) h)

  pub first_fit : (x : Formula) → x ≡ g.value → IsFit x
  first_fit x j = subst IsFit (sym j) chain_parts.0

  pub rest_fit : (xs : List (Op × Formula)) → xs ≡ os.items → AreFitOperands xs
  rest_fit xs j = subst AreFitOperands (sym j) (operands_fit os.items chain_parts.1)

module _ (f : Formula) (v : RcStr Global) (g k : Box Formula Global) (i : f ≡ form.Let v g k) (h : IsFit f) where
  let_parts : IsFit g.value × IsFit k.value
  let_parts = and_parts (is_fit (formula_tree g.value)) (is_fit (formula_tree k.value)) (seen f (F.Formula.Let (rc_str_bytes v) (formula_tree g.value) (formula_tree k.value)) (ap formula_tree i ∙ formula_tree-Let v g k) h)

  pub bound_fit : (x : Formula) → x ≡ g.value → IsFit x
  bound_fit x j = subst IsFit (sym j) let_parts.0

  pub body_fit : (x : Formula) → x ≡ k.value → IsFit x
  body_fit x j = subst IsFit (sym j) let_parts.1

-- ---- calls

module _ (f : Formula) (g : Fun) (xs : Vec Formula Global) (ys : List Formula) (i : f ≡ form.Call g xs) (j : ys ≡ xs.items) (h : IsFit f) where
  call_parts : IsTrue (takes (fun_tree g) (argument_trees ys)) × IsTrue (are_fit (argument_trees ys))
  call_parts = and_parts (takes (fun_tree g) (argument_trees ys)) (are_fit (argument_trees ys))
      (seen f (F.Formula.Call (fun_tree g) (argument_trees ys)) (ap formula_tree i ∙ formula_tree-Call g xs ∙ ap (λ l. F.Formula.Call (fun_tree g) (argument_trees l)) (sym j)) h)

  pub call_takes : Takes (fun_tree g) (length ys)
  call_takes = (argument_trees ys, number_is ys, call_parts.0)

  pub arguments_fit : AreFit ys
  arguments_fit = all_fit ys call_parts.1

-- a function of a number of arguments of its own may be called with any
pub fixed_takes : (f : F.Fun) (xs : List Formula) → takes_any f ≡ false → Takes f (length xs)
fixed_takes F.Fun.Sum xs h = absurd (cc h)
fixed_takes F.Fun.Count xs h = absurd (cc h)
fixed_takes F.Fun.Min xs h = absurd (cc h)
fixed_takes F.Fun.Max xs h = absurd (cc h)
fixed_takes F.Fun.And xs h = absurd (cc h)
fixed_takes F.Fun.Or xs h = absurd (cc h)
fixed_takes F.Fun.HStack xs h = absurd (cc h)
fixed_takes F.Fun.VStack xs h = absurd (cc h)
fixed_takes f xs h = (argument_trees xs, number_is xs, refl)

-- ---- the numbers of arguments that functions take

listed : (f : F.Fun) (xs : F.Formulas) → IsTrue (takes f xs) → takes_any f ≡ true → number_of xs ≤ max_arguments
listed F.Fun.Sum xs t h = leb-true (number_of xs) max_arguments t
listed F.Fun.Count xs t h = leb-true (number_of xs) max_arguments t
listed F.Fun.Min xs t h = leb-true (number_of xs) max_arguments t
listed F.Fun.Max xs t h = leb-true (number_of xs) max_arguments t
listed F.Fun.And xs t h = leb-true (number_of xs) max_arguments t
listed F.Fun.Or xs t h = leb-true (number_of xs) max_arguments t
listed F.Fun.HStack F.Formulas.no_formula t h = absurd (cc t)
listed F.Fun.HStack (F.Formulas.formula_and x xs) t h = leb-true (suc (number_of xs)) max_arguments t
listed F.Fun.VStack F.Formulas.no_formula t h = absurd (cc t)
listed F.Fun.VStack (F.Formulas.formula_and x xs) t h = leb-true (suc (number_of xs)) max_arguments t
listed f xs t h = absurd (cc h)

-- at most 16 where any number
pub few : (f : F.Fun) (n : ℕ) → Takes f n → takes_any f ≡ true → n ≤ max_arguments
few f n t h = subst (λ m. m ≤ max_arguments) t.1 (listed f t.0 t.2 h)

-- a stack is of one value or more
beside_some : (xs : F.Formulas) → IsTrue (takes F.Fun.HStack xs) → 1 ≤ number_of xs
beside_some F.Formulas.no_formula t = absurd (cc t)
beside_some (F.Formulas.formula_and x xs) t = omega arith

below_some : (xs : F.Formulas) → IsTrue (takes F.Fun.VStack xs) → 1 ≤ number_of xs
below_some F.Formulas.no_formula t = absurd (cc t)
below_some (F.Formulas.formula_and x xs) t = omega arith

pub some_beside : (n : ℕ) → Takes F.Fun.HStack n → 1 ≤ n
some_beside n t = subst (λ m. 1 ≤ m) t.1 (beside_some t.0 t.2)

pub some_below : (n : ℕ) → Takes F.Fun.VStack n → 1 ≤ n
some_below n t = subst (λ m. 1 ≤ m) t.1 (below_some t.0 t.2)
