-- The derived `==` of formulas is the test of their trees.
use Rattle.std.proofs.Common.{◌≡◌, Bool as Truth, true, false, ◌&&◌, ◌==◌, List, [], ◌∷◌, map, refl, subst, ap, sym, ◌∙◌}
use denote.Enum.Declared.{tag_of}
use denote.Hole.Carrier as carrier
use lib.Pointwise.{pointwise}
use Rattle.gl_ast.specs.Ints.{int_test}
use Rattle.gl_ast.specs.Same.{fun_place, same_op, same_level, same_fun, same_formula, same_formulas, same_operands}
use Rattle.gl_calculus.specs.Values.Same.{same_bool}
use Rattle.gl_ast.specs.View.{level_tree, op_tree, fun_tree, formula_tree, argument_trees, operand_trees, formula_step as tree_step}
use Rattle.gl_calculus.specs.Formulas.Formula as F
use Rattle.gl_ast.specs.declared.Level.{Level}
use Rattle.gl_ast.specs.declared.Level.TheVariants as level
use Rattle.gl_ast.specs.declared.Op.{Op}
use Rattle.gl_ast.specs.declared.Op.TheVariants as op
use Rattle.gl_ast.specs.declared.Fun.{Fun}
use Rattle.gl_ast.specs.declared.Fun.TheVariants as fun
use Rattle.gl_ast.specs.declared.Formula.{Formula, roll-Formula, out-Formula, roll-out-Formula, map-Formula, ind-Formula, fold-roll-Formula}
use Rattle.gl_ast.specs.declared.Formula.TheBlock.{seen-the_row-Formula-Chain-2-2-0, seen-the_row-Formula-1}
use Rattle.gl_ast.specs.declared.Formula.TheOpen.{Formula-F}
use Rattle.gl_ast.specs.contracts.FormulaPartialEq.TheImpl.{ghosts as formula}
use Rattle.gl_ast.specs.contracts.FormulaPartialEq.TheImpl.Laws.{is as formula_is, unfolded}
use Rattle.std.specs.contracts.prelude.BoolPartialEq.TheImpl.{ghosts as truth_eq}
use Rattle.gl_ast.specs.contracts.LevelPartialEq.TheImpl.{ghosts as level_eq}
use Rattle.gl_ast.specs.contracts.OpPartialEq.TheImpl.{ghosts as op_eq}
use Rattle.gl_ast.specs.contracts.FunPartialEq.TheImpl.{ghosts as fun_eq}
use Rattle.gl_ast.specs.contracts.Fun.{the_type as fun_type}

level_test : (l m : Level) → level_eq.eq l m ≡ same_level (level_tree l) (level_tree m)
level_test level.Cat level.Cat = refl
level_test level.Sum level.Sum = refl
level_test level.Prod level.Prod = refl
level_test _ _ = refl

op_test : (o p : Op) → op_eq.eq o p ≡ same_op (op_tree o) (op_tree p)
op_test op.Eq op.Eq = refl
op_test op.Ne op.Ne = refl
op_test op.Lt op.Lt = refl
op_test op.Le op.Le = refl
op_test op.Gt op.Gt = refl
op_test op.Ge op.Ge = refl
op_test op.Join op.Join = refl
op_test op.Add op.Add = refl
op_test op.Sub op.Sub = refl
op_test op.Mul op.Mul = refl
op_test op.Div op.Div = refl
op_test _ _ = refl

-- the derived test of functions is that of their places
fun_tag : (f : Fun) → tag_of fun_type f ≡ fun_place (fun_tree f)
fun_tag fun.Sum = refl
fun_tag fun.Count = refl
fun_tag fun.Min = refl
fun_tag fun.Max = refl
fun_tag fun.And = refl
fun_tag fun.Or = refl
fun_tag fun.Not = refl
fun_tag fun.If = refl
fun_tag fun.IfError = refl
fun_tag fun.IsError = refl
fun_tag fun.IsBlank = refl
fun_tag fun.Abs = refl
fun_tag fun.Mod = refl
fun_tag fun.Len = refl
fun_tag fun.Left = refl
fun_tag fun.Right = refl
fun_tag fun.Rows = refl
fun_tag fun.Columns = refl
fun_tag fun.Index = refl
fun_tag fun.Sequence = refl
fun_tag fun.Transpose = refl
fun_tag fun.Take = refl
fun_tag fun.Drop = refl
fun_tag fun.HStack = refl
fun_tag fun.VStack = refl
fun_tag fun.Filter = refl
fun_tag fun.Unique = refl
fun_tag fun.Lookup = refl
fun_tag fun.Na = refl
fun_tag fun.Sheet = refl
fun_tag fun.Update = refl
fun_tag fun.View = refl
fun_tag fun.G = refl
fun_tag fun.This = refl

fun_test : (f g : Fun) → fun_eq.eq f g ≡ same_fun (fun_tree f) (fun_tree g)
fun_test f g = ap (λ n. n == tag_of fun_type g) (fun_tag f) ∙ ap (λ n. fun_place (fun_tree f) == n) (fun_tag g)

truth_test : (a b : Truth) → truth_eq.eq a b ≡ same_bool a b
truth_test true true = refl
truth_test true false = refl
truth_test false true = refl
truth_test false false = refl

-- what is claimed of a formula: its test agrees with that of the trees, at every other formula
abbrev P : Formula → Type 0
P x = (y : Formula) → formula.eq x y ≡ same_formula (formula_tree x) (formula_tree y)

abbrev S : Type 0
S = (x : Formula) × P x

abbrev layer_of : Formula-F S → Formula-F Formula
layer_of l = map-Formula S Formula (λ e. e.0) l

abbrev formula_of : Formula-F S → Formula
formula_of l = roll-Formula (layer_of l)

abbrev layer_tree : Formula-F Formula → F.Formula
layer_tree x = tree_step (map-Formula Formula F.Formula formula_tree x)

abbrev formulas_of : List S → List Formula
formulas_of ls = map (λ e. e.0) ls

arguments_eq : (ls : List S) (ys : List Formula) → pointwise formula.eq (formulas_of ls) ys ≡ same_formulas (argument_trees (formulas_of ls)) (argument_trees ys)
arguments_eq [] [] = refl
arguments_eq [] (y ∷ ys) = refl
arguments_eq (x ∷ xs) [] = refl
arguments_eq (x ∷ xs) (y ∷ ys) = rw (x.1 y, arguments_eq xs ys) refl

abbrev pairs_of : List (Op × S) → List (Op × Formula)
pairs_of ls = map (λ o. (o.0, o.1.0)) ls

operands_eq : (ls : List (Op × S)) (os : List (Op × Formula)) → pointwise (λ p q. op_eq.eq p.0 q.0 && formula.eq p.1 q.1) (pairs_of ls) os ≡ same_operands (operand_trees (pairs_of ls)) (operand_trees os)
operands_eq [] [] = refl
operands_eq [] (y ∷ ys) = refl
operands_eq (x ∷ xs) [] = refl
operands_eq (x ∷ xs) (y ∷ ys) = rw (op_test x.0 y.0, x.1.1 y.1, operands_eq xs ys) refl

-- the derived test opened once: with both formulas built up, two of different kinds differ as they stand
layers : (l : Formula-F S) (z : Formula-F Formula) → unfolded (formula_of l) (roll-Formula z) ≡ same_formula (layer_tree (layer_of l)) (layer_tree z)
unfolding roll-Formula out-Formula carrier.roll carrier.out
layers (Formula-F.Int m) (Formula-F.Int n) = int_test m n
layers (Formula-F.Text s) (Formula-F.Text t) = refl
layers (Formula-F.Bool a) (Formula-F.Bool b) = truth_test a b
layers (Formula-F.At a) (Formula-F.At b) = refl
layers (Formula-F.Spill a) (Formula-F.Spill b) = refl
layers (Formula-F.Area r) (Formula-F.Area s) = refl
layers (Formula-F.Var s) (Formula-F.Var t) = refl
layers (Formula-F.Neg f) (Formula-F.Neg g) = f.value.1 g.value
layers (Formula-F.Chain l f os) (Formula-F.Chain m g ps) = rw (seen-the_row-Formula-Chain-2-2-0 ps, seen-the_row-Formula-Chain-2-2-0, level_test l m, f.value.1 g.value, operands_eq os.items ps.items) refl
layers (Formula-F.Compare o f a) (Formula-F.Compare p g b) = rw (op_test o p, f.value.1 g.value, a.value.1 b.value) refl
layers (Formula-F.Call f xs) (Formula-F.Call g ys) = rw (seen-the_row-Formula-1 ys, seen-the_row-Formula-1, fun_test f g, arguments_eq xs.items ys.items) refl
layers (Formula-F.Let s f a) (Formula-F.Let t g b) = rw (f.value.1 g.value, a.value.1 b.value) refl
layers _ _ = refl

formula_cases : (l : Formula-F S) (z : Formula-F Formula) → formula.eq (formula_of l) (roll-Formula z) ≡ same_formula (formula_tree (formula_of l)) (formula_tree (roll-Formula z))
formula_cases l z =
    formula_is (formula_of l) (roll-Formula z) ∙ layers l z
    ∙ sym (ap (λ t. same_formula t (layer_tree z)) (fold-roll-Formula F.Formula tree_step (layer_of l)))
    ∙ sym (ap (λ t. same_formula (formula_tree (formula_of l)) t) (fold-roll-Formula F.Formula tree_step z))

formula_step : (x : Formula-F Formula) (l : Formula-F S) → layer_of l ≡ x → P (roll-Formula x)
formula_step x l e = subst (λ x. P (roll-Formula x)) e (λ y. subst (λ y. formula.eq (formula_of l) y ≡ same_formula (formula_tree (formula_of l)) (formula_tree y)) (roll-out-Formula y) (formula_cases l (out-Formula y)))

-- the derived `==` compares the trees
pub eq_is_formula : (x y : Formula) → formula.eq x y ≡ same_formula (formula_tree x) (formula_tree y)
eq_is_formula = ind-Formula P formula_step
