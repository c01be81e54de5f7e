-- The tree of each kind of formula.
use Rattle.std.proofs.Common.{◌≡◌, ℤ, Bool as Truth, rules}
use Rattle.std.specs.declared.alloc.Global.{Global}
use Rattle.std.specs.declared.rc.RcStr.{RcStr}
use Rattle.std.specs.declared.boxed.Box.{Box}
use Rattle.std.specs.declared.vec.Vec.{Vec}
use Rattle.std.specs.Rc.{rc_str_bytes}
use Rattle.gl_calculus.specs.Grid.Grid.{Addr, Range}
use Rattle.gl_calculus.specs.Formulas.Formula as F
use Rattle.gl_ast.specs.View.{level_tree, op_tree, fun_tree, formula_tree, argument_trees, operand_trees}
use Rattle.gl_ast.specs.declared.Level.{Level}
use Rattle.gl_ast.specs.declared.Op.{Op}
use Rattle.gl_ast.specs.declared.Fun.{Fun}
use Rattle.gl_ast.specs.declared.Formula.{Formula, the_lemmas}
use Rattle.gl_ast.specs.declared.Formula.TheVariants.{Int, Text, Bool, At, Spill, Area, Var, Neg, Chain, Compare, Call, Let}

pub formula_tree-Int : (n : ℤ) → formula_tree (Int n) ≡ F.Formula.Int n
formula_tree-Int n = search (rules, the_lemmas)

pub formula_tree-Text : (t : RcStr Global) → formula_tree (Text t) ≡ F.Formula.Text (rc_str_bytes t)
formula_tree-Text t = search (rules, the_lemmas)

pub formula_tree-Bool : (b : Truth) → formula_tree (Bool b) ≡ F.Formula.Bool b
formula_tree-Bool b = search (rules, the_lemmas)

pub formula_tree-At : (a : Addr) → formula_tree (At a) ≡ F.Formula.At a
formula_tree-At a = search (rules, the_lemmas)

pub formula_tree-Spill : (a : Addr) → formula_tree (Spill a) ≡ F.Formula.Spill a
formula_tree-Spill a = search (rules, the_lemmas)

pub formula_tree-Area : (r : Range) → formula_tree (Area r) ≡ F.Formula.Area r
formula_tree-Area r = search (rules, the_lemmas)

pub formula_tree-Var : (v : RcStr Global) → formula_tree (Var v) ≡ F.Formula.Var (rc_str_bytes v)
formula_tree-Var v = search (rules, the_lemmas)

pub formula_tree-Neg : (f : Box Formula Global) → formula_tree (Neg f) ≡ F.Formula.Neg (formula_tree f.value)
formula_tree-Neg f = search (rules, the_lemmas)

pub formula_tree-Chain : (l : Level) (f : Box Formula Global) (rest : Vec (Op × Formula) Global) → formula_tree (Chain l f rest) ≡ F.Formula.Chain (level_tree l) (formula_tree f.value) (operand_trees rest.items)
formula_tree-Chain l f rest = search (rules, the_lemmas)

pub formula_tree-Compare : (o : Op) (f g : Box Formula Global) → formula_tree (Compare o f g) ≡ F.Formula.Compare (op_tree o) (formula_tree f.value) (formula_tree g.value)
formula_tree-Compare o f g = search (rules, the_lemmas)

pub formula_tree-Call : (f : Fun) (xs : Vec Formula Global) → formula_tree (Call f xs) ≡ F.Formula.Call (fun_tree f) (argument_trees xs.items)
formula_tree-Call f xs = search (rules, the_lemmas)

pub formula_tree-Let : (v : RcStr Global) (f body : Box Formula Global) → formula_tree (Let v f body) ≡ F.Formula.Let (rc_str_bytes v) (formula_tree f.value) (formula_tree body.value)
formula_tree-Let v f body = search (rules, the_lemmas)

pub ruleset trees = (
  formula_tree-Int,
  formula_tree-Text,
  formula_tree-Bool,
  formula_tree-At,
  formula_tree-Spill,
  formula_tree-Area,
  formula_tree-Var,
  formula_tree-Neg,
  formula_tree-Chain,
  formula_tree-Compare,
  formula_tree-Call,
  formula_tree-Let,
)
