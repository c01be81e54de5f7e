-- The tree of the calculus that a formula of the code stands for.
use Rattle.std.specs.Prelude.{List, [], ◌∷◌, map}
use Rattle.std.specs.Rc.{rc_str_bytes}
use Rattle.gl_calculus.specs.Formulas.Formula as F
use Rattle.gl_ast.specs.declared.Version.{Version}
use Rattle.gl_ast.specs.declared.Version.TheVariants as version
use Rattle.gl_ast.specs.declared.Level.{Level}
use Rattle.gl_ast.specs.declared.Level.TheVariants as level
use Rattle.gl_ast.specs.declared.Op.{Op}
use Rattle.gl_ast.specs.declared.Op.TheVariants as op
use Rattle.gl_ast.specs.declared.Fun.{Fun}
use Rattle.gl_ast.specs.declared.Fun.TheVariants as fun
use Rattle.gl_ast.specs.declared.Formula.{Formula}
use Rattle.gl_ast.specs.declared.Formula.TheOpen.{Formula-F}
use Rattle.gl_ast.specs.declared.Formula.TheFolds.{fold-Formula}

abbrev pub version_tree : Version → F.Version
version_tree version.One = F.Version.One
version_tree version.Two = F.Version.Two

abbrev pub level_tree : Level → F.Level
level_tree level.Cat = F.Level.Cat
level_tree level.Sum = F.Level.Sum
level_tree level.Prod = F.Level.Prod

abbrev pub op_tree : Op → F.Op
op_tree op.Eq = F.Op.Eq
op_tree op.Ne = F.Op.Ne
op_tree op.Lt = F.Op.Lt
op_tree op.Le = F.Op.Le
op_tree op.Gt = F.Op.Gt
op_tree op.Ge = F.Op.Ge
op_tree op.Join = F.Op.Join
op_tree op.Add = F.Op.Add
op_tree op.Sub = F.Op.Sub
op_tree op.Mul = F.Op.Mul
op_tree op.Div = F.Op.Div

abbrev pub fun_tree : Fun → F.Fun
fun_tree fun.Sum = F.Fun.Sum
fun_tree fun.Count = F.Fun.Count
fun_tree fun.Min = F.Fun.Min
fun_tree fun.Max = F.Fun.Max
fun_tree fun.And = F.Fun.And
fun_tree fun.Or = F.Fun.Or
fun_tree fun.Not = F.Fun.Not
fun_tree fun.If = F.Fun.If
fun_tree fun.IfError = F.Fun.IfError
fun_tree fun.IsError = F.Fun.IsError
fun_tree fun.IsBlank = F.Fun.IsBlank
fun_tree fun.Abs = F.Fun.Abs
fun_tree fun.Mod = F.Fun.Mod
fun_tree fun.Len = F.Fun.Len
fun_tree fun.Left = F.Fun.Left
fun_tree fun.Right = F.Fun.Right
fun_tree fun.Rows = F.Fun.Rows
fun_tree fun.Columns = F.Fun.Columns
fun_tree fun.Index = F.Fun.Index
fun_tree fun.Sequence = F.Fun.Sequence
fun_tree fun.Transpose = F.Fun.Transpose
fun_tree fun.Take = F.Fun.Take
fun_tree fun.Drop = F.Fun.Drop
fun_tree fun.HStack = F.Fun.HStack
fun_tree fun.VStack = F.Fun.VStack
fun_tree fun.Filter = F.Fun.Filter
fun_tree fun.Unique = F.Fun.Unique
fun_tree fun.Lookup = F.Fun.Lookup
fun_tree fun.Na = F.Fun.Na
fun_tree fun.Sheet = F.Fun.Sheet
fun_tree fun.Update = F.Fun.Update
fun_tree fun.View = F.Fun.View
fun_tree fun.G = F.Fun.G
fun_tree fun.This = F.Fun.This

-- a list as operands
abbrev pub operands_of : List (Op × F.Formula) → F.Operands
operands_of [] = F.no_operand
operands_of (o ∷ os) = F.operand_and (op_tree o.0) o.1 (operands_of os)

-- one level, with each formula inside already seen as its tree
abbrev pub formula_step : Formula-F F.Formula → F.Formula
formula_step (Formula-F.Int n) = F.Formula.Int n
formula_step (Formula-F.Text t) = F.Formula.Text (rc_str_bytes t)
formula_step (Formula-F.Bool b) = F.Formula.Bool b
formula_step (Formula-F.At a) = F.Formula.At a
formula_step (Formula-F.Spill a) = F.Formula.Spill a
formula_step (Formula-F.Area r) = F.Formula.Area r
formula_step (Formula-F.Var v) = F.Formula.Var (rc_str_bytes v)
formula_step (Formula-F.Neg f) = F.Formula.Neg f.value
formula_step (Formula-F.Chain l f rest) = F.Formula.Chain (level_tree l) f.value (operands_of rest.items)
formula_step (Formula-F.Compare o f g) = F.Formula.Compare (op_tree o) f.value g.value
formula_step (Formula-F.Call f xs) = F.Formula.Call (fun_tree f) (F.formulas xs.items)
formula_step (Formula-F.Let v f body) = F.Formula.Let (rc_str_bytes v) f.value body.value

abbrev pub formula_tree : Formula → F.Formula
formula_tree = fold-Formula F.Formula formula_step

-- the trees of some arguments, and of some operands
abbrev pub argument_trees : List Formula → F.Formulas
argument_trees xs = F.formulas (map formula_tree xs)

abbrev pub operand_trees : List (Op × Formula) → F.Operands
operand_trees os = operands_of (map (λ o. (o.0, formula_tree o.1)) os)
