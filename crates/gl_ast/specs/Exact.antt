-- The tests answer true exactly at equal trees.
use Rattle.std.proofs.Common.{◌≡◌, ℕ, true, ◌&&◌, [], ◌∷◌, get_or, bytes_eq, refl, ap, sym, ◌∙◌}
use Rattle.std.proofs.lemmas.Bool.{eqb-true, eq-eqb}
use Rattle.std.proofs.lemmas.Slice.Eq.{bytes_eq-Decides}
use Rattle.gl_calculus.specs.Computation.Lists.{IsEquality}
use Rattle.gl_calculus.proofs.Tests.{both, and_true, addr_exact, addr_same, int_exact, int_same, bool_exact, bool_same, range_exact, range_same}
use Rattle.gl_calculus.specs.Formulas.Formula.{Op, Level, Fun, Formula, Formulas, no_formula, formula_and, Operands, no_operand, operand_and}
use Rattle.gl_ast.specs.Same.{op_place, level_place, fun_place, same_op, same_level, same_fun, same_formula, same_formulas, same_operands}

abbrev op_at : ℕ → Op
op_at n = get_or (Op.Eq ∷ Op.Ne ∷ Op.Lt ∷ Op.Le ∷ Op.Gt ∷ Op.Ge ∷ Op.Join ∷ Op.Add ∷ Op.Sub ∷ Op.Mul ∷ Op.Div ∷ []) n Op.Eq

op_at-place : (x : Op) → op_at (op_place x) ≡ x
op_at-place Op.Eq = refl
op_at-place Op.Ne = refl
op_at-place Op.Lt = refl
op_at-place Op.Le = refl
op_at-place Op.Gt = refl
op_at-place Op.Ge = refl
op_at-place Op.Join = refl
op_at-place Op.Add = refl
op_at-place Op.Sub = refl
op_at-place Op.Mul = refl
op_at-place Op.Div = refl

op_exact : (x y : Op) → same_op x y ≡ true → x ≡ y
op_exact x y e = sym (op_at-place x) ∙ ap op_at (eqb-true (op_place x) (op_place y) e) ∙ op_at-place y

op_same : (x : Op) → same_op x x ≡ true
op_same x = eq-eqb (op_place x) (op_place x) refl

abbrev level_at : ℕ → Level
level_at n = get_or (Level.Cat ∷ Level.Sum ∷ Level.Prod ∷ []) n Level.Cat

level_at-place : (x : Level) → level_at (level_place x) ≡ x
level_at-place Level.Cat = refl
level_at-place Level.Sum = refl
level_at-place Level.Prod = refl

level_exact : (x y : Level) → same_level x y ≡ true → x ≡ y
level_exact x y e = sym (level_at-place x) ∙ ap level_at (eqb-true (level_place x) (level_place y) e) ∙ level_at-place y

level_same : (x : Level) → same_level x x ≡ true
level_same x = eq-eqb (level_place x) (level_place x) refl

abbrev fun_at : ℕ → Fun
fun_at n = get_or (Fun.Sum ∷ Fun.Count ∷ Fun.Min ∷ Fun.Max ∷ Fun.And ∷ Fun.Or ∷ Fun.Not ∷ Fun.If ∷ Fun.IfError ∷ Fun.IsError ∷ Fun.IsBlank ∷ Fun.Abs ∷ Fun.Mod ∷ Fun.Len ∷ Fun.Left ∷ Fun.Right ∷ Fun.Rows ∷ Fun.Columns ∷ Fun.Index ∷ Fun.Sequence ∷ Fun.Transpose ∷ Fun.Take ∷ Fun.Drop ∷ Fun.HStack ∷ Fun.VStack ∷ Fun.Filter ∷ Fun.Unique ∷ Fun.Lookup ∷ Fun.Na ∷ Fun.Sheet ∷ Fun.Update ∷ Fun.View ∷ Fun.G ∷ Fun.This ∷ []) n Fun.Sum

fun_at-place : (x : Fun) → fun_at (fun_place x) ≡ x
fun_at-place Fun.Sum = refl
fun_at-place Fun.Count = refl
fun_at-place Fun.Min = refl
fun_at-place Fun.Max = refl
fun_at-place Fun.And = refl
fun_at-place Fun.Or = refl
fun_at-place Fun.Not = refl
fun_at-place Fun.If = refl
fun_at-place Fun.IfError = refl
fun_at-place Fun.IsError = refl
fun_at-place Fun.IsBlank = refl
fun_at-place Fun.Abs = refl
fun_at-place Fun.Mod = refl
fun_at-place Fun.Len = refl
fun_at-place Fun.Left = refl
fun_at-place Fun.Right = refl
fun_at-place Fun.Rows = refl
fun_at-place Fun.Columns = refl
fun_at-place Fun.Index = refl
fun_at-place Fun.Sequence = refl
fun_at-place Fun.Transpose = refl
fun_at-place Fun.Take = refl
fun_at-place Fun.Drop = refl
fun_at-place Fun.HStack = refl
fun_at-place Fun.VStack = refl
fun_at-place Fun.Filter = refl
fun_at-place Fun.Unique = refl
fun_at-place Fun.Lookup = refl
fun_at-place Fun.Na = refl
fun_at-place Fun.Sheet = refl
fun_at-place Fun.Update = refl
fun_at-place Fun.View = refl
fun_at-place Fun.G = refl
fun_at-place Fun.This = refl

fun_exact : (x y : Fun) → same_fun x y ≡ true → x ≡ y
fun_exact x y e = sym (fun_at-place x) ∙ ap fun_at (eqb-true (fun_place x) (fun_place y) e) ∙ fun_at-place y

fun_same : (x : Fun) → same_fun x x ≡ true
fun_same x = eq-eqb (fun_place x) (fun_place x) refl

mutual
  formula_exact : (x y : Formula) → same_formula x y ≡ true → x ≡ y
  formula_exact (Formula.Int m) (Formula.Int n) e = ap Formula.Int (int_exact m n e)
  formula_exact (Formula.Text s) (Formula.Text t) e = ap Formula.Text ((bytes_eq-Decides s t).0 e)
  formula_exact (Formula.Bool b) (Formula.Bool c) e = ap Formula.Bool (bool_exact b c e)
  formula_exact (Formula.At a) (Formula.At b) e = ap Formula.At (addr_exact a b e)
  formula_exact (Formula.Spill a) (Formula.Spill b) e = ap Formula.Spill (addr_exact a b e)
  formula_exact (Formula.Area r) (Formula.Area s) e = ap Formula.Area (range_exact r s e)
  formula_exact (Formula.Var s) (Formula.Var t) e = ap Formula.Var ((bytes_eq-Decides s t).0 e)
  formula_exact (Formula.Neg f) (Formula.Neg g) e = ap Formula.Neg (formula_exact f g e)
  formula_exact (Formula.Chain l f os) (Formula.Chain m g ps) e =
      let (h, r) = both (same_level l m) (same_formula f g && same_operands os ps) e in
      let (k, t) = both (same_formula f g) (same_operands os ps) r in
      let h' : l ≡ m = level_exact l m h in
      let k' : f ≡ g = formula_exact f g k in
      let t' : os ≡ ps = operands_exact os ps t in
      cc (h', k', t')
  formula_exact (Formula.Compare o f a) (Formula.Compare p g b) e =
      let (h, r) = both (same_op o p) (same_formula f g && same_formula a b) e in
      let (k, t) = both (same_formula f g) (same_formula a b) r in
      let h' : o ≡ p = op_exact o p h in
      let k' : f ≡ g = formula_exact f g k in
      let t' : a ≡ b = formula_exact a b t in
      cc (h', k', t')
  formula_exact (Formula.Call f xs) (Formula.Call g ys) e =
      let (h, r) = both (same_fun f g) (same_formulas xs ys) e in
      let h' : f ≡ g = fun_exact f g h in
      let r' : xs ≡ ys = formulas_exact xs ys r in
      cc (h', r')
  formula_exact (Formula.Let s f a) (Formula.Let t g b) e =
      let (h, r) = both (bytes_eq s t) (same_formula f g && same_formula a b) e in
      let (k, u) = both (same_formula f g) (same_formula a b) r in
      let h' : s ≡ t = (bytes_eq-Decides s t).0 h in
      let k' : f ≡ g = formula_exact f g k in
      let u' : a ≡ b = formula_exact a b u in
      cc (h', k', u')
  formula_exact x y e = absurd (cc e)

  formulas_exact : (xs ys : Formulas) → same_formulas xs ys ≡ true → xs ≡ ys
  formulas_exact no_formula no_formula e = refl
  formulas_exact (formula_and x xs) (formula_and y ys) e =
      let (h, t) = both (same_formula x y) (same_formulas xs ys) e in
      let h' : x ≡ y = formula_exact x y h in
      let t' : xs ≡ ys = formulas_exact xs ys t in
      cc (h', t')
  formulas_exact no_formula (formula_and y ys) e = absurd (cc e)
  formulas_exact (formula_and x xs) no_formula e = absurd (cc e)

  operands_exact : (os ps : Operands) → same_operands os ps ≡ true → os ≡ ps
  operands_exact no_operand no_operand e = refl
  operands_exact (operand_and o f os) (operand_and p g ps) e =
      let (h, t) = both (same_op o p && same_formula f g) (same_operands os ps) e in
      let (k, r) = both (same_op o p) (same_formula f g) h in
      let k' : o ≡ p = op_exact o p k in
      let r' : f ≡ g = formula_exact f g r in
      let t' : os ≡ ps = operands_exact os ps t in
      cc (k', r', t')
  operands_exact no_operand (operand_and p g ps) e = absurd (cc e)
  operands_exact (operand_and o f os) no_operand e = absurd (cc e)

mutual
  formula_same : (x : Formula) → same_formula x x ≡ true
  formula_same (Formula.Int n) = int_same n
  formula_same (Formula.Text s) = (bytes_eq-Decides s s).1 refl
  formula_same (Formula.Bool b) = bool_same b
  formula_same (Formula.At a) = addr_same a
  formula_same (Formula.Spill a) = addr_same a
  formula_same (Formula.Area r) = range_same r
  formula_same (Formula.Var s) = (bytes_eq-Decides s s).1 refl
  formula_same (Formula.Neg f) = formula_same f
  formula_same (Formula.Chain l f os) = and_true (same_level l l) (same_formula f f && same_operands os os) (level_same l) (and_true (same_formula f f) (same_operands os os) (formula_same f) (operands_same os))
  formula_same (Formula.Compare o f a) = and_true (same_op o o) (same_formula f f && same_formula a a) (op_same o) (and_true (same_formula f f) (same_formula a a) (formula_same f) (formula_same a))
  formula_same (Formula.Call f xs) = and_true (same_fun f f) (same_formulas xs xs) (fun_same f) (formulas_same xs)
  formula_same (Formula.Let s f a) = and_true (bytes_eq s s) (same_formula f f && same_formula a a) ((bytes_eq-Decides s s).1 refl) (and_true (same_formula f f) (same_formula a a) (formula_same f) (formula_same a))

  formulas_same : (xs : Formulas) → same_formulas xs xs ≡ true
  formulas_same no_formula = refl
  formulas_same (formula_and x xs) = and_true (same_formula x x) (same_formulas xs xs) (formula_same x) (formulas_same xs)

  operands_same : (os : Operands) → same_operands os os ≡ true
  operands_same no_operand = refl
  operands_same (operand_and o f os) = and_true (same_op o o && same_formula f f) (same_operands os os) (and_true (same_op o o) (same_formula f f) (op_same o) (formula_same f)) (operands_same os)

pub formula_equality : IsEquality same_formula
formula_equality = (formula_exact, formula_same)
