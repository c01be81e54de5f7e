-- The printed texts, as bytes: addresses, literals, formulas, values and contents.
use Rattle.std.specs.Prelude.{ℕ, ◌+◌, ◌/◌, ◌%◌, ◌==◌, min, nat_lt, nat_le, Bool, true, false, ◌||◌}
use Rattle.std.specs.Prelude.{◌&&◌, List, [], ◌∷◌, ◌++◌, flat_map, codes, if◌then◌else◌}
use Rattle.std.specs.List.{join_with_byte}
use Rattle.std.specs.Fmt.{decimal, signed_decimal}
use Rattle.gl_calculus.specs.Grid.Limits.{max_minus}
use Rattle.gl_calculus.specs.Grid.Grid.{Range, Size}
use Rattle.gl_calculus.specs.Grid.Notation.{address_text}
use Rattle.gl_calculus.specs.Values.ErrKind.{ErrKind}
use Rattle.gl_calculus.specs.Values.Value.{Scalar, region}
use Rattle.gl_calculus.specs.Values.Value as V
use Rattle.gl_calculus.specs.Formulas.Formula.{Op, Level, Cat, Sum, Prod, Fun, Formula, Formulas}
use Rattle.gl_calculus.specs.Formulas.Formula.{Operands, Content, Const, Form}
use Rattle.gl_calculus.specs.Formulas.Formula as F
use Rattle.gl_calculus.specs.Calculation.Calculation.{Shown, Cycle}

abbrev pub Bytes : Type 0
Bytes = List ℕ

-- ---- addresses

abbrev pub range_text : Range → Bytes
range_text r = address_text r.first ++ codes ":" ++ address_text r.last

abbrev pub size_text : Size → Bytes
size_text s = decimal s.rows ++ codes "x" ++ decimal s.cols

-- ---- literals

abbrev pub hex_digit : ℕ → ℕ
hex_digit d = if nat_lt d 10 then 48 + d else 55 + d

abbrev pub is_control : ℕ → Bool
is_control b = nat_lt b 32 || (b == 127)

-- a byte of a text as a literal has it: 92 is the backslash, 34 the quote, 10 LF, 13 CR, 9 TAB
abbrev pub escaped : ℕ → Bytes
escaped b =
    if b == 92 then 92 ∷ 92 ∷ [] else if b == 34 then 92 ∷ 34 ∷ []
    else if b == 10 then 92 ∷ codes "n" else if b == 13 then 92 ∷ codes "r"
    else if b == 9 then 92 ∷ codes "t"
    else if is_control b then (92 ∷ codes "x") ++ hex_digit (b / 16) ∷ hex_digit (b % 16) ∷ []
    else b ∷ []

abbrev pub literal_text : Bytes → Bytes
literal_text t = 34 ∷ flat_map escaped t ++ 34 ∷ []

abbrev pub truth_text : Bool → Bytes
truth_text b = if b then codes "TRUE" else codes "FALSE"

-- ---- formulas

abbrev pub op_text : Op → Bytes
op_text F.Op.Eq = codes "="
op_text F.Op.Ne = codes "<>"
op_text F.Op.Lt = codes "<"
op_text F.Op.Le = codes "<="
op_text F.Op.Gt = codes ">"
op_text F.Op.Ge = codes ">="
op_text F.Op.Join = codes "&"
op_text F.Op.Add = codes "+"
op_text F.Op.Sub = codes "-"
op_text F.Op.Mul = codes "*"
op_text F.Op.Div = codes "/"

abbrev pub fun_text : Fun → Bytes
fun_text F.Fun.Sum = codes "SUM"
fun_text F.Fun.Count = codes "COUNT"
fun_text F.Fun.Min = codes "MIN"
fun_text F.Fun.Max = codes "MAX"
fun_text F.Fun.And = codes "AND"
fun_text F.Fun.Or = codes "OR"
fun_text F.Fun.Not = codes "NOT"
fun_text F.Fun.If = codes "IF"
fun_text F.Fun.IfError = codes "IFERROR"
fun_text F.Fun.IsError = codes "ISERROR"
fun_text F.Fun.IsBlank = codes "ISBLANK"
fun_text F.Fun.Abs = codes "ABS"
fun_text F.Fun.Mod = codes "MOD"
fun_text F.Fun.Len = codes "LEN"
fun_text F.Fun.Left = codes "LEFT"
fun_text F.Fun.Right = codes "RIGHT"
fun_text F.Fun.Rows = codes "ROWS"
fun_text F.Fun.Columns = codes "COLUMNS"
fun_text F.Fun.Index = codes "INDEX"
fun_text F.Fun.Sequence = codes "SEQUENCE"
fun_text F.Fun.Transpose = codes "TRANSPOSE"
fun_text F.Fun.Take = codes "TAKE"
fun_text F.Fun.Drop = codes "DROP"
fun_text F.Fun.HStack = codes "HSTACK"
fun_text F.Fun.VStack = codes "VSTACK"
fun_text F.Fun.Filter = codes "FILTER"
fun_text F.Fun.Unique = codes "UNIQUE"
fun_text F.Fun.Lookup = codes "LOOKUP"
fun_text F.Fun.Na = codes "NA"
fun_text F.Fun.Sheet = codes "SHEET"
fun_text F.Fun.Update = codes "UPDATE"
fun_text F.Fun.View = codes "VIEW"
fun_text F.Fun.G = codes "G"
fun_text F.Fun.This = codes "THIS"

-- the places of the grammar from the widest to the narrowest: expr 0, cat 1, sum 2, prod 3,
-- unary 4, atom 5
abbrev pub level_place : Level → ℕ
level_place Cat = 1
level_place Sum = 2
level_place Prod = 3

-- the narrowest place where a form stands without parentheses
abbrev pub place_of : Formula → ℕ
place_of (F.Formula.Compare op f g) = 0
place_of (F.Formula.Chain level f rest) = level_place level
place_of (F.Formula.Neg f) = 4
place_of f = 5

abbrev pub is_neg : Formula → Bool
is_neg (F.Formula.Neg f) = true
is_neg f = false

-- whether a form needs parentheses in a place, behind so many `-` in a row
abbrev pub needs_parens : ℕ → ℕ → Formula → Bool
needs_parens minus place f = nat_lt (place_of f) place || (is_neg f && nat_le max_minus minus)

abbrev pub minus_of : Op → ℕ
minus_of F.Op.Sub = 1
minus_of op = 0

-- one more `-` in a row; none is counted beyond those that may stand there
abbrev pub one_more : ℕ → ℕ
one_more minus = min (minus + 1) max_minus

abbrev pub in_parens : Bytes → Bytes
in_parens t = codes "(" ++ t ++ codes ")"

-- a form in a place, by its texts behind so many `-`: in parentheses, where no `-` stands
-- before it, or without
abbrev pub placed : ℕ → ℕ → Formula → (ℕ → Bytes) → Bytes
placed place minus f text = if needs_parens minus place f then in_parens (text 0) else text minus

-- The canonical text of a formula behind so many `-` in a row: no spaces, and parentheses only
-- where they are needed.
abbrev mutual
  pub text_behind : ℕ → Formula → Bytes
  text_behind minus (F.Formula.Int n) = signed_decimal n
  text_behind minus (F.Formula.Text t) = literal_text t
  text_behind minus (F.Formula.Bool b) = truth_text b
  text_behind minus (F.Formula.At a) = address_text a
  text_behind minus (F.Formula.Spill a) = address_text a ++ codes "#"
  text_behind minus (F.Formula.Area r) = range_text r
  text_behind minus (F.Formula.Var name) = name
  text_behind minus (F.Formula.Neg f) =
      codes "-" ++ placed 4 (one_more minus) f (λ m. text_behind m f)
  text_behind minus (F.Formula.Chain level f rest) =
      placed (level_place level + 1) minus f (λ m. text_behind m f)
      ++ operands_text (level_place level + 1) rest
  text_behind minus (F.Formula.Compare op f g) =
      placed 1 minus f (λ m. text_behind m f) ++ op_text op ++ placed 1 0 g (λ m. text_behind m g)
  text_behind minus (F.Formula.Call f xs) = fun_text f ++ in_parens (join_with_byte 44 (texts xs))
  text_behind minus (F.Formula.Let name f body) =
      codes "LET"
      ++ in_parens (join_with_byte 44 (name ∷ text_behind 0 f ∷ text_behind 0 body ∷ []))

  pub operands_text : ℕ → Operands → Bytes
  operands_text place F.Operands.no_operand = []
  operands_text place (F.Operands.operand_and op f rest) =
      op_text op ++ placed place (minus_of op) f (λ m. text_behind m f) ++ operands_text place rest

  pub texts : Formulas → List Bytes
  texts F.Formulas.no_formula = []
  texts (F.Formulas.formula_and f fs) = text_behind 0 f ∷ texts fs

-- the text of a formula in a place, behind so many `-`
abbrev pub placed_text : ℕ → ℕ → Formula → Bytes
placed_text place minus f = placed place minus f (λ m. text_behind m f)

abbrev pub formula_text : Formula → Bytes
formula_text f = text_behind 0 f

-- ---- values and contents

abbrev pub error_text : ErrKind → Bytes
error_text ErrKind.Ref = codes "#REF!"
error_text ErrKind.Value = codes "#VALUE!"
error_text ErrKind.Div0 = codes "#DIV/0!"
error_text ErrKind.Num = codes "#NUM!"
error_text ErrKind.Na = codes "#N/A"
error_text ErrKind.Spill = codes "#SPILL!"
error_text ErrKind.Size = codes "#SIZE!"

abbrev pub scalar_text : Scalar → Bytes
scalar_text V.Scalar.Blank = codes "."
scalar_text (V.Scalar.Int n) = signed_decimal n
scalar_text (V.Scalar.Bool b) = truth_text b
scalar_text (V.Scalar.Text t) = literal_text t
scalar_text (V.Scalar.Err k) = error_text k
scalar_text (V.Scalar.Sheet s) = codes "sheet(" ++ range_text (region s) ++ codes ")"

abbrev pub shown_text : Shown → Bytes
shown_text Cycle = codes "#CYCLE!"
shown_text (Shown.Value x) = scalar_text x

abbrev pub content_text : Content → Bytes
content_text (Const x) = scalar_text x
content_text (Form f) = codes "=" ++ formula_text f
