-- The operators on scalars.
use Rattle.std.specs.Prelude.{ℕ, ◌^◌, nat_lt, ℤ, pos, ◌+ℤ◌, ◌-ℤ◌, ◌*ℤ◌, neg_ℤ, int_lt, int_le}
use Rattle.std.specs.Prelude.{int_div, Bool, true, false, ◌&&◌, ◌||◌, not, List, [], ◌++◌, length}
use Rattle.std.specs.Prelude.{Option, Some, None, bytes_eq, codes, if◌then◌else◌, int_rem}
use Rattle.std.specs.Fmt.{signed_decimal}
use Rattle.gl_calculus.specs.Grid.Limits.{max_text}
use Rattle.gl_calculus.specs.Values.ErrKind.{ErrKind}
use Rattle.gl_calculus.specs.Values.Value.{Scalar, Blank, Int, Text, Sheet}
use Rattle.gl_calculus.specs.Values.Same.{same_int, same_bool}
use Rattle.gl_calculus.specs.Formulas.Formula.{Op, Eq, Ne, Lt, Le, Gt, Ge, Join, Add, Sub, Mul, Div}
use Rattle.std.specs.Ordering.{nat_cmp, is_lt}
use Rattle.std.specs.Cmp.Lexicographic.{slice_cmp}
use Rattle.std.specs.Option.{option_map_or}

-- an exact number, or #NUM! where it leaves the 64 bits
abbrev pub exact : ℤ → Scalar
exact n =
    if int_le (neg_ℤ (pos (2 ^ 63))) n && int_lt n (pos (2 ^ 63)) then Int n
    else Scalar.Err ErrKind.Num

-- An error of the first operand is the result, else one of the second; a sheet value is no operand.
abbrev pub strict : (Scalar → Scalar → Scalar) → Scalar → Scalar → Scalar
strict f (Scalar.Err k) y = Scalar.Err k
strict f x (Scalar.Err k) = Scalar.Err k
strict f (Sheet s) y = Scalar.Err ErrKind.Value
strict f x (Sheet s) = Scalar.Err ErrKind.Value
strict f x y = f x y

-- ---- arithmetic

-- the number of a scalar: a blank counts as 0
abbrev pub amount : Scalar → Option ℤ
amount Blank = Some (pos 0)
amount (Int n) = Some n
amount x = None

-- a rule on two numbers, where anything else is no operand
abbrev pub on_amounts : (ℤ → ℤ → Scalar) → Option ℤ → Option ℤ → Scalar
on_amounts f (Some m) (Some n) = f m n
on_amounts f m n = Scalar.Err ErrKind.Value

abbrev pub numeric : (ℤ → ℤ → Scalar) → Scalar → Scalar → Scalar
numeric f = strict (λ x y. on_amounts f (amount x) (amount y))

-- the quotient, rounded towards zero
abbrev pub quotient : ℤ → ℤ → Scalar
quotient m n = if same_int n (pos 0) then Scalar.Err ErrKind.Div0 else exact (int_div m n)

-- the remainder with the sign of the divisor
abbrev pub modulo : ℤ → ℤ → Scalar
modulo m n =
    let r = int_rem m n in
    if same_int n (pos 0) then Scalar.Err ErrKind.Div0
    else if same_int r (pos 0) || same_bool (int_lt r (pos 0)) (int_lt n (pos 0)) then exact r
    else exact (r +ℤ n)

-- a rule on one number: an error passes, and anything else is no operand
abbrev pub on_amount : (ℤ → Scalar) → Scalar → Scalar
on_amount f (Scalar.Err k) = Scalar.Err k
on_amount f x = option_map_or f (amount x) (Scalar.Err ErrKind.Value)

abbrev pub negate : Scalar → Scalar
negate = on_amount (λ n. exact (neg_ℤ n))

abbrev pub magnitude : Scalar → Scalar
magnitude = on_amount (λ n. exact (if int_lt n (pos 0) then neg_ℤ n else n))

-- ---- comparison

-- a blank counts as the 0, the empty text or the FALSE beside it
abbrev pub filled : Scalar → Scalar → Scalar
filled Blank (Int n) = Int (pos 0)
filled Blank (Text t) = Text []
filled Blank (Scalar.Bool b) = Scalar.Bool false
filled x y = x

abbrev pub equal : Scalar → Scalar → Bool
equal Blank Blank = true
equal (Int m) (Int n) = same_int m n
equal (Text s) (Text t) = bytes_eq s t
equal (Scalar.Bool b) (Scalar.Bool c) = same_bool b c
equal x y = false

-- every number is below every text, and every text below every truth value; texts stand in the
-- order of their bytes
abbrev pub below : Scalar → Scalar → Bool
below (Int m) (Int n) = int_lt m n
below (Int m) (Text t) = true
below (Int m) (Scalar.Bool c) = true
below (Text s) (Text t) = is_lt (slice_cmp nat_cmp s t)
below (Text s) (Scalar.Bool c) = true
below (Scalar.Bool false) (Scalar.Bool c) = c
below x y = false

abbrev pub comparison : Op → Scalar → Scalar → Bool
comparison Eq x y = equal x y
comparison Ne x y = not (equal x y)
comparison Lt x y = below x y
comparison Le x y = below x y || equal x y
comparison Gt x y = below y x
comparison Ge x y = below y x || equal x y
comparison op x y = false

abbrev pub compare : Op → Scalar → Scalar → Scalar
compare op = strict (λ x y. Scalar.Bool (comparison op (filled x y) (filled y x)))

-- the operator = gives TRUE
abbrev pub agrees : Scalar → Scalar → Bool
agrees x y = equal (filled x y) (filled y x)

-- ---- texts

-- a text within the limit
abbrev pub text : List ℕ → Scalar
text t = if nat_lt max_text (length t) then Scalar.Err ErrKind.Size else Text t

-- the plain text of a scalar that has one
abbrev pub plain : Scalar → List ℕ
plain (Int n) = signed_decimal n
plain (Scalar.Bool b) = if b then codes "TRUE" else codes "FALSE"
plain (Text t) = t
plain x = []

abbrev pub join_text : Scalar → Scalar → Scalar
join_text = strict (λ x y. text (plain x ++ plain y))

-- ---- all operators of two operands

abbrev pub operate : Op → Scalar → Scalar → Scalar
operate Add = numeric (λ m n. exact (m +ℤ n))
operate Sub = numeric (λ m n. exact (m -ℤ n))
operate Mul = numeric (λ m n. exact (m *ℤ n))
operate Div = numeric quotient
operate Join = join_text
operate op = compare op
