-- The functions whose arguments are all evaluated.
use Rattle.std.specs.Prelude.{ℕ, suc, ◌+◌, ◌-◌, ◌*◌, ◌==◌, max, nat_lt, ℤ, pos, negsuc, ◌+ℤ◌}
use Rattle.std.specs.Prelude.{int_lt, Bool, true, false, ◌&&◌, not, List, [], ◌∷◌, ◌++◌, length}
use Rattle.std.specs.Prelude.{map, flat_map, fold, take, drop, replicate, filter_map, Option, Some}
use Rattle.std.specs.Prelude.{None, Result, Ok, Err, encode_utf8_all, chars, if◌then◌else◌}
use Rattle.std.specs.Prelude.{unwrap_or}
use Rattle.std.specs.List.{list_any, list_all, reduce, items_where_true}
use Rattle.std.specs.Option.{option_or, option_map_or, ok_or}
use Rattle.gl_calculus.specs.Grid.Grid.{Size, size}
use Rattle.gl_calculus.specs.Values.ErrKind.{ErrKind}
use Rattle.gl_calculus.specs.Values.Value.{Scalar, Blank, Int, Text, Sheet, Value, One, elements}
use Rattle.gl_calculus.specs.Values.Same.{same_scalar}
use Rattle.gl_calculus.specs.Formulas.Formula.{Fun, Sum, Count, Min, Max, And, Or, Not, IsError}
use Rattle.gl_calculus.specs.Formulas.Formula.{IsBlank, Abs, Mod, Len, Left, Right, Rows, Columns}
use Rattle.gl_calculus.specs.Formulas.Formula.{Index, Sequence, Transpose, Take, Drop, HStack}
use Rattle.gl_calculus.specs.Formulas.Formula.{VStack, Filter, Unique, Lookup, Na}
use Rattle.gl_calculus.specs.Values.Operators.{exact, strict, numeric, modulo, magnitude, agrees}
use Rattle.gl_calculus.specs.Values.Operators.{plain, amount}
use Rattle.gl_calculus.specs.Values.Lift.{shape, item, table, lift1, lift2, rows, width, from_rows}
use Rattle.gl_calculus.specs.Computation.Lists.{distinct}
use lib.Pointwise.{pointwise}

-- ---- over the elements of all arguments, in order

abbrev pub all_elements : List Value → List Scalar
all_elements = flat_map elements

abbrev pub whole_number : Scalar → Option ℤ
whole_number (Int n) = Some n
whole_number x = None

abbrev pub truth : Scalar → Option Bool
truth (Scalar.Bool b) = Some b
truth x = None

-- what makes an element unfit for a sum: an error, or a sheet value
abbrev pub sum_fault : Scalar → Option ErrKind
sum_fault (Scalar.Err k) = Some k
sum_fault (Sheet s) = Some ErrKind.Value
sum_fault x = None

-- what makes an element unfit for AND and OR: all but a truth value or a blank
abbrev pub truth_fault : Scalar → Option ErrKind
truth_fault Blank = None
truth_fault (Scalar.Bool b) = None
truth_fault (Scalar.Err k) = Some k
truth_fault x = Some ErrKind.Value

-- the fault of the first element that has one
abbrev pub first_fault : (Scalar → Option ErrKind) → List Scalar → Option ErrKind
first_fault fault [] = None
first_fault fault (x ∷ xs) = option_or (fault x) (first_fault fault xs)

-- the fault as an error, or else the result
abbrev pub unless : Option ErrKind → Scalar → Scalar
unless = option_map_or Scalar.Err

abbrev pub lesser : ℤ → ℤ → ℤ
lesser m n = if int_lt n m then n else m

abbrev pub greater : ℤ → ℤ → ℤ
greater m n = if int_lt m n then n else m

-- the truth of some truth values; of none #VALUE!
abbrev pub truth_of : (List Bool → Bool) → List Bool → Scalar
truth_of f [] = Scalar.Err ErrKind.Value
truth_of f (b ∷ bs) = Scalar.Bool (f (b ∷ bs))

abbrev pub total : List Scalar → Scalar
total xs =
    unless (first_fault sum_fault xs) (exact (fold ◌+ℤ◌ (pos 0) (filter_map whole_number xs)))

abbrev pub count : List Scalar → Scalar
count xs = Int (pos (length (filter_map whole_number xs)))

-- the best number, or 0 of none
abbrev pub extreme : (ℤ → ℤ → ℤ) → List Scalar → Scalar
extreme better xs =
    let best = reduce better (filter_map whole_number xs) in
    unless (first_fault sum_fault xs) (Int (unwrap_or best (pos 0)))

abbrev pub verdict : (List Bool → Bool) → List Scalar → Scalar
verdict f xs = unless (first_fault truth_fault xs) (truth_of f (filter_map truth xs))

-- ---- on one scalar, or two

abbrev pub negation : Scalar → Scalar
negation (Scalar.Bool b) = Scalar.Bool (not b)
negation Blank = Scalar.Bool true
negation (Scalar.Err k) = Scalar.Err k
negation x = Scalar.Err ErrKind.Value

abbrev pub is_error : Scalar → Scalar
is_error (Scalar.Err k) = Scalar.Bool true
is_error x = Scalar.Bool false

abbrev pub is_blank : Scalar → Scalar
is_blank Blank = Scalar.Bool true
is_blank x = Scalar.Bool false

abbrev pub text_length : Scalar → Scalar
text_length (Scalar.Err k) = Scalar.Err k
text_length (Sheet s) = Scalar.Err ErrKind.Value
text_length x = Int (pos (length (chars (plain x))))

abbrev pub take_last : {X : Type 0} → ℕ → List X → List X
take_last n xs = drop (length xs - n) xs

-- a part of the characters of a text, by a number that isn't negative
abbrev pub text_part : (ℕ → List ℕ → List ℕ) → Scalar → Scalar → Scalar
text_part part = strict (λ x n. cut_by x (amount n))
  where
    cut_by : Scalar → Option ℤ → Scalar
    cut_by x (Some (pos n)) = Text (encode_utf8_all (part n (chars (plain x))))
    cut_by x n = Scalar.Err ErrKind.Value

-- ---- on arrays

-- a value, or the first error of the arguments
abbrev pub Try : Type 0 → Type 0
Try X = Result X ErrKind

infixl 10 ◌>>=◌
abbrev ◌>>=◌ : {X Y : Type 0} → Try X → (X → Try Y) → Try Y
(Ok x) >>= f = f x
(Err k) >>= f = Err k

infixl 10 ◌>>◌
abbrev ◌>>◌ : {X Y : Type 0} → Try X → Try Y → Try Y
(Ok x) >> r = r
(Err k) >> r = Err k

abbrev pub value_or_error : Try Value → Value
value_or_error (Ok v) = v
value_or_error (Err k) = One (Scalar.Err k)

-- a scalar error of an argument
abbrev pub no_error : Value → Try Value
no_error (One (Scalar.Err k)) = Err k
no_error v = Ok v

-- an argument that is a number: a blank is 0
abbrev pub number : Value → Try ℤ
number (One (Scalar.Err k)) = Err k
number (One x) = ok_or (amount x) ErrKind.Value
number v = Err ErrKind.Value

abbrev pub no_fault : Option ErrKind → Try (Unit {0})
no_fault None = Ok tt
no_fault (Some k) = Err k

-- the result where the test holds, else the error
abbrev pub when : {X : Type 0} → Bool → ErrKind → X → Try X
when b k x = if b then Ok x else Err k

abbrev pub extent : (Size → ℕ) → Value → Value
extent f (One (Scalar.Err k)) = One (Scalar.Err k)
extent f v = One (Int (pos (f (shape v))))

-- a place from 1 as one from 0
abbrev pub from_one : ℤ → Try ℕ
from_one (pos (suc i)) = Ok i
from_one n = Err ErrKind.Ref

abbrev pub index : Value → Value → Value → Try Value
index v r c = do
  no_error v
  m ← number r
  n ← number c
  i ← from_one m
  j ← from_one n
  when (nat_lt i (shape v).rows && nat_lt j (shape v).cols) ErrKind.Ref (One (item v i j))

-- a number from 1 on
abbrev pub positive : ℤ → Try ℕ
positive (pos (suc n)) = Ok (suc n)
positive n = Err ErrKind.Value

abbrev pub sequence : Value → Value → Try Value
sequence u v = do
  m ← number u
  n ← number v
  rs ← positive m
  cs ← positive n
  Ok (table (size rs cs) (λ i j. Int (pos (i * cs + j + 1))))

abbrev pub flipped : Value → Value
flipped v = table (size (shape v).cols (shape v).rows) (λ i j. item v j i)

abbrev pub transpose : Value → Value
transpose (One x) = One x
transpose v = flipped v

-- the first n elements, or the last where n is negative
abbrev pub kept : {X : Type 0} → ℤ → List X → List X
kept (pos n) xs = take n xs
kept (negsuc n) xs = take_last (suc n) xs

-- what is left when these are taken away
abbrev pub left_over : {X : Type 0} → ℤ → List X → List X
left_over (pos n) xs = drop n xs
left_over (negsuc n) xs = take (length xs - suc n) xs

-- the array of these rows, which must have an element
abbrev pub some_rows : ErrKind → List (List Scalar) → Try Value
some_rows k rs = when (nat_lt 0 (width rs)) k (from_rows rs)

-- a part of the rows, and of each of them a part, by two numbers
abbrev pub part_of : (ℤ → List (List Scalar) → List (List Scalar)) →
    (ℤ → List Scalar → List Scalar) → Value → Value → Value → Try Value
part_of some_of part v u w = do
  no_error v
  m ← number u
  n ← number w
  some_rows ErrKind.Value (map (part n) (some_of m (rows v)))

-- rows of one width, with #N/A where one is shorter
abbrev pub padded : ℕ → List Scalar → List Scalar
padded n xs = xs ++ replicate (n - length xs) (Scalar.Err ErrKind.Na)

abbrev pub greatest_cols : List Value → ℕ
greatest_cols [] = 0
greatest_cols (v ∷ vs) = max (shape v).cols (greatest_cols vs)

-- the arrays one under the other
abbrev pub vstack : List Value → Value
vstack vs = from_rows (map (padded (greatest_cols vs)) (flat_map rows vs))

-- the arrays side by side
abbrev pub hstack : List Value → Value
hstack vs = transpose (vstack (map flipped vs))

-- one column, with as many rows as the other
abbrev pub is_column_beside : Value → Value → Bool
is_column_beside u v = ((shape u).cols == 1) && ((shape u).rows == (shape v).rows)

-- the truth that keeps a row: a blank is FALSE
abbrev pub keeps : Scalar → Bool
keeps x = unwrap_or (truth x) false

abbrev pub filter_rows : Value → Value → Try Value
filter_rows v keep = do
  no_error v
  no_error keep
  ks ← when (is_column_beside keep v) ErrKind.Value (elements keep)
  no_fault (first_fault truth_fault ks)
  some_rows ErrKind.Na (items_where_true (map keeps ks) (rows v))

-- the distinct rows, equal by structure
abbrev pub unique : Value → Value
unique (One x) = One x
unique v = from_rows (distinct (pointwise same_scalar) (rows v))

-- what LOOKUP looks for: any scalar but an error or a sheet value
abbrev pub sought : Value → Try Scalar
sought (One (Scalar.Err k)) = Err k
sought (One (Sheet s)) = Err ErrKind.Value
sought (One x) = Ok x
sought v = Err ErrKind.Value

-- the second list's element at the first place where the first agrees
abbrev pub looked_up : Scalar → List Scalar → List Scalar → Scalar
looked_up x [] vs = Scalar.Err ErrKind.Na
looked_up x ks [] = Scalar.Err ErrKind.Na
looked_up x (k ∷ ks) (v ∷ vs) = if agrees k x then v else looked_up x ks vs

abbrev pub lookup : Value → Value → Value → Try Value
lookup u keys v = do
  x ← sought u
  no_error keys
  no_error v
  when (is_column_beside keys v && is_column_beside v keys) ErrKind.Value
      (One (looked_up x (elements keys) (elements v)))

-- ---- all of them; the grammar allows no other numbers of arguments

unfoldable pub apply : Fun → List Value → Value
apply Sum vs = One (total (all_elements vs))
apply Count vs = One (count (all_elements vs))
apply Min vs = One (extreme lesser (all_elements vs))
apply Max vs = One (extreme greater (all_elements vs))
apply And vs = One (verdict (list_all (λ b. b)) (all_elements vs))
apply Or vs = One (verdict (list_any (λ b. b)) (all_elements vs))
apply Not (v ∷ []) = lift1 negation v
apply IsError (v ∷ []) = lift1 is_error v
apply IsBlank (v ∷ []) = lift1 is_blank v
apply Abs (v ∷ []) = lift1 magnitude v
apply Mod (u ∷ v ∷ []) = lift2 (numeric modulo) u v
apply Len (v ∷ []) = lift1 text_length v
apply Left (v ∷ n ∷ []) = lift2 (text_part take) v n
apply Right (v ∷ n ∷ []) = lift2 (text_part take_last) v n
apply Rows (v ∷ []) = extent (λ s. s.rows) v
apply Columns (v ∷ []) = extent (λ s. s.cols) v
apply Index (v ∷ r ∷ c ∷ []) = value_or_error (index v r c)
apply Sequence (m ∷ n ∷ []) = value_or_error (sequence m n)
apply Transpose (v ∷ []) = transpose v
apply Take (v ∷ m ∷ n ∷ []) = value_or_error (part_of kept kept v m n)
apply Drop (v ∷ m ∷ n ∷ []) = value_or_error (part_of left_over left_over v m n)
apply HStack vs = hstack vs
apply VStack vs = vstack vs
apply Filter (v ∷ keep ∷ []) = value_or_error (filter_rows v keep)
apply Unique (v ∷ []) = unique v
apply Lookup (x ∷ keys ∷ v ∷ []) = value_or_error (lookup x keys v)
apply Na [] = One (Scalar.Err ErrKind.Na)
apply f vs = One (Scalar.Err ErrKind.Value)
