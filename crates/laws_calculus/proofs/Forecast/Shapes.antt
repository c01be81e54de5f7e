-- Values that fit shapes: scalars any, arrays those that are at least as large; and what is lifted fits the joined shape.
use Rattle.std.proofs.Common.{◌≡◌, ℕ, ◌≤◌, max, Bool, true, false, List, [], ◌∷◌, Some, None, refl, arith}
use Rattle.std.specs.List.{AllByRecursion}
use Rattle.gl_calculus.specs.Grid.Grid.{Size, size}
use Rattle.gl_calculus.specs.Values.Value.{Scalar, Value, One, Array}
use Rattle.gl_calculus.specs.Values.Lift.{shape, is_small, table, hull, lift1, lift2, lift3}
use Rattle.gl_calculus.specs.Forecast as Fo
use Rattle.gl_calculus.specs.Forecast.{Shape, size_of, greater_shape, greatest_shape}
use Rattle.laws_calculus.proofs.Sound.Values.{IsSoundValue}
use Rattle.laws_calculus.proofs.Sound.Lift.{shape_positive}
use Rattle.gl_calculus.proofs.Tables.{table_if}

-- a scalar fits any shape; an array fits one that is as large
abbrev pub Fits : Shape → Value → Type 0
Fits s (One x) = Unit {0}
Fits None (Array z xs) = ⊥
Fits (Some s) (Array z xs) = (z.rows ≤ s.rows) × (z.cols ≤ s.cols)

abbrev pub AllFit : List Shape → List Value → Type 0
AllFit [] [] = Unit {0}
AllFit (s ∷ ss) (v ∷ vs) = Fits s v × AllFit ss vs
AllFit [] (v ∷ vs) = ⊥
AllFit (s ∷ ss) [] = ⊥

-- ---- joins

pub join_left : (s t : Shape) (v : Value) → Fits s v → Fits (greater_shape s t) v
join_left s t (One x) h = tt
join_left None t (Array z xs) h = absurd h
join_left (Some s) None (Array z xs) h = (omega (arith, h.0), omega (arith, h.1))
join_left (Some s) (Some t) (Array z xs) h = (omega (arith, h.0), omega (arith, h.1))

pub join_right : (s t : Shape) (v : Value) → Fits t v → Fits (greater_shape s t) v
join_right s t (One x) h = tt
join_right s None (Array z xs) h = absurd h
join_right None (Some t) (Array z xs) h = (omega (arith, h.0), omega (arith, h.1))
join_right (Some s) (Some t) (Array z xs) h = (omega (arith, h.0), omega (arith, h.1))

pub join_on : (s t r : Shape) (v : Value) → Fits (greater_shape (greater_shape s t) r) v → Fits (greater_shape s (greater_shape t r)) v
join_on s t r (One x) h = tt
join_on None None None (Array z xs) h = absurd h
join_on None None (Some r) (Array z xs) h = (omega (arith, h.0), omega (arith, h.1))
join_on None (Some t) None (Array z xs) h = (omega (arith, h.0), omega (arith, h.1))
join_on None (Some t) (Some r) (Array z xs) h = (omega (arith, h.0), omega (arith, h.1))
join_on (Some s) None None (Array z xs) h = (omega (arith, h.0), omega (arith, h.1))
join_on (Some s) None (Some r) (Array z xs) h = (omega (arith, h.0), omega (arith, h.1))
join_on (Some s) (Some t) None (Array z xs) h = (omega (arith, h.0), omega (arith, h.1))
join_on (Some s) (Some t) (Some r) (Array z xs) h = (omega (arith, h.0), omega (arith, h.1))

-- ---- tables

table_fits : (b : Bool) (z : Size) (f : ℕ → ℕ → Scalar) (s : Size) → z.rows ≤ s.rows → z.cols ≤ s.cols → Fits (Some s) (table_if b z f)
table_fits true z f s h k = (h, k)
table_fits false z f s h k = tt

pub lift1_fits : (f : Scalar → Scalar) (s : Shape) (v : Value) → Fits s v → Fits s (lift1 f v)
lift1_fits f s (One x) h = tt
lift1_fits f None (Array z xs) h = absurd h
lift1_fits f (Some s) (Array z xs) h = table_fits (is_small z) z _ s h.0 h.1

pub lift2_fits : (f : Scalar → Scalar → Scalar) (s t : Shape) (u v : Value) → IsSoundValue u → IsSoundValue v → Fits s u → Fits t v → Fits (greater_shape s t) (lift2 f u v)
lift2_fits f s t (One x) (One y) p q h k = tt
lift2_fits f s None u (Array z xs) p q h k = absurd k
lift2_fits f None t (Array z xs) v p q h k = absurd h
lift2_fits f None (Some t) (One x) (Array z xs) p q h k = table_fits (is_small (hull (size 1 1) z)) (hull (size 1 1) z) _ _ (omega (arith, k.0)) (omega (arith, k.1))
lift2_fits f (Some s) (Some t) (One x) (Array z xs) p q h k = let e = shape_positive (Array z xs) q in table_fits (is_small (hull (size 1 1) z)) (hull (size 1 1) z) _ _ (omega (arith, k.0, e.rows)) (omega (arith, k.1, e.cols))
lift2_fits f (Some s) None (Array z xs) (One y) p q h k = table_fits (is_small (hull z (size 1 1))) (hull z (size 1 1)) _ _ (omega (arith, h.0)) (omega (arith, h.1))
lift2_fits f (Some s) (Some t) (Array z xs) (One y) p q h k = let e = shape_positive (Array z xs) p in table_fits (is_small (hull z (size 1 1))) (hull z (size 1 1)) _ _ (omega (arith, h.0, e.rows)) (omega (arith, h.1, e.cols))
lift2_fits f (Some s) (Some t) (Array y xs) (Array z ys) p q h k = table_fits (is_small (hull y z)) (hull y z) _ _ (omega (arith, h.0, k.0)) (omega (arith, h.1, k.1))

-- a value is at most as large as this
abbrev pub AtMost : Size → Value → Type 0
AtMost s v = ((shape v).rows ≤ s.rows) × ((shape v).cols ≤ s.cols)

pub fits_most : (s : Shape) (v : Value) → Fits s v → IsSoundValue v → (1 ≤ (size_of s).rows) → (1 ≤ (size_of s).cols) → AtMost (size_of s) v
fits_most s (One x) h q a b = (a, b)
fits_most None (Array z xs) h q a b = absurd h
fits_most (Some s) (Array z xs) h q a b = h

pub most_fits : (s : Size) (v : Value) → AtMost s v → Fits (Some s) v
most_fits s (One x) h = tt
most_fits s (Array z xs) h = h

-- ---- shapes have a row and a column

abbrev pub IsPositive : Shape → Type 0
IsPositive None = Unit {0}
IsPositive (Some s) = (1 ≤ s.rows) × (1 ≤ s.cols)

pub full_positive : (s : Shape) → IsPositive s → (1 ≤ (size_of s).rows) × (1 ≤ (size_of s).cols)
full_positive None h = (omega arith, omega arith)
full_positive (Some s) h = h

pub joined_positive : (s t : Shape) → IsPositive s → IsPositive t → IsPositive (greater_shape s t)
joined_positive None None h k = tt
joined_positive None (Some t) h k = (omega (arith, k.0), omega (arith, k.1))
joined_positive (Some s) t h k = (omega (arith, h.0), omega (arith, h.1))

abbrev pub AllPositive : List Shape → Type 0
AllPositive ss = AllByRecursion IsPositive ss

pub all_joined_positive : (ss : List Shape) → AllPositive ss → IsPositive (greatest_shape ss)
all_joined_positive [] h = tt
all_joined_positive (s ∷ ss) h = joined_positive s (greatest_shape ss) h.0 (all_joined_positive ss h.1)

pub cut_positive : (s : Size) → (1 ≤ s.rows) × (1 ≤ s.cols) → IsPositive (Some (Fo.limited s))
cut_positive s h = (omega (arith, h.0), omega (arith, h.1))

-- ---- three values

three : (s t r : Shape) (b : Bool) (z : Size) (g : ℕ → ℕ → Scalar) → z.rows ≤ max (size_of s).rows (max (size_of t).rows (size_of r).rows) → z.cols ≤ max (size_of s).cols (max (size_of t).cols (size_of r).cols) → (s ≡ None → t ≡ None → r ≡ None → ⊥) →
    Fits (greater_shape s (greater_shape t (greater_shape r None))) (table_if b z g)
three s t r false z g h k n = tt
three None None None true z g h k n = n refl refl refl
three None None (Some r) true z g h k n = (omega (arith, h), omega (arith, k))
three None (Some t) None true z g h k n = (omega (arith, h), omega (arith, k))
three None (Some t) (Some r) true z g h k n = (omega (arith, h), omega (arith, k))
three (Some s) None None true z g h k n = (omega (arith, h), omega (arith, k))
three (Some s) None (Some r) true z g h k n = (omega (arith, h), omega (arith, k))
three (Some s) (Some t) None true z g h k n = (omega (arith, h), omega (arith, k))
three (Some s) (Some t) (Some r) true z g h k n = (omega (arith, h), omega (arith, k))

has_shape : (s : Shape) (z : Size) (xs : _) → Fits s (Array z xs) → s ≡ None → ⊥
has_shape None z xs h e = h
has_shape (Some s) z xs h e = absurd (cc e)

module _ (f : Scalar → Scalar → Scalar → Scalar) (s t r : Shape) (a : IsPositive s) (b : IsPositive t) (c : IsPositive r) where
  lift3_table : (u v w : Value) (g : ℕ → ℕ → Scalar) → IsSoundValue u → IsSoundValue v → IsSoundValue w → Fits s u → Fits t v → Fits r w → (s ≡ None → t ≡ None → r ≡ None → ⊥) →
      Fits (greater_shape s (greater_shape t (greater_shape r None))) (table (hull (shape u) (hull (shape v) (shape w))) g)
  lift3_table u v w g p q o h k l n =
      let i = fits_most s u h p (full_positive s a).0 (full_positive s a).1 in
      let j = fits_most t v k q (full_positive t b).0 (full_positive t b).1 in
      let m = fits_most r w l o (full_positive r c).0 (full_positive r c).1 in
      three s t r (is_small (hull (shape u) (hull (shape v) (shape w)))) (hull (shape u) (hull (shape v) (shape w))) g (omega (arith, i.0, j.0, m.0)) (omega (arith, i.1, j.1, m.1)) n

  pub lift3_fits : (u v w : Value) → IsSoundValue u → IsSoundValue v → IsSoundValue w → Fits s u → Fits t v → Fits r w → Fits (greater_shape s (greater_shape t (greater_shape r None))) (lift3 f u v w)
  lift3_fits (One x) (One y) (One z) p q o h k l = tt
  lift3_fits (Array z xs) v w p q o h k l = lift3_table (Array z xs) v w _ p q o h k l (λ d e g. has_shape s z xs h d)
  lift3_fits (One x) (Array z xs) w p q o h k l = lift3_table (One x) (Array z xs) w _ p q o h k l (λ d e g. has_shape t z xs k e)
  lift3_fits (One x) (One y) (Array z xs) p q o h k l = lift3_table (One x) (One y) (Array z xs) _ p q o h k l (λ d e g. has_shape r z xs l g)
