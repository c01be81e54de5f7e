-- Elements, tables and lifted operators are sound.
use Rattle.std.proofs.Common.{◌≡◌, ℕ, suc, ◌+◌, ◌*◌, ◌<◌, ◌==◌, nat_lt, Bool, true, false, ◌&&◌, List, [], ◌∷◌, length, map, get_or, refl, ap, ◌∙◌, arith, if◌then◌else◌}
use Rattle.std.specs.List.{range_with_len, flat_map}
use Rattle.std.proofs.lemmas.Bool.{leb-true}
use Rattle.std.proofs.lemmas.List.{length-append}
use Rattle.std.proofs.lemmas.List.FromFn.{length-range_with_len, length-map-range_with_len}
use Rattle.gl_calculus.specs.Grid.Limits.{max_cells}
use Rattle.gl_calculus.specs.Grid.Grid.{Size}
use Rattle.gl_calculus.specs.Values.ErrKind.{ErrKind}
use Rattle.gl_calculus.specs.Values.Value.{Scalar, Value, One, Array, items}
use Rattle.gl_calculus.specs.Values.Lift.{shape, item_or, item, spread, is_small, table, hull, lift1, reaches, where_reached, lift2, lift3}
use Rattle.laws_calculus.proofs.Sound.Values.{IsSound, AllSound, IsSoundValue, parts_of, array_sound, all_append, all_at, either}
use Rattle.gl_calculus.proofs.Tables.{table_if}

-- ---- elements

pub item_or_sound : (d : Scalar) (v : Value) (i j : ℕ) → IsSound d → IsSoundValue v → IsSound (item_or d v i j)
item_or_sound d (One x) i j h k = either ((i == 0) && (j == 0)) x d k h
item_or_sound d (Array s xs) i j h k =
    either (nat_lt i s.rows && nat_lt j s.cols) (get_or (items xs) (i * s.cols + j) d) d (all_at (items xs) (i * s.cols + j) d (parts_of s xs k).sound h) h

pub item_sound : (v : Value) (i j : ℕ) → IsSoundValue v → IsSound (item v i j)
item_sound v i j h = item_or_sound (Scalar.Err ErrKind.Na) v i j refl h

spread_sound : (v : Value) (i j : ℕ) → IsSoundValue v → IsSound (spread v i j)
spread_sound v i j h = item_sound v (if (shape v).rows == 1 then 0 else i) (if (shape v).cols == 1 then 0 else j) h

-- ---- tables

-- some rows, and some columns
pub record Positive (s : Size) : Type 0 where
  pub rows : 0 < s.rows
  pub cols : 0 < s.cols

pub shape_positive : (v : Value) → IsSoundValue v → Positive (shape v)
shape_positive (One x) h = record { rows = omega arith; cols = omega arith }
shape_positive (Array s xs) h = let e = (parts_of s xs h).extents in record { rows = e.rows; cols = e.cols }

hull_positive : (s t : Size) → Positive s → Positive t → Positive (hull s t)
hull_positive s t p q = record { rows = omega (arith, p.rows); cols = omega (arith, p.cols) }

pub one_more_row : (m n : ℕ) → n + m * n ≡ suc m * n
one_more_row m n = grind arith

pub table_length : {X : Type 0} (f : ℕ → ℕ → X) (a n : ℕ) (ms : List ℕ) → length (flat_map (λ i. map (f i) (range_with_len a n)) ms) ≡ length ms * n
table_length f a n [] = omega arith
table_length f a n (m ∷ ms) =
    omega (arith, length-append (map (f m) (range_with_len a n)) (flat_map (λ i. map (f i) (range_with_len a n)) ms), length-map-range_with_len (f m) a n, table_length f a n ms, one_more_row (length ms) n)

all_map : (f : ℕ → Scalar) (js : List ℕ) → ((j : ℕ) → IsSound (f j)) → AllSound (map f js)
all_map f [] h = tt
all_map f (j ∷ js) h = (h j, all_map f js h)

all_table : (f : ℕ → ℕ → Scalar) (n : ℕ) (ms : List ℕ) → ((i j : ℕ) → IsSound (f i j)) → AllSound (flat_map (λ i. map (f i) (range_with_len 0 n)) ms)
all_table f n [] h = tt
all_table f n (m ∷ ms) h = all_append (map (f m) (range_with_len 0 n)) (flat_map (λ i. map (f i) (range_with_len 0 n)) ms) (all_map (f m) (range_with_len 0 n) (h m)) (all_table f n ms h)

table_step : (b : Bool) (s : Size) (f : ℕ → ℕ → Scalar) → is_small s ≡ b → Positive s → ((i j : ℕ) → IsSound (f i j)) → IsSoundValue (table_if b s f)
table_step false s f e p h = refl
table_step true s f e p h =
    array_sound s (flat_map (λ i. map (f i) (range_with_len 0 s.cols)) (range_with_len 0 s.rows))
    (record { rows = p.rows; cols = p.cols; small = leb-true (s.rows * s.cols) max_cells e })
    (table_length f 0 s.cols (range_with_len 0 s.rows) ∙ ap (λ m. m * s.cols) (length-range_with_len 0 s.rows))
    (all_table f s.cols (range_with_len 0 s.rows) h)

pub table_sound : (s : Size) (f : ℕ → ℕ → Scalar) → Positive s → ((i j : ℕ) → IsSound (f i j)) → IsSoundValue (table s f)
table_sound s f p h = table_step (is_small s) s f refl p h

-- ---- lifted operators

pub lift1_sound : (f : Scalar → Scalar) → ((x : Scalar) → IsSound x → IsSound (f x)) → (v : Value) → IsSoundValue v → IsSoundValue (lift1 f v)
lift1_sound f g (One x) h = g x h
lift1_sound f g (Array s xs) h = table_sound s (λ i j. f (item (Array s xs) i j)) (shape_positive (Array s xs) h) (λ i j. g (item (Array s xs) i j) (item_sound (Array s xs) i j h))

reached_sound : (b : Bool) (x : Scalar) → IsSound x → IsSound (where_reached b x)
reached_sound true x h = h
reached_sound false x h = refl

pub lift2_sound : (f : Scalar → Scalar → Scalar) → ((x y : Scalar) → IsSound x → IsSound y → IsSound (f x y)) → (u v : Value) → IsSoundValue u → IsSoundValue v → IsSoundValue (lift2 f u v)
lift2_sound f g (One x) (One y) h k = g x y h k
lift2_sound f g u v h k =
    table_sound (hull (shape u) (shape v)) (λ i j. where_reached (reaches u i j && reaches v i j) (f (spread u i j) (spread v i j)))
    (hull_positive (shape u) (shape v) (shape_positive u h) (shape_positive v k))
    (λ i j. reached_sound (reaches u i j && reaches v i j) (f (spread u i j) (spread v i j)) (g (spread u i j) (spread v i j) (spread_sound u i j h) (spread_sound v i j k)))

pub lift3_sound : (f : Scalar → Scalar → Scalar → Scalar) → ((x y z : Scalar) → IsSound x → IsSound y → IsSound z → IsSound (f x y z)) →
    (u v w : Value) → IsSoundValue u → IsSoundValue v → IsSoundValue w → IsSoundValue (lift3 f u v w)
lift3_sound f g (One x) (One y) (One z) h k l = g x y z h k l
lift3_sound f g u v w h k l =
    table_sound (hull (shape u) (hull (shape v) (shape w)))
    (λ i j. where_reached (reaches u i j && reaches v i j && reaches w i j) (f (spread u i j) (spread v i j) (spread w i j)))
    (hull_positive (shape u) (hull (shape v) (shape w)) (shape_positive u h) (hull_positive (shape v) (shape w) (shape_positive v k) (shape_positive w l)))
    (λ i j.
    reached_sound (reaches u i j && reaches v i j && reaches w i j) (f (spread u i j) (spread v i j) (spread w i j))
    (g (spread u i j) (spread v i j) (spread w i j) (spread_sound u i j h) (spread_sound v i j k) (spread_sound w i j l)))
