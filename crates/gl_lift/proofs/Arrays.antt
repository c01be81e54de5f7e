-- Where one of the values is an array, the lift of a rule is a table.
use Rattle.std.proofs.Common.{◌≡◌, refl}
use Rattle.gl_calculus.specs.Grid.Grid.{Size}
use Rattle.gl_calculus.specs.Values.Value as V
use Rattle.gl_calculus.specs.Values.Lift.{item, shape, hull, table, lift1, lift2, lift3}
use Rattle.gl_lift.specs.Elements.{paired, tripled}

pub one_array : (f : V.Scalar → V.Scalar) (u : V.Value) (s : Size) (xs : V.Scalars) → u ≡ V.Value.Array s xs → table (shape u) (λ i j. f (item u i j)) ≡ lift1 f u
one_array f u s xs e = rw e refl

pub first_of_two : (f : V.Scalar → V.Scalar → V.Scalar) (u v : V.Value) (s : Size) (xs : V.Scalars) → u ≡ V.Value.Array s xs → table (hull (shape u) (shape v)) (paired f u v) ≡ lift2 f u v
first_of_two f u v s xs e = rw e refl

pub second_of_two : (f : V.Scalar → V.Scalar → V.Scalar) (u v : V.Value) (s : Size) (xs : V.Scalars) → v ≡ V.Value.Array s xs → table (hull (shape u) (shape v)) (paired f u v) ≡ lift2 f u v
second_of_two f (V.Value.One x) v s xs e = rw e refl
second_of_two f (V.Value.Array t ys) v s xs e = refl

pub first_of_three : (f : V.Scalar → V.Scalar → V.Scalar → V.Scalar) (u v w : V.Value) (s : Size) (xs : V.Scalars) → u ≡ V.Value.Array s xs → table (hull (shape u) (hull (shape v) (shape w))) (tripled f u v w) ≡ lift3 f u v w
first_of_three f u v w s xs e = rw e refl

pub second_of_three : (f : V.Scalar → V.Scalar → V.Scalar → V.Scalar) (u v w : V.Value) (s : Size) (xs : V.Scalars) → v ≡ V.Value.Array s xs → table (hull (shape u) (hull (shape v) (shape w))) (tripled f u v w) ≡ lift3 f u v w
second_of_three f (V.Value.One x) v w s xs e = rw e refl
second_of_three f (V.Value.Array t ys) v w s xs e = refl

pub third_of_three : (f : V.Scalar → V.Scalar → V.Scalar → V.Scalar) (u v w : V.Value) (s : Size) (xs : V.Scalars) → w ≡ V.Value.Array s xs → table (hull (shape u) (hull (shape v) (shape w))) (tripled f u v w) ≡ lift3 f u v w
third_of_three f (V.Value.One x) (V.Value.One y) w s xs e = rw e refl
third_of_three f (V.Value.One x) (V.Value.Array t ys) w s xs e = refl
third_of_three f (V.Value.Array t ys) v w s xs e = refl
