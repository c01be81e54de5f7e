-- Functions of a number of arguments of their own, on another number of them.
use Rattle.std.proofs.Common.{◌≡◌, false, [], ◌∷◌, refl}
use Rattle.gl_ast.specs.View.{fun_tree}
use Rattle.gl_ast.specs.declared.Fun.{Fun}
use Rattle.gl_ast.specs.declared.Fun.TheVariants as fun
use Rattle.gl_calculus.specs.Formulas.Fit.{takes_any}
use Rattle.gl_calculus.specs.Values.ErrKind.{ErrKind}
use Rattle.gl_calculus.specs.Values.Functions.{apply}
use Rattle.gl_calculus.specs.Values.Value as V

pub not_on_one : (f : Fun) (v : V.Value) → takes_any (fun_tree f) ≡ false → (f ≡ fun.Not → ⊥) → (f ≡ fun.IsError → ⊥) → (f ≡ fun.IsBlank → ⊥) → (f ≡ fun.Abs → ⊥) → (f ≡ fun.Len → ⊥) → (f ≡ fun.Rows → ⊥) → (f ≡ fun.Columns → ⊥) → (f ≡ fun.Transpose → ⊥) → (f ≡ fun.Unique → ⊥) → V.Value.One (V.Scalar.Err ErrKind.Value) ≡ apply (fun_tree f) (v ∷ [])
unfolding apply
not_on_one fun.Sum v k h0 h1 h2 h3 h4 h5 h6 h7 h8 = absurd (cc k)
not_on_one fun.Count v k h0 h1 h2 h3 h4 h5 h6 h7 h8 = absurd (cc k)
not_on_one fun.Min v k h0 h1 h2 h3 h4 h5 h6 h7 h8 = absurd (cc k)
not_on_one fun.Max v k h0 h1 h2 h3 h4 h5 h6 h7 h8 = absurd (cc k)
not_on_one fun.And v k h0 h1 h2 h3 h4 h5 h6 h7 h8 = absurd (cc k)
not_on_one fun.Or v k h0 h1 h2 h3 h4 h5 h6 h7 h8 = absurd (cc k)
not_on_one fun.Not v k h0 h1 h2 h3 h4 h5 h6 h7 h8 = absurd (h0 refl)
not_on_one fun.IsError v k h0 h1 h2 h3 h4 h5 h6 h7 h8 = absurd (h1 refl)
not_on_one fun.IsBlank v k h0 h1 h2 h3 h4 h5 h6 h7 h8 = absurd (h2 refl)
not_on_one fun.Abs v k h0 h1 h2 h3 h4 h5 h6 h7 h8 = absurd (h3 refl)
not_on_one fun.Len v k h0 h1 h2 h3 h4 h5 h6 h7 h8 = absurd (h4 refl)
not_on_one fun.Rows v k h0 h1 h2 h3 h4 h5 h6 h7 h8 = absurd (h5 refl)
not_on_one fun.Columns v k h0 h1 h2 h3 h4 h5 h6 h7 h8 = absurd (h6 refl)
not_on_one fun.Transpose v k h0 h1 h2 h3 h4 h5 h6 h7 h8 = absurd (h7 refl)
not_on_one fun.HStack v k h0 h1 h2 h3 h4 h5 h6 h7 h8 = absurd (cc k)
not_on_one fun.VStack v k h0 h1 h2 h3 h4 h5 h6 h7 h8 = absurd (cc k)
not_on_one fun.Unique v k h0 h1 h2 h3 h4 h5 h6 h7 h8 = absurd (h8 refl)
not_on_one fun.If v k h0 h1 h2 h3 h4 h5 h6 h7 h8 = refl
not_on_one fun.IfError v k h0 h1 h2 h3 h4 h5 h6 h7 h8 = refl
not_on_one fun.Mod v k h0 h1 h2 h3 h4 h5 h6 h7 h8 = refl
not_on_one fun.Left v k h0 h1 h2 h3 h4 h5 h6 h7 h8 = refl
not_on_one fun.Right v k h0 h1 h2 h3 h4 h5 h6 h7 h8 = refl
not_on_one fun.Index v k h0 h1 h2 h3 h4 h5 h6 h7 h8 = refl
not_on_one fun.Sequence v k h0 h1 h2 h3 h4 h5 h6 h7 h8 = refl
not_on_one fun.Take v k h0 h1 h2 h3 h4 h5 h6 h7 h8 = refl
not_on_one fun.Drop v k h0 h1 h2 h3 h4 h5 h6 h7 h8 = refl
not_on_one fun.Filter v k h0 h1 h2 h3 h4 h5 h6 h7 h8 = refl
not_on_one fun.Lookup v k h0 h1 h2 h3 h4 h5 h6 h7 h8 = refl
not_on_one fun.Na v k h0 h1 h2 h3 h4 h5 h6 h7 h8 = refl
not_on_one fun.Sheet v k h0 h1 h2 h3 h4 h5 h6 h7 h8 = refl
not_on_one fun.Update v k h0 h1 h2 h3 h4 h5 h6 h7 h8 = refl
not_on_one fun.View v k h0 h1 h2 h3 h4 h5 h6 h7 h8 = refl
not_on_one fun.G v k h0 h1 h2 h3 h4 h5 h6 h7 h8 = refl
not_on_one fun.This v k h0 h1 h2 h3 h4 h5 h6 h7 h8 = refl

pub not_on_two : (f : Fun) (u v : V.Value) → takes_any (fun_tree f) ≡ false → (f ≡ fun.Mod → ⊥) → (f ≡ fun.Left → ⊥) → (f ≡ fun.Right → ⊥) → (f ≡ fun.Sequence → ⊥) → (f ≡ fun.Filter → ⊥) → V.Value.One (V.Scalar.Err ErrKind.Value) ≡ apply (fun_tree f) (u ∷ v ∷ [])
unfolding apply
not_on_two fun.Sum u v k h0 h1 h2 h3 h4 = absurd (cc k)
not_on_two fun.Count u v k h0 h1 h2 h3 h4 = absurd (cc k)
not_on_two fun.Min u v k h0 h1 h2 h3 h4 = absurd (cc k)
not_on_two fun.Max u v k h0 h1 h2 h3 h4 = absurd (cc k)
not_on_two fun.And u v k h0 h1 h2 h3 h4 = absurd (cc k)
not_on_two fun.Or u v k h0 h1 h2 h3 h4 = absurd (cc k)
not_on_two fun.Mod u v k h0 h1 h2 h3 h4 = absurd (h0 refl)
not_on_two fun.Left u v k h0 h1 h2 h3 h4 = absurd (h1 refl)
not_on_two fun.Right u v k h0 h1 h2 h3 h4 = absurd (h2 refl)
not_on_two fun.Sequence u v k h0 h1 h2 h3 h4 = absurd (h3 refl)
not_on_two fun.HStack u v k h0 h1 h2 h3 h4 = absurd (cc k)
not_on_two fun.VStack u v k h0 h1 h2 h3 h4 = absurd (cc k)
not_on_two fun.Filter u v k h0 h1 h2 h3 h4 = absurd (h4 refl)
not_on_two fun.Not u v k h0 h1 h2 h3 h4 = refl
not_on_two fun.If u v k h0 h1 h2 h3 h4 = refl
not_on_two fun.IfError u v k h0 h1 h2 h3 h4 = refl
not_on_two fun.IsError u v k h0 h1 h2 h3 h4 = refl
not_on_two fun.IsBlank u v k h0 h1 h2 h3 h4 = refl
not_on_two fun.Abs u v k h0 h1 h2 h3 h4 = refl
not_on_two fun.Len u v k h0 h1 h2 h3 h4 = refl
not_on_two fun.Rows u v k h0 h1 h2 h3 h4 = refl
not_on_two fun.Columns u v k h0 h1 h2 h3 h4 = refl
not_on_two fun.Index u v k h0 h1 h2 h3 h4 = refl
not_on_two fun.Transpose u v k h0 h1 h2 h3 h4 = refl
not_on_two fun.Take u v k h0 h1 h2 h3 h4 = refl
not_on_two fun.Drop u v k h0 h1 h2 h3 h4 = refl
not_on_two fun.Unique u v k h0 h1 h2 h3 h4 = refl
not_on_two fun.Lookup u v k h0 h1 h2 h3 h4 = refl
not_on_two fun.Na u v k h0 h1 h2 h3 h4 = refl
not_on_two fun.Sheet u v k h0 h1 h2 h3 h4 = refl
not_on_two fun.Update u v k h0 h1 h2 h3 h4 = refl
not_on_two fun.View u v k h0 h1 h2 h3 h4 = refl
not_on_two fun.G u v k h0 h1 h2 h3 h4 = refl
not_on_two fun.This u v k h0 h1 h2 h3 h4 = refl
