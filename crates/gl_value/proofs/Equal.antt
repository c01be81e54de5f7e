-- The `==` of each type answers true exactly where the plain values are equal, and equal plain values hash alike.
use Rattle.std.proofs.Common.{◌≡◌, refl, true, false, ap}
use Rattle.gl_plane.specs.Exact.{exactly}
use Rattle.gl_calculus.proofs.Tests.{value_equality, frame_equality, scalar_equality, sheet_equality}
use Rattle.gl_calculus.specs.Values.Sheet as S
use Rattle.gl_calculus.specs.Calculation.Calculation as C
use Rattle.gl_value.specs.View.{value_tree, array_tree, frame_tree, scalar_tree, sheet_tree}
use Rattle.gl_value.proofs.DerivedEq.{eq_is_value, eq_is_array, eq_is_env, eq_is_scalar, eq_is_sheet}
use Rattle.gl_value.specs.Laws.{ErrorsCompareByTree, ScalarsCompareByTree, ArraysCompareByTree, ValuesCompareByTree, SheetsCompareByTree, FramesCompareByTree, ShownCompareByTree, MadeCompareByTree, ScalarsHashByTree, ArraysHashByTree, ValuesHashByTree, SheetsHashByTree, FramesHashByTree}
use Rattle.gl_value.specs.declared.ErrKind.TheVariants.{Ref, Value as ValueError, Div0, Num, Na, Spill, Size}
use Rattle.gl_value.specs.declared.Made.TheVariants.{Sheet, Outside, Deep, Heavy}
use Rattle.gl_value.specs.declared.Shown.TheVariants.{Cycle, Value}
use Rattle.gl_value.specs.contracts.ScalarHash.TheImpl.Laws.{respects_eq-law as scalar_alike}
use Rattle.gl_value.specs.contracts.ArrayHash.TheImpl.Laws.{respects_eq-law as array_alike}
use Rattle.gl_value.specs.contracts.ValueHash.TheImpl.Laws.{respects_eq-law as value_alike}
use Rattle.gl_value.specs.contracts.SheetValHash.TheImpl.Laws.{respects_eq-law as sheet_alike}
use Rattle.gl_value.specs.contracts.EnvHash.TheImpl.Laws.{respects_eq-law as frame_alike}

never : {P : Type 0} → false ≡ true → P
never h = absurd (cc h)

pub error_equal : ErrorsCompareByTree
error_equal Ref Ref = (λ h. refl, λ h. refl)
error_equal ValueError ValueError = (λ h. refl, λ h. refl)
error_equal Div0 Div0 = (λ h. refl, λ h. refl)
error_equal Num Num = (λ h. refl, λ h. refl)
error_equal Na Na = (λ h. refl, λ h. refl)
error_equal Spill Spill = (λ h. refl, λ h. refl)
error_equal Size Size = (λ h. refl, λ h. refl)
error_equal _ _ = (λ h. never h, λ h. cc)

pub scalar_equal : ScalarsCompareByTree
scalar_equal x y = rw eq_is_scalar (exactly scalar_equality (scalar_tree x) (scalar_tree y))

pub array_equal : ArraysCompareByTree
array_equal x y = rw eq_is_array (exactly value_equality (array_tree x) (array_tree y))

pub value_equal : ValuesCompareByTree
value_equal x y = rw eq_is_value (exactly value_equality (value_tree x) (value_tree y))

pub sheet_equal : SheetsCompareByTree
sheet_equal x y = rw eq_is_sheet (exactly sheet_equality (sheet_tree x) (sheet_tree y))

pub frame_equal : FramesCompareByTree
frame_equal x y = rw eq_is_env (exactly frame_equality (frame_tree x) (frame_tree y))

pub shown_equal : ShownCompareByTree
shown_equal Cycle Cycle = (λ h. refl, λ h. refl)
shown_equal Cycle (Value y) = (λ h. never h, λ h. cc)
shown_equal (Value x) Cycle = (λ h. never h, λ h. cc)
shown_equal (Value x) (Value y) = (λ h. ap C.Shown.Value ((scalar_equal x y).0 h), λ h. (scalar_equal x y).1 cc)

pub made_equal : MadeCompareByTree
made_equal (Sheet s) (Sheet t) = (λ h. ap S.Sheet ((sheet_equal s.value t.value).0 h), λ h. (sheet_equal s.value t.value).1 cc)
made_equal Outside Outside = (λ h. refl, λ h. refl)
made_equal Deep Deep = (λ h. refl, λ h. refl)
made_equal Heavy Heavy = (λ h. refl, λ h. refl)
made_equal _ _ = (λ h. never h, λ h. cc)

pub scalar_hash_alike : ScalarsHashByTree
scalar_hash_alike x y h = scalar_alike x y ((scalar_equal x y).1 h)

pub array_hash_alike : ArraysHashByTree
array_hash_alike x y h = array_alike x y ((array_equal x y).1 h)

pub value_hash_alike : ValuesHashByTree
value_hash_alike x y h = value_alike x y ((value_equal x y).1 h)

pub sheet_hash_alike : SheetsHashByTree
sheet_hash_alike x y h = sheet_alike x y ((sheet_equal x y).1 h)

pub frame_hash_alike : FramesHashByTree
frame_hash_alike x y h = frame_alike x y ((frame_equal x y).1 h)
