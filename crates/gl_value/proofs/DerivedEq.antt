-- The derived `==` of each type of the cycle is the test of its trees.
use Rattle.std.proofs.Common.{◌≡◌, Bool as Truth, true, false, ◌&&◌, ◌==◌, List, [], ◌∷◌, map, rules, refl, subst, ◌∙◌}
use lib.Pointwise.{pointwise}
use Rattle.gl_calculus.specs.Grid.Grid.{same_addr, same_range}
use Rattle.gl_calculus.specs.Values.Value as V
use Rattle.gl_calculus.specs.Values.Same.{same_bool, same_error, same_scalar, same_scalars, same_value, same_overrides, same_sheet, same_frame}
use Rattle.gl_plane.specs.declared.addr.Addr.{Addr}
use Rattle.gl_value.specs.Ints.{int_test}
use Rattle.gl_value.specs.View.{error_tree, scalar_tree, value_tree, array_tree, sheet_tree, frame_tree, item_trees, override_trees}
use Rattle.gl_value.specs.declared.ErrKind.{ErrKind}
use Rattle.gl_value.specs.declared.ErrKind.TheVariants.{Ref, Value as ValueError, Div0, Num, Na, Spill, Size}
use Rattle.gl_value.specs.declared.Scalar.{Scalar, roll-Scalar, out-Scalar, roll-out-Scalar, map-Scalar, ind-Scalar, the_lemmas}
use Rattle.gl_value.specs.declared.Value.{Value, roll-Value, out-Value, roll-out-Value, map-Value, ind-Value}
use Rattle.gl_value.specs.declared.Array.{Array as ArrayCode, roll-Array, out-Array, roll-out-Array, map-Array, ind-Array}
use Rattle.gl_value.specs.declared.SheetVal.{SheetVal, roll-SheetVal, out-SheetVal, roll-out-SheetVal, map-SheetVal, ind-SheetVal}
use Rattle.gl_value.specs.declared.Env.{Env, roll-Env, out-Env, roll-out-Env, map-Env, ind-Env}
use Rattle.gl_value.specs.declared.Env.TheOpen.{Env-F, Scalar-F, Value-F, Array-F, SheetVal-F}
use Rattle.gl_value.specs.contracts.EnvPartialEq.TheImpl.{ghosts as env}
use Rattle.gl_value.specs.contracts.EnvPartialEq.TheImpl.Laws.{is as env_is}
use Rattle.gl_value.specs.contracts.SheetValPartialEq.TheImpl.{ghosts as sheetval}
use Rattle.gl_value.specs.contracts.SheetValPartialEq.TheImpl.Laws.{is as sheetval_is}
use Rattle.gl_value.specs.contracts.ScalarPartialEq.TheImpl.{ghosts as scalar}
use Rattle.gl_value.specs.contracts.ScalarPartialEq.TheImpl.Laws.{is as scalar_is}
use Rattle.gl_value.specs.contracts.ValuePartialEq.TheImpl.{ghosts as value}
use Rattle.gl_value.specs.contracts.ValuePartialEq.TheImpl.Laws.{is as value_is}
use Rattle.gl_value.specs.contracts.ArrayPartialEq.TheImpl.{ghosts as array}
use Rattle.gl_value.specs.contracts.ArrayPartialEq.TheImpl.Laws.{is as array_is}
use Rattle.gl_value.specs.contracts.ErrKindPartialEq.TheImpl.{ghosts as errkind}

-- what is claimed of each type: its test agrees with that of the trees, at every other value
abbrev PE : Env → Type 0
PE x = (y : Env) → env.eq x y ≡ same_frame (frame_tree x) (frame_tree y)

abbrev PS : Scalar → Type 0
PS x = (y : Scalar) → scalar.eq x y ≡ same_scalar (scalar_tree x) (scalar_tree y)

abbrev PV : Value → Type 0
PV x = (y : Value) → value.eq x y ≡ same_value (value_tree x) (value_tree y)

abbrev PA : ArrayCode → Type 0
PA x = (y : ArrayCode) → array.eq x y ≡ same_value (array_tree x) (array_tree y)

abbrev PT : SheetVal → Type 0
PT x = (y : SheetVal) → sheetval.eq x y ≡ same_sheet (sheet_tree x) (sheet_tree y)

abbrev SE : Type 0
SE = (x : Env) × PE x

abbrev SS : Type 0
SS = (x : Scalar) × PS x

abbrev SV : Type 0
SV = (x : Value) × PV x

abbrev SA : Type 0
SA = (x : ArrayCode) × PA x

abbrev ST : Type 0
ST = (x : SheetVal) × PT x

abbrev env_of : Env-F SE SS SV SA ST → Env
env_of l = roll-Env (map-Env SE SS SV SA ST Env Scalar Value ArrayCode SheetVal (λ e. e.0) (λ e. e.0) (λ e. e.0) (λ e. e.0) (λ e. e.0) l)

abbrev scalar_of : Scalar-F SE SS SV SA ST → Scalar
scalar_of l = roll-Scalar (map-Scalar SE SS SV SA ST Env Scalar Value ArrayCode SheetVal (λ e. e.0) (λ e. e.0) (λ e. e.0) (λ e. e.0) (λ e. e.0) l)

abbrev value_of : Value-F SE SS SV SA ST → Value
value_of l = roll-Value (map-Value SE SS SV SA ST Env Scalar Value ArrayCode SheetVal (λ e. e.0) (λ e. e.0) (λ e. e.0) (λ e. e.0) (λ e. e.0) l)

abbrev array_of : Array-F SE SS SV SA ST → ArrayCode
array_of l = roll-Array (map-Array SE SS SV SA ST Env Scalar Value ArrayCode SheetVal (λ e. e.0) (λ e. e.0) (λ e. e.0) (λ e. e.0) (λ e. e.0) l)

abbrev sheet_of : SheetVal-F SE SS SV SA ST → SheetVal
sheet_of l = roll-SheetVal (map-SheetVal SE SS SV SA ST Env Scalar Value ArrayCode SheetVal (λ e. e.0) (λ e. e.0) (λ e. e.0) (λ e. e.0) (λ e. e.0) l)

env_cases : (l : Env-F SE SS SV SA ST) (z : Env-F Env Scalar Value ArrayCode SheetVal) → env.eq (env_of l) (roll-Env z) ≡ same_frame (frame_tree (env_of l)) (frame_tree (roll-Env z))
env_cases Env-F.Top Env-F.Top = search (rules, the_lemmas, env_is)
env_cases Env-F.Top (Env-F.In t w) = search (rules, the_lemmas, env_is)
env_cases (Env-F.In s v) Env-F.Top = search (rules, the_lemmas, env_is)
env_cases (Env-F.In s v) (Env-F.In t w) = let h = s.value.1 t.value in search (rules, the_lemmas, env_is, h)

value_cases : (l : Value-F SE SS SV SA ST) (z : Value-F Env Scalar Value ArrayCode SheetVal) → value.eq (value_of l) (roll-Value z) ≡ same_value (value_tree (value_of l)) (value_tree (roll-Value z))
value_cases (Value-F.One x) (Value-F.One y) = let h = x.1 y in search (rules, the_lemmas, value_is, h)
value_cases (Value-F.One x) (Value-F.Array b) = search (rules, the_lemmas, value_is)
value_cases (Value-F.Array a) (Value-F.One y) = search (rules, the_lemmas, value_is)
value_cases (Value-F.Array a) (Value-F.Array b) = let h = a.value.1 b.value in search (rules, the_lemmas, value_is, h)

truth_eq : (a b : Truth) → scalar.eq (roll-Scalar (Scalar-F.Bool a)) (roll-Scalar (Scalar-F.Bool b)) ≡ same_bool a b
truth_eq true true = search (rules, the_lemmas, scalar_is)
truth_eq true false = search (rules, the_lemmas, scalar_is)
truth_eq false true = search (rules, the_lemmas, scalar_is)
truth_eq false false = search (rules, the_lemmas, scalar_is)

error_eq : (e f : ErrKind) → errkind.eq e f ≡ same_error (error_tree e) (error_tree f)
error_eq Ref Ref = refl
error_eq ValueError ValueError = refl
error_eq Div0 Div0 = refl
error_eq Num Num = refl
error_eq Na Na = refl
error_eq Spill Spill = refl
error_eq Size Size = refl
error_eq _ _ = refl

scalar_cases : (l : Scalar-F SE SS SV SA ST) (z : Scalar-F Env Scalar Value ArrayCode SheetVal) → scalar.eq (scalar_of l) (roll-Scalar z) ≡ same_scalar (scalar_tree (scalar_of l)) (scalar_tree (roll-Scalar z))
scalar_cases Scalar-F.Blank Scalar-F.Blank = search (rules, the_lemmas, scalar_is)
scalar_cases (Scalar-F.Int m) (Scalar-F.Int n) = let h = int_test m n in search (rules, the_lemmas, scalar_is, h)
scalar_cases (Scalar-F.Bool a) (Scalar-F.Bool b) = let h = truth_eq a b in search (rules, the_lemmas, h)
scalar_cases (Scalar-F.Text s) (Scalar-F.Text t) = search (rules, the_lemmas, scalar_is)
scalar_cases (Scalar-F.Err e) (Scalar-F.Err f) = let h = error_eq e f in search (rules, the_lemmas, scalar_is, h)
scalar_cases (Scalar-F.Sheet s) (Scalar-F.Sheet t) = let h = s.value.1 t.value in search (rules, the_lemmas, scalar_is, h)
scalar_cases _ _ = search (rules, the_lemmas, scalar_is)

abbrev scalars_of : List SS → List Scalar
scalars_of ls = map (λ e. e.0) ls

items_eq : (ls : List SS) (ys : List Scalar) → pointwise scalar.eq (scalars_of ls) ys ≡ same_scalars (item_trees (scalars_of ls)) (item_trees ys)
items_eq [] [] = refl
items_eq [] (y ∷ ys) = refl
items_eq (x ∷ xs) [] = refl
items_eq (x ∷ xs) (y ∷ ys) = rw (x.1 y, items_eq xs ys) refl

array_cases : (l : Array-F SE SS SV SA ST) (z : Array-F Env Scalar Value ArrayCode SheetVal) → array.eq (array_of l) (roll-Array z) ≡ same_value (array_tree (array_of l)) (array_tree (roll-Array z))
array_cases l z = let h = items_eq l.items.items z.items.items in search (rules, the_lemmas, array_is, h)

abbrev pairs_of : List (Addr × SV) → List (Addr × Value)
pairs_of ls = map (λ o. (o.0, o.1.0)) ls

overrides_eq : (ls : List (Addr × SV)) (os : List (Addr × Value)) → pointwise (λ p q. same_addr p.0 q.0 && value.eq p.1 q.1) (pairs_of ls) os ≡ same_overrides (override_trees (pairs_of ls)) (override_trees os)
overrides_eq [] [] = refl
overrides_eq [] (y ∷ ys) = refl
overrides_eq (x ∷ xs) [] = refl
overrides_eq (x ∷ xs) (y ∷ ys) = rw (x.1.1 y.1, overrides_eq xs ys) refl

alone : (e : Truth) → (e && true) ≡ e
alone true = refl
alone false = refl

never : (e : Truth) → (e && false) ≡ false
never true = refl
never false = refl

-- the test of sheet values in the order of the fields, the cheap ones first
abbrev nested : V.SheetValue → V.SheetValue → Truth
nested (V.sheet_value r os e k v) (V.sheet_value q ps f l w) = k == l && (v == w && (same_range r q && (same_overrides os ps && same_frame e f)))

regroup : (a b c d e : Truth) → (d && (e && (a && (b && c)))) ≡ ((((a && b) && c) && d) && e)
regroup true true true true e = alone e
regroup true true true false e = refl
regroup true true false true e = never e
regroup true true false false e = refl
regroup true false c true e = never e
regroup true false c false e = refl
regroup false b c true e = never e
regroup false b c false e = refl

nested_is : (s t : V.SheetValue) → nested s t ≡ same_sheet s t
nested_is (V.sheet_value r os e k v) (V.sheet_value q ps f l w) = regroup (same_range r q) (same_overrides os ps) (same_frame e f) (k == l) (v == w)

sheet_cases : (l : SheetVal-F SE SS SV SA ST) (z : SheetVal-F Env Scalar Value ArrayCode SheetVal) → sheetval.eq (sheet_of l) (roll-SheetVal z) ≡ same_sheet (sheet_tree (sheet_of l)) (sheet_tree (roll-SheetVal z))
sheet_cases l z =
    let h = overrides_eq l.overrides.items z.overrides.items in
    let k = l.env.1 z.env in
    let e : sheetval.eq (sheet_of l) (roll-SheetVal z) ≡ nested (sheet_tree (sheet_of l)) (sheet_tree (roll-SheetVal z)) = search (rules, the_lemmas, sheetval_is, h, k) in
    e ∙ nested_is (sheet_tree (sheet_of l)) (sheet_tree (roll-SheetVal z))

env_step : (x : Env-F Env Scalar Value ArrayCode SheetVal) (l : Env-F SE SS SV SA ST) → map-Env SE SS SV SA ST Env Scalar Value ArrayCode SheetVal (λ e. e.0) (λ e. e.0) (λ e. e.0) (λ e. e.0) (λ e. e.0) l ≡ x → PE (roll-Env x)
env_step x l e = subst (λ x. PE (roll-Env x)) e (λ y. subst (λ y. env.eq (env_of l) y ≡ same_frame (frame_tree (env_of l)) (frame_tree y)) (roll-out-Env y) (env_cases l (out-Env y)))

scalar_step : (x : Scalar-F Env Scalar Value ArrayCode SheetVal) (l : Scalar-F SE SS SV SA ST) → map-Scalar SE SS SV SA ST Env Scalar Value ArrayCode SheetVal (λ e. e.0) (λ e. e.0) (λ e. e.0) (λ e. e.0) (λ e. e.0) l ≡ x → PS (roll-Scalar x)
scalar_step x l e = subst (λ x. PS (roll-Scalar x)) e (λ y. subst (λ y. scalar.eq (scalar_of l) y ≡ same_scalar (scalar_tree (scalar_of l)) (scalar_tree y)) (roll-out-Scalar y) (scalar_cases l (out-Scalar y)))

value_step : (x : Value-F Env Scalar Value ArrayCode SheetVal) (l : Value-F SE SS SV SA ST) → map-Value SE SS SV SA ST Env Scalar Value ArrayCode SheetVal (λ e. e.0) (λ e. e.0) (λ e. e.0) (λ e. e.0) (λ e. e.0) l ≡ x → PV (roll-Value x)
value_step x l e = subst (λ x. PV (roll-Value x)) e (λ y. subst (λ y. value.eq (value_of l) y ≡ same_value (value_tree (value_of l)) (value_tree y)) (roll-out-Value y) (value_cases l (out-Value y)))

array_step : (x : Array-F Env Scalar Value ArrayCode SheetVal) (l : Array-F SE SS SV SA ST) → map-Array SE SS SV SA ST Env Scalar Value ArrayCode SheetVal (λ e. e.0) (λ e. e.0) (λ e. e.0) (λ e. e.0) (λ e. e.0) l ≡ x → PA (roll-Array x)
array_step x l e = subst (λ x. PA (roll-Array x)) e (λ y. subst (λ y. array.eq (array_of l) y ≡ same_value (array_tree (array_of l)) (array_tree y)) (roll-out-Array y) (array_cases l (out-Array y)))

sheet_step : (x : SheetVal-F Env Scalar Value ArrayCode SheetVal) (l : SheetVal-F SE SS SV SA ST) → map-SheetVal SE SS SV SA ST Env Scalar Value ArrayCode SheetVal (λ e. e.0) (λ e. e.0) (λ e. e.0) (λ e. e.0) (λ e. e.0) l ≡ x → PT (roll-SheetVal x)
sheet_step x l e = subst (λ x. PT (roll-SheetVal x)) e (λ y. subst (λ y. sheetval.eq (sheet_of l) y ≡ same_sheet (sheet_tree (sheet_of l)) (sheet_tree y)) (roll-out-SheetVal y) (sheet_cases l (out-SheetVal y)))

-- the derived `==` of Env compares the trees
pub eq_is_env : (x y : Env) → env.eq x y ≡ same_frame (frame_tree x) (frame_tree y)
eq_is_env = ind-Env PE PS PV PA PT env_step scalar_step value_step array_step sheet_step

-- the derived `==` of Scalar compares the trees
pub eq_is_scalar : (x y : Scalar) → scalar.eq x y ≡ same_scalar (scalar_tree x) (scalar_tree y)
eq_is_scalar = ind-Scalar PE PS PV PA PT env_step scalar_step value_step array_step sheet_step

-- the derived `==` of Value compares the trees
pub eq_is_value : (x y : Value) → value.eq x y ≡ same_value (value_tree x) (value_tree y)
eq_is_value = ind-Value PE PS PV PA PT env_step scalar_step value_step array_step sheet_step

-- the derived `==` of Array compares the trees
pub eq_is_array : (x y : ArrayCode) → array.eq x y ≡ same_value (array_tree x) (array_tree y)
eq_is_array = ind-Array PE PS PV PA PT env_step scalar_step value_step array_step sheet_step

-- the derived `==` of SheetVal compares the trees
pub eq_is_sheet : (x y : SheetVal) → sheetval.eq x y ≡ same_sheet (sheet_tree x) (sheet_tree y)
eq_is_sheet = ind-SheetVal PE PS PV PA PT env_step scalar_step value_step array_step sheet_step
