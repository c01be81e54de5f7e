-- The variables that are bound, one after another.
use Rattle.std.proofs.Common.{◌≡◌, ℕ, ◌+◌, ◌<◌, ◌≤◌, Bool, true, false, cond, List, [], ◌∷◌, ◌++◌, ◌&&◌, append_assoc, drop, get_or, length, Result, IfOk, IsTrue, refl, ap, sym, ◌∙◌}
use Rattle.std.proofs.lemmas.Bool.{and_parts, and_from}
use Rattle.std.proofs.lemmas.List.{at_drop_more, at_drop_all, append-nil}
use Rattle.std.proofs.lemmas.Result.{IfOk-weaker}
use Rattle.std.specs.Prelude.{bytes_eq}
use Rattle.std.specs.Rc.{rc_str_bytes}
use Rattle.std.specs.declared.alloc.Global.{Global}
use Rattle.std.specs.declared.boxed.Box.{Box}
use Rattle.std.specs.declared.rc.RcStr.{RcStr}
use Rattle.gl_calculus.specs.Values.Value as V
use Rattle.gl_calculus.specs.Formulas.Formula as F
use Rattle.gl_calculus.specs.Formulas.Formula.{Version}
use Rattle.gl_calculus.specs.Evaluation.Key.{give, ◌>>=◌}
use Rattle.gl_calculus.specs.Evaluation.Evaluation as E
use Rattle.gl_calculus.specs.Evaluation.Sound.{is_sound_value}
use Rattle.gl_ast.specs.View.{formula_tree}
use Rattle.gl_ast.specs.Forms.{formula_tree-Var, formula_tree-Let}
use Rattle.gl_ast.specs.declared.Formula.{Formula}
use Rattle.gl_ast.specs.declared.Formula.TheVariants as form
use Rattle.gl_value.specs.View.{value_tree}
use Rattle.gl_value.specs.declared.Value.{Value}
use Rattle.gl_demand.specs.Scope.{bindings_of, are_sound_bindings}
use Rattle.gl_demand.specs.declared.trail.Halt.{Halt}

pub var_is : (v : Version) (e : V.Frame) (bs : E.Bindings) (f : Formula) (x : RcStr Global) → f ≡ form.Var x → E.eval v e bs (formula_tree f) ≡ give (E.bound bs (rc_str_bytes x))
var_is v e bs f x i = ap (λ z. E.eval v e bs (formula_tree z)) i ∙ ap (E.eval v e bs) (formula_tree-Var x)

-- the first of the rest either is the variable or is passed over
pub first_is : (bs : List (RcStr Global × Value)) (i : ℕ) (x : RcStr Global × Value) (name : List ℕ) (b : Bool) → i < length bs → x ≡ get_or bs i x → bytes_eq (rc_str_bytes x.0) name ≡ b
    → E.bound (bindings_of (drop i bs)) name ≡ cond b (value_tree x.1) (E.bound (bindings_of (drop (i + 1) bs)) name)
first_is bs i x name b h is e =
    at_drop_more (λ l. E.bound (bindings_of l) name) bs i x h
    ∙ ap (λ z. E.bound (bindings_of (z ∷ drop (i + 1) bs)) name) (sym is)
    ∙ ap (λ c. cond c (value_tree x.1) (E.bound (bindings_of (drop (i + 1) bs)) name)) e

pub none_is : (bs : List (RcStr Global × Value)) (i : ℕ) (name : List ℕ) → length bs ≤ i → E.bound (bindings_of (drop i bs)) name ≡ V.Value.One V.Scalar.Blank
none_is bs i name h = at_drop_all (λ l. E.bound (bindings_of l) name) bs i h

sound_either : (b : Bool) (v u : V.Value) → is_sound_value v ≡ true → is_sound_value u ≡ true → is_sound_value (cond b v u) ≡ true
sound_either true v u h k = h
sound_either false v u h k = k

bound_sound : (bs : List (RcStr Global × Value)) (name : List ℕ) → are_sound_bindings bs ≡ true → is_sound_value (E.bound (bindings_of bs) name) ≡ true
bound_sound [] name h = refl
bound_sound (b ∷ bs) name h =
    let p = and_parts (is_sound_value (value_tree b.1)) (are_sound_bindings bs) h in
    sound_either (bytes_eq (rc_str_bytes b.0) name) (value_tree b.1) (E.bound (bindings_of bs) name) p.0 (bound_sound bs name p.1)

pub found_sound : (r : Result Value Halt) (bs : List (RcStr Global × Value)) (name : List ℕ) → IfOk r (λ v. value_tree v ≡ E.bound (bindings_of bs) name) → are_sound_bindings bs ≡ true → IfOk r (λ v. is_sound_value (value_tree v) ≡ true)
found_sound r bs name h k = IfOk-weaker r (λ v. value_tree v ≡ E.bound (bindings_of bs) name) (λ v. is_sound_value (value_tree v) ≡ true) (λ v e. ap is_sound_value e ∙ bound_sound bs name k) h

-- ---- one variable more

bindings_append : (xs ys : List (RcStr Global × Value)) → bindings_of (xs ++ ys) ≡ bindings_of xs ++ bindings_of ys
bindings_append [] ys = refl
bindings_append (x ∷ xs) ys = ap (λ l. (rc_str_bytes x.0, value_tree x.1) ∷ l) (bindings_append xs ys)

pub push_step : (out xs : List (RcStr Global × Value)) (i : ℕ) (x y : RcStr Global × Value) → i < length xs → x ≡ get_or xs i x → rc_str_bytes y.0 ≡ rc_str_bytes x.0 → value_tree y.1 ≡ value_tree x.1
    → bindings_of (out ++ y ∷ []) ++ bindings_of (drop (i + 1) xs) ≡ bindings_of out ++ bindings_of (drop i xs)
push_step out xs i x y h is n v =
    ap (λ l. l ++ bindings_of (drop (i + 1) xs)) (bindings_append out (y ∷ []))
    ∙ append_assoc (bindings_of out) ((rc_str_bytes y.0, value_tree y.1) ∷ []) (bindings_of (drop (i + 1) xs))
    ∙ ap (λ z. bindings_of out ++ (z, value_tree y.1) ∷ bindings_of (drop (i + 1) xs)) n
    ∙ ap (λ z. bindings_of out ++ (rc_str_bytes x.0, z) ∷ bindings_of (drop (i + 1) xs)) v
    ∙ ap (λ z. bindings_of out ++ bindings_of (z ∷ drop (i + 1) xs)) is
    ∙ sym (at_drop_more (λ l. bindings_of out ++ bindings_of l) xs i x h)

pub done_step : (out xs : List (RcStr Global × Value)) (i : ℕ) → length xs ≤ i → bindings_of out ++ bindings_of (drop i xs) ≡ bindings_of out
done_step out xs i h = at_drop_all (λ l. bindings_of out ++ bindings_of l) xs i h ∙ append-nil (bindings_of out)

abbrev sound_list : E.Bindings → Bool
sound_list [] = true
sound_list (b ∷ bs) = is_sound_value b.1 && sound_list bs

sound_same : (xs : List (RcStr Global × Value)) → are_sound_bindings xs ≡ sound_list (bindings_of xs)
sound_same [] = refl
sound_same (x ∷ xs) = ap (λ b. is_sound_value (value_tree x.1) && b) (sound_same xs)

pub sound_more : (xs ys : List (RcStr Global × Value)) (name : List ℕ) (v : V.Value) → bindings_of xs ≡ (name, v) ∷ bindings_of ys → IsTrue (is_sound_value v) → IsTrue (are_sound_bindings ys) → IsTrue (are_sound_bindings xs)
sound_more xs ys name v e h k =
    sound_same xs ∙ ap sound_list e ∙ and_from (is_sound_value v) (sound_list (bindings_of ys)) h (sym (sound_same ys) ∙ k)

pub let_is : (v : Version) (e : V.Frame) (bs : E.Bindings) (f : Formula) (x : RcStr Global) (g body : Box Formula Global) (h i : Formula) → f ≡ form.Let x g body → h ≡ g.value → i ≡ body.value
    → E.eval v e bs (formula_tree f) ≡ (E.eval v e bs (formula_tree h) >>= λ u. E.eval v e ((rc_str_bytes x, u) ∷ bs) (formula_tree i))
let_is v e bs f x g body h i j k l =
    ap (λ z. E.eval v e bs (formula_tree z)) j ∙ ap (E.eval v e bs) (formula_tree-Let x g body)
    ∙ ap (λ z. E.eval v e bs (F.Formula.Let (rc_str_bytes x) (formula_tree z) (formula_tree body.value))) (sym k)
    ∙ ap (λ z. E.eval v e bs (F.Formula.Let (rc_str_bytes x) (formula_tree h) (formula_tree z))) (sym l)
