-- The variables that are bound, one after another.
use Rattle.std.proofs.Common.{◌≡◌, ℕ, ◌+◌, ◌<◌, ◌≤◌, Bool, cond, List, [], ◌∷◌, ◌++◌, append_assoc, drop, get_or, length, refl, ap, sym, ◌∙◌}
use Rattle.std.proofs.lemmas.List.{at_drop_more, at_drop_all, append-nil}
use Rattle.std.specs.Prelude.{bytes_eq, None}
use Rattle.std.specs.Rc.{rc_str_bytes}
use Rattle.std.specs.declared.alloc.Global.{Global}
use Rattle.std.specs.declared.rc.RcStr.{RcStr}
use Rattle.gl_calculus.specs.Forecast.{Shape, bound_shape}
use Rattle.gl_flow.specs.Shapes.{bindings_of}

pub first_is : (bs : List (RcStr Global × Shape)) (i : ℕ) (x : RcStr Global × Shape) (name : List ℕ) (b : Bool) → i < length bs → x ≡ get_or bs i x → bytes_eq (rc_str_bytes x.0) name ≡ b
    → bound_shape (bindings_of (drop i bs)) name ≡ cond b x.1 (bound_shape (bindings_of (drop (i + 1) bs)) name)
first_is bs i x name b h is e =
    at_drop_more (λ l. bound_shape (bindings_of l) name) bs i x h
    ∙ ap (λ z. bound_shape (bindings_of (z ∷ drop (i + 1) bs)) name) (sym is)
    ∙ ap (λ c. cond c x.1 (bound_shape (bindings_of (drop (i + 1) bs)) name)) e

pub none_is : (bs : List (RcStr Global × Shape)) (i : ℕ) (name : List ℕ) → length bs ≤ i → bound_shape (bindings_of (drop i bs)) name ≡ None
none_is bs i name h = at_drop_all (λ l. bound_shape (bindings_of l) name) bs i h

bindings_append : (xs ys : List (RcStr Global × Shape)) → bindings_of (xs ++ ys) ≡ bindings_of xs ++ bindings_of ys
bindings_append [] ys = refl
bindings_append (x ∷ xs) ys = ap (λ t. (rc_str_bytes x.0, x.1) ∷ t) (bindings_append xs ys)

pub push_step : (out xs : List (RcStr Global × Shape)) (i : ℕ) (x y : RcStr Global × Shape) → i < length xs → x ≡ get_or xs i x → rc_str_bytes y.0 ≡ rc_str_bytes x.0 → y.1 ≡ x.1
    → bindings_of (out ++ y ∷ []) ++ bindings_of (drop (i + 1) xs) ≡ bindings_of out ++ bindings_of (drop i xs)
push_step out xs i x y h is n v =
    ap (λ l. l ++ bindings_of (drop (i + 1) xs)) (bindings_append out (y ∷ []))
    ∙ append_assoc (bindings_of out) ((rc_str_bytes y.0, y.1) ∷ []) (bindings_of (drop (i + 1) xs))
    ∙ ap (λ z. bindings_of out ++ (z, y.1) ∷ bindings_of (drop (i + 1) xs)) n
    ∙ ap (λ z. bindings_of out ++ (rc_str_bytes x.0, z) ∷ bindings_of (drop (i + 1) xs)) v
    ∙ ap (λ z. bindings_of out ++ bindings_of (z ∷ drop (i + 1) xs)) is
    ∙ sym (at_drop_more (λ l. bindings_of out ++ bindings_of l) xs i x h)

pub done_step : (out xs : List (RcStr Global × Shape)) (i : ℕ) → length xs ≤ i → bindings_of out ++ bindings_of (drop i xs) ≡ bindings_of out
done_step out xs i h = at_drop_all (λ l. bindings_of out ++ bindings_of l) xs i h ∙ append-nil (bindings_of out)
