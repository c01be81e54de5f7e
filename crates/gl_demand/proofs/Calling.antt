-- Calls by their functions and their arguments.
use Rattle.std.proofs.Common.{◌≡◌, zero, suc, List, [], ◌∷◌, ◌++◌, length, map, ◌≤◌, ◌<◌, get_or, drop, arith, Result, Ok, Err, IfOk, IfErr, IsTrue, refl, ap, sym, subst, ◌∙◌, append_assoc}
use Rattle.std.proofs.lemmas.List.{append-nil, map-append}
use Rattle.std.specs.declared.alloc.Global.{Global}
use Rattle.std.specs.declared.vec.Vec.{Vec}
use Rattle.gl_calculus.specs.Computation.Query.{Ready, Need}
use Rattle.gl_calculus.specs.Computation.Evaluation.{Demand}
use Rattle.gl_calculus.specs.Evaluation.Sound.{is_sound_value}
use Rattle.gl_calculus.specs.Values.Value as V
use Rattle.gl_calculus.specs.Values.Value.{Frame, In}
use Rattle.gl_calculus.specs.Formulas.Formula as F
use Rattle.gl_calculus.specs.Formulas.Formula.{Version}
use Rattle.gl_calculus.specs.Values.Functions as A
use Rattle.gl_calculus.specs.Values.Sheet as S
use Rattle.gl_calculus.specs.Evaluation.Key.{Settle, Budget, Eval, give, on_result, settled_oracle, ◌>>=◌}
use Rattle.gl_calculus.specs.Evaluation.Evaluation as E
use Rattle.gl_ast.specs.View.{formula_tree, argument_trees, fun_tree}
use Rattle.gl_ast.specs.Forms.{formula_tree-Call}
use Rattle.gl_ast.specs.declared.Fun.{Fun}
use Rattle.gl_ast.specs.declared.Fun.TheVariants as fun
use Rattle.gl_ast.specs.declared.Formula.{Formula}
use Rattle.gl_ast.specs.declared.Formula.TheVariants as form
use Rattle.gl_value.specs.View.{value_tree, error_tree}
use Rattle.gl_value.specs.Forms.{value_tree-One, scalar_tree-Err}
use Rattle.gl_value.specs.declared.ErrKind.{ErrKind}
use Rattle.gl_value.specs.declared.Scalar.{Err as ScalarErr}
use Rattle.gl_value.specs.declared.Value.{Value, One}
use Rattle.gl_demand.specs.Choices.{by_choice, by_replacement}
use Rattle.gl_funs.specs.Elements.{AreSound}
use Rattle.gl_demand.specs.Values.{plain_call}
use Rattle.gl_demand.specs.Walk.{Inputs, Trail, End, walk, then_walk}
use Rattle.gl_demand.specs.Walks.{Walks, trail_tree}
use Rattle.gl_demand.specs.declared.choosing.Choice.{Choice}
use Rattle.gl_demand.specs.declared.choosing.Replacement.{Replacement}
use Rattle.gl_demand.specs.declared.trail.Trail as Code
use Rattle.gl_demand.specs.declared.trail.Halt.{Halt}
use Rattle.gl_demand.specs.declared.trail.Halt.TheVariants as halt
use Rattle.gl_demand.proofs.Walking.{over, Same, still, same_part, same_then, walk-bind, walk-on, halts, later}
use Rattle.gl_demand.proofs.References.{gives}
use Rattle.gl_demand.proofs.Parts.{one_then, one_halts}

-- ---- lists with few items

pub no_items : {X : Type 0} (xs : List X) → length xs < 1 → xs ≡ []
no_items [] h = refl
no_items (x ∷ xs) h = absurd (omega arith)

pub first_item : {X : Type 0} (xs : List X) (a : X) → 1 ≤ length xs → a ≡ get_or xs 0 a → xs ≡ a ∷ drop 1 xs
first_item [] a m i = absurd (omega arith)
first_item (x ∷ xs) a m i = ap (λ z. z ∷ xs) (sym i)

pub first_items : {X : Type 0} (xs : List X) (a b : X) → 2 ≤ length xs → a ≡ get_or xs 0 a → b ≡ get_or xs 1 b → xs ≡ a ∷ b ∷ drop 2 xs
first_items [] a b m i j = absurd (omega arith)
first_items (x ∷ []) a b m i j = absurd (omega arith)
first_items (x ∷ y ∷ xs) a b m i j = ap (λ z. z ∷ y ∷ xs) (sym i) ∙ ap (λ z. a ∷ z ∷ xs) (sym j)

pub one_item : {X : Type 0} (xs : List X) (a : X) → 1 ≤ length xs → length xs < 2 → a ≡ get_or xs 0 a → xs ≡ a ∷ []
one_item [] a m n i = absurd (omega arith)
one_item (x ∷ []) a m n i = cc
one_item (x ∷ y ∷ xs) a m n i = absurd (omega arith)

pub two_items : {X : Type 0} (xs : List X) (a b : X) → 2 ≤ length xs → length xs < 3 → a ≡ get_or xs 0 a → b ≡ get_or xs 1 b → xs ≡ a ∷ b ∷ []
two_items [] a b m n i j = absurd (omega arith)
two_items (x ∷ []) a b m n i j = absurd (omega arith)
two_items (x ∷ y ∷ []) a b m n i j = cc
two_items (x ∷ y ∷ z ∷ xs) a b m n i j = absurd (omega arith)

pub three_items : {X : Type 0} (xs : List X) (a b c : X) → 3 ≤ length xs → length xs < 4 → a ≡ get_or xs 0 a → b ≡ get_or xs 1 b → c ≡ get_or xs 2 c → xs ≡ a ∷ b ∷ c ∷ []
three_items [] a b c m n i j k = absurd (omega arith)
three_items (x ∷ []) a b c m n i j k = absurd (omega arith)
three_items (x ∷ y ∷ []) a b c m n i j k = absurd (omega arith)
three_items (x ∷ y ∷ z ∷ []) a b c m n i j k = cc
three_items (x ∷ y ∷ z ∷ u ∷ xs) a b c m n i j k = absurd (omega arith)

pub none_sound : AreSound []
none_sound = λ k d h. absurd (omega arith)

pub one_sound : (x : Value) → IsTrue (is_sound_value (value_tree x)) → AreSound (x ∷ [])
one_sound x h zero d l = h
one_sound x h (suc k) d l = absurd (omega arith)

-- ---- calls by their arguments

module _ (v : Version) (e : Frame) (bs : E.Bindings) where
  abbrev pub value : Formula → Eval V.Value
  value f = E.eval v e bs (formula_tree f)

  abbrev pub args : List Formula → List E.Argument
  args xs = E.arguments v e bs (argument_trees xs)

  abbrev pub called : F.Fun → List Formula → Eval V.Value
  called f xs = E.call v e f (args xs)

  -- all arguments evaluated
  abbrev pub plain : F.Fun → List Formula → Eval V.Value
  plain f xs = plain_call f (args xs)

  pub call_is : (f : Formula) (g : Fun) (xs : Vec Formula Global) (ys : List Formula) → f ≡ form.Call g xs → ys ≡ xs.items → value f ≡ called (fun_tree g) ys
  call_is f g xs ys i j = ap value i ∙ ap (E.eval v e bs) (formula_tree-Call g xs) ∙ ap (called (fun_tree g)) (sym j)

  pub if_is : (xs : List Formula) (c t f : Formula) → xs ≡ c ∷ t ∷ f ∷ [] → called F.Fun.If xs ≡ (value c >>= λ u. E.choose v u (value t) (value f))
  if_is xs c t f h = ap (called F.Fun.If) h

  pub if_error_is : (xs : List Formula) (x y : Formula) → xs ≡ x ∷ y ∷ [] → called F.Fun.IfError xs ≡ (value x >>= λ u. E.replace v u (value y))
  if_error_is xs x y h = ap (called F.Fun.IfError) h

  pub sheet_is : (xs : List Formula) (r : Formula) → xs ≡ r ∷ [] → called F.Fun.Sheet xs ≡ E.made (S.sheet e (E.written_range (formula_tree r)))
  sheet_is xs r h = ap (called F.Fun.Sheet) h

  pub update_is : (xs : List Formula) (s a f : Formula) → xs ≡ s ∷ a ∷ f ∷ [] → called F.Fun.Update xs ≡ (value s >>= λ u. value f >>= λ z. E.on_sheet (λ x. E.made (S.update e x (E.written_address (formula_tree a)) z)) u)
  update_is xs s a f h = ap (called F.Fun.Update) h

  -- a place in a sheet value
  abbrev pub seen_in : Formula → V.Value → Eval V.Value
  seen_in r = E.on_sheet (λ s. Demand (Settle s) (λ x. settled_oracle x >>= λ o. E.at_written (In s o) (formula_tree r)))

  pub view_is : (xs : List Formula) (s r : Formula) → xs ≡ s ∷ r ∷ [] → called F.Fun.View xs ≡ (value s >>= seen_in r)
  view_is xs s r h = ap (called F.Fun.View) h

  pub this_is : (xs : List Formula) → xs ≡ [] → called F.Fun.This xs ≡ give (E.this e)
  this_is xs h = ap (called F.Fun.This) h

-- ---- no other number of arguments

module _ (v : Version) (e : Frame) (bs : E.Bindings) where
  pub if_plain : (xs : List Formula) → (length xs ≡ 3 → ⊥) → called v e bs F.Fun.If xs ≡ plain v e bs F.Fun.If xs
  if_plain [] h = refl
  if_plain (a ∷ []) h = refl
  if_plain (a ∷ b ∷ []) h = refl
  if_plain (a ∷ b ∷ c ∷ []) h = absurd (h refl)
  if_plain (a ∷ b ∷ c ∷ d ∷ xs) h = refl

  pub if_error_plain : (xs : List Formula) → (length xs ≡ 2 → ⊥) → called v e bs F.Fun.IfError xs ≡ plain v e bs F.Fun.IfError xs
  if_error_plain [] h = refl
  if_error_plain (a ∷ []) h = refl
  if_error_plain (a ∷ b ∷ []) h = absurd (h refl)
  if_error_plain (a ∷ b ∷ c ∷ xs) h = refl

  pub sheet_plain : (xs : List Formula) → (length xs ≡ 1 → ⊥) → called v e bs F.Fun.Sheet xs ≡ plain v e bs F.Fun.Sheet xs
  sheet_plain [] h = refl
  sheet_plain (a ∷ []) h = absurd (h refl)
  sheet_plain (a ∷ b ∷ xs) h = refl

  pub update_plain : (xs : List Formula) → (length xs ≡ 3 → ⊥) → called v e bs F.Fun.Update xs ≡ plain v e bs F.Fun.Update xs
  update_plain [] h = refl
  update_plain (a ∷ []) h = refl
  update_plain (a ∷ b ∷ []) h = refl
  update_plain (a ∷ b ∷ c ∷ []) h = absurd (h refl)
  update_plain (a ∷ b ∷ c ∷ d ∷ xs) h = refl

  pub view_plain : (xs : List Formula) → (length xs ≡ 2 → ⊥) → called v e bs F.Fun.View xs ≡ plain v e bs F.Fun.View xs
  view_plain [] h = refl
  view_plain (a ∷ []) h = refl
  view_plain (a ∷ b ∷ []) h = absurd (h refl)
  view_plain (a ∷ b ∷ c ∷ xs) h = refl

  pub group_plain : (xs : List Formula) → xs ≡ [] → called v e bs F.Fun.G xs ≡ plain v e bs F.Fun.G xs
  group_plain xs h = ap (called v e bs F.Fun.G) h ∙ ap (plain v e bs F.Fun.G) (sym h)

  pub this_plain : (xs : List Formula) → (length xs ≡ 0 → ⊥) → called v e bs F.Fun.This xs ≡ plain v e bs F.Fun.This xs
  this_plain [] h = absurd (h refl)
  this_plain (a ∷ xs) h = refl

  -- the other functions
  pub other_plain : (f : Fun) (xs : List Formula) → (f ≡ fun.If → ⊥) → (f ≡ fun.IfError → ⊥) → (f ≡ fun.Sheet → ⊥) → (f ≡ fun.Update → ⊥) → (f ≡ fun.View → ⊥) → (f ≡ fun.G → ⊥) → (f ≡ fun.This → ⊥) → called v e bs (fun_tree f) xs ≡ plain v e bs (fun_tree f) xs
  other_plain fun.If xs a b c d i j k = absurd (a refl)
  other_plain fun.IfError xs a b c d i j k = absurd (b refl)
  other_plain fun.Sheet xs a b c d i j k = absurd (c refl)
  other_plain fun.Update xs a b c d i j k = absurd (d refl)
  other_plain fun.View xs a b c d i j k = absurd (i refl)
  other_plain fun.G xs a b c d i j k = absurd (j refl)
  other_plain fun.This xs a b c d i j k = absurd (k refl)
  other_plain f xs a b c d i j k = refl

-- ---- IF and IFERROR

module _ (w : Inputs) (v : Version) (e : Frame) (bs : E.Bindings) where
  -- an error is given
  pub fails_with : (k : ErrKind) (t : Code.Trail) → Walks w (give (V.Value.One (V.Scalar.Err (error_tree k)))) value_tree t (Ok (One (ScalarErr k))) t
  fails_with k t = ap (λ x. (Ready (Ok x), trail_tree t)) (sym (value_tree-One (ScalarErr k) ∙ ap V.Value.One (scalar_tree-Err k)))

  module _ (xs : List Formula) (c t f : Formula) (h : xs ≡ c ∷ t ∷ f ∷ []) where
    pub if_halts : (old new : Code.Trail) (n : Halt) → Walks w (value v e bs c) value_tree old (Err n) new → Walks w (called v e bs F.Fun.If xs) value_tree old (Err n) new
    if_halts old new n a = one_halts w (called v e bs F.Fun.If xs) (value v e bs c) (λ u. E.choose v u (value v e bs t) (value v e bs f)) value_tree value_tree old new n (if_is v e bs xs c t f h) a

    pub if_chosen : (k : Choice) (old mid new : Code.Trail) (u : Value) (r : Result Value Halt) → Walks w (value v e bs c) value_tree old (Ok u) mid
        → ((p q : Eval V.Value) → E.choose v (value_tree u) p q ≡ by_choice k (value_tree u) p q)
        → Walks w (by_choice k (value_tree u) (value v e bs t) (value v e bs f)) value_tree mid r new
        → Walks w (called v e bs F.Fun.If xs) value_tree old r new
    if_chosen k old mid new u r a b d =
        one_then w (called v e bs F.Fun.If xs) (value v e bs c) (λ z. E.choose v z (value v e bs t) (value v e bs f)) value_tree value_tree old mid new u r (if_is v e bs xs c t f h) a
        (subst (λ z. Walks w z value_tree mid r new) (sym (b (value v e bs t) (value v e bs f))) d)

  module _ (xs : List Formula) (x y : Formula) (h : xs ≡ x ∷ y ∷ []) where
    pub if_error_halts : (old new : Code.Trail) (n : Halt) → Walks w (value v e bs x) value_tree old (Err n) new → Walks w (called v e bs F.Fun.IfError xs) value_tree old (Err n) new
    if_error_halts old new n a = one_halts w (called v e bs F.Fun.IfError xs) (value v e bs x) (λ u. E.replace v u (value v e bs y)) value_tree value_tree old new n (if_error_is v e bs xs x y h) a

    pub if_error_chosen : (k : Replacement) (old mid new : Code.Trail) (u : Value) (r : Result Value Halt) → Walks w (value v e bs x) value_tree old (Ok u) mid
        → ((q : Eval V.Value) → E.replace v (value_tree u) q ≡ by_replacement k (value_tree u) q)
        → Walks w (by_replacement k (value_tree u) (value v e bs y)) value_tree mid r new
        → Walks w (called v e bs F.Fun.IfError xs) value_tree old r new
    if_error_chosen k old mid new u r a b d =
        one_then w (called v e bs F.Fun.IfError xs) (value v e bs x) (λ z. E.replace v z (value v e bs y)) value_tree value_tree old mid new u r (if_error_is v e bs xs x y h) a
        (subst (λ z. Walks w z value_tree mid r new) (sym (b (value v e bs y))) d)

-- ---- all arguments evaluated, one after another

module _ (w : Inputs) (v : Version) (e : Frame) (bs : E.Bindings) (f : F.Fun) where
  -- on with the arguments that are left, behind these values
  abbrev pub behind_values : List Value → List Formula → Eval V.Value
  behind_values out xs = E.all_values (args v e bs xs) >>= λ vs. give (A.apply f (map value_tree out ++ vs))

  values_more : (out : List Value) (z : Value) (vs : List V.Value) → map value_tree out ++ value_tree z ∷ vs ≡ map value_tree (out ++ z ∷ []) ++ vs
  values_more out z vs = sym (append_assoc (map value_tree out) (value_tree z ∷ []) vs) ∙ ap (λ l. l ++ vs) (sym (map-append value_tree out (z ∷ [])))

  abbrev pub on_values : V.Value → List Formula → Eval (List V.Value)
  on_values y xs = E.all_values (args v e bs xs) >>= λ vs. give (y ∷ vs)

  joined : (s : Inputs) (out : List Value) (z : Value) (x : End (Result (List V.Value) Budget))
      → then_walk (then_walk x (λ r u. walk s (on_result (λ vs. give (value_tree z ∷ vs)) r) u)) (λ r u. walk s (on_result (λ vs. give (A.apply f (map value_tree out ++ vs))) r) u)
      ≡ then_walk x (λ r u. walk s (on_result (λ vs. give (A.apply f (map value_tree (out ++ z ∷ []) ++ vs))) r) u)
  joined s out z (Ready (Ok vs), t) = ap (λ l. (Ready (Ok (A.apply f l)), t)) (values_more out z vs)
  joined s out z (Ready (Err b), t) = refl
  joined s out z (Need k, t) = refl

  module _ (out : List Value) (x : Formula) (rest : List Formula) where
    abbrev pub on : List V.Value → Eval V.Value
    on vs = give (A.apply f (map value_tree out ++ vs))

    next_value : (z : Value) (t u : Trail) → walk w (value v e bs x) t ≡ (Ready (Ok (value_tree z)), u) → Same w (behind_values out (x ∷ rest)) t (behind_values (out ++ z ∷ []) rest) u
    next_value z t u m n o =
        let s = over w n in
        walk-bind s (on_result on) (value v e bs x >>= λ y. on_values y rest) t
        ∙ ap (λ k. then_walk k (λ r q. walk s (on_result on r) q)) (walk-on s (λ y. on_values y rest) (value v e bs x) t (value_tree z) u (still w n o (value v e bs x) t (Ok (value_tree z)) u m))
        ∙ ap (λ k. then_walk k (λ r q. walk s (on_result on r) q)) (walk-bind s (on_result (λ vs. give (value_tree z ∷ vs))) (E.all_values (args v e bs rest)) u)
        ∙ joined s out z (walk s (E.all_values (args v e bs rest)) u)
        ∙ sym (walk-bind s (on_result (λ vs. give (A.apply f (map value_tree (out ++ z ∷ []) ++ vs)))) (E.all_values (args v e bs rest)) u)

    module _ (p : Eval V.Value) (start old new : Code.Trail) (xs : List Formula) (inv : Same w p (trail_tree start) (behind_values out xs) (trail_tree old)) (split : xs ≡ x ∷ rest) where
      opened : Same w p (trail_tree start) (behind_values out (x ∷ rest)) (trail_tree old)
      opened = same_then w p (behind_values out xs) (behind_values out (x ∷ rest)) (trail_tree start) (trail_tree old) (trail_tree old) inv (same_part w (behind_values out xs) (behind_values out (x ∷ rest)) (trail_tree old) (ap (λ l. behind_values out l) split))

      pub value_next : (z : Value) → Walks w (value v e bs x) value_tree old (Ok z) new → Same w p (trail_tree start) (behind_values (out ++ z ∷ []) rest) (trail_tree new)
      value_next z m = same_then w p (behind_values out (x ∷ rest)) (behind_values (out ++ z ∷ []) rest) (trail_tree start) (trail_tree old) (trail_tree new) opened (next_value z (trail_tree old) (trail_tree new) m)

      pub value_halts : (n : Halt) → Walks w (value v e bs x) value_tree old (Err n) new → Walks w p value_tree start (Err n) new
      value_halts n m =
          later w p (behind_values out (x ∷ rest)) value_tree start old new (Err n) opened
          (halts w on (value v e bs x >>= λ y. on_values y rest) (map value_tree) value_tree old new n
          (halts w (λ y. on_values y rest) (value v e bs x) value_tree (map value_tree) old new n m))

  -- all are there
  pub values_end : (p : Eval V.Value) (start old : Code.Trail) (out : List Value) (xs : List Formula) (r : Result Value Halt)
      → Same w p (trail_tree start) (behind_values out xs) (trail_tree old) → xs ≡ [] → IfOk r (λ x. value_tree x ≡ A.apply f (map value_tree out)) → IfErr r (λ h. h ≡ halt.NoMemory) → Walks w p value_tree start r old
  values_end p start old out xs r inv none a b =
      later w p (give (A.apply f (map value_tree out))) value_tree start old old r
      (λ n o. inv n o ∙ ap (λ l. walk (over w n) (behind_values out l) (trail_tree old)) none ∙ ap (λ l. (Ready (Ok (A.apply f l)), trail_tree old)) (append-nil (map value_tree out)))
      (gives w (A.apply f (map value_tree out)) value_tree old r a b)
