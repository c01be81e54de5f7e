-- A sheet value with updates one after another.
use Rattle.std.proofs.Common.{◌≡◌, ℕ, zero, suc, ◌<◌, ◌≤◌, drop, List, [], ◌∷◌, length, Result, Ok, Err, refl, ap, sym, subst, ◌∙◌, arith}
use denote.Param.Weighed.{most}
use Rattle.gl_calculus.specs.Values.Value as V
use Rattle.gl_calculus.specs.Values.Value.{Frame}
use Rattle.gl_calculus.specs.Formulas.Formula as F
use Rattle.gl_calculus.specs.Formulas.Formula.{Version}
use Rattle.gl_calculus.specs.Values.Sheet as S
use Rattle.gl_calculus.specs.Evaluation.Key.{Eval, give, ◌>>=◌}
use Rattle.gl_calculus.specs.Evaluation.Evaluation as E
use Rattle.gl_ast.specs.View.{formula_tree}
use Rattle.gl_ast.specs.declared.Formula.{Formula}
use Rattle.gl_value.specs.View.{value_tree}
use Rattle.gl_value.specs.declared.Value.{Value}
use Rattle.gl_demand.specs.Walk.{Inputs, Trail, walk}
use Rattle.gl_demand.specs.Walks.{Walks, trail_tree}
use Rattle.gl_demand.specs.declared.trail.Trail as Code
use Rattle.gl_demand.specs.declared.trail.Halt.{Halt}
use Rattle.gl_demand.proofs.Walking.{over, Same, still, same_part, same_then, same_on, same_bind, halts, goes_on, later}
use Rattle.gl_demand.proofs.Calling.{value, args, called, seen_in}

-- a part of a list is no deeper
pub most_rest : {X : Type 0} (μ : X → ℕ) (i : ℕ) (xs : List X) → most μ (drop i xs) ≤ most μ xs
most_rest μ zero xs = omega arith
most_rest μ (suc i) [] = omega arith
most_rest μ (suc i) (x ∷ xs) = let h : most μ (drop i xs) ≤ most μ xs = most_rest μ i xs in omega arith

module _ (w : Inputs) where
  -- an update with a value that is evaluated first
  abbrev pub update_on : Frame → E.Argument → E.Argument → V.Value → Eval V.Value
  update_on e a f u = f.eval >>= λ z. E.on_sheet (λ s. E.made (S.update e s (E.written_address a.form) z)) u

  updates_same : (e : Frame) (ps : List E.Argument) (q p : Eval V.Value) (t u : Trail) → Same w q t p u → Same w (E.updates e q ps) t (E.updates e p ps) u
  updates_same e [] q p t u h = h
  updates_same e (a ∷ []) q p t u h = h
  updates_same e (a ∷ f ∷ ps) q p t u h = updates_same e ps (q >>= update_on e a f) (p >>= update_on e a f) t u (same_bind w (update_on e a f) q p t u h)

  updates_halt : (e : Frame) (ps : List E.Argument) (q : Eval V.Value) (old new : Code.Trail) (n : Halt) → Walks {T = Value} w q value_tree old (Err n) new → Walks {T = Value} w (E.updates e q ps) value_tree old (Err n) new
  updates_halt e [] q old new n h = h
  updates_halt e (a ∷ []) q old new n h = h
  updates_halt e (a ∷ f ∷ ps) q old new n h = updates_halt e ps (q >>= update_on e a f) old new n (halts w (update_on e a f) q value_tree value_tree old new n h)

  module _ (v : Version) (e : Frame) (bs : E.Bindings) (r : Formula) where
    -- on with the updates that are left
    abbrev pub with_updates : Eval V.Value → List Formula → Eval V.Value
    with_updates q ps = E.updates e q (args v e bs ps) >>= seen_in v e bs r

    abbrev pub start_sheet : Eval V.Value
    start_sheet = E.made (S.sheet e (E.written_range (formula_tree r)))

    group_is : (xs ps : List Formula) → xs ≡ r ∷ ps → called v e bs F.Fun.G xs ≡ with_updates start_sheet ps
    group_is xs ps h = ap (called v e bs F.Fun.G) h

    pub group_start : (xs ps : List Formula) (u : Value) (t : Code.Trail) → xs ≡ r ∷ ps → Walks w start_sheet value_tree t (Ok u) t
        → Same w (called v e bs F.Fun.G xs) (trail_tree t) (with_updates (give (value_tree u)) ps) (trail_tree t)
    group_start xs ps u t h m =
        same_then w (called v e bs F.Fun.G xs) (with_updates start_sheet ps) (with_updates (give (value_tree u)) ps) (trail_tree t) (trail_tree t) (trail_tree t)
        (same_part w (called v e bs F.Fun.G xs) (with_updates start_sheet ps) (trail_tree t) (group_is xs ps h))
        (same_bind w (seen_in v e bs r) (E.updates e start_sheet (args v e bs ps)) (E.updates e (give (value_tree u)) (args v e bs ps)) (trail_tree t) (trail_tree t)
        (updates_same e (args v e bs ps) start_sheet (give (value_tree u)) (trail_tree t) (trail_tree t) (λ x n. still w x n start_sheet (trail_tree t) (Ok (value_tree u)) (trail_tree t) m)))

    pub group_halts : (xs ps : List Formula) (t : Code.Trail) (n : Halt) → xs ≡ r ∷ ps → Walks {T = Value} w start_sheet value_tree t (Err n) t → Walks {T = Value} w (called v e bs F.Fun.G xs) value_tree t (Err n) t
    group_halts xs ps t n h m =
        subst (λ p. Walks {T = Value} w p value_tree t (Err n) t) (sym (group_is xs ps h))
        (halts w (seen_in v e bs r) (E.updates e start_sheet (args v e bs ps)) value_tree value_tree t t n (updates_halt e (args v e bs ps) start_sheet t t n m))

    module _ (p : Eval V.Value) (start old : Code.Trail) (u : Value) (xs : List Formula) (inv : Same w p (trail_tree start) (with_updates (give (value_tree u)) xs) (trail_tree old)) where
      module _ (a f : Formula) (more : List Formula) (split : xs ≡ a ∷ f ∷ more) where
        -- the update with a value
        abbrev pub put : V.Value → Eval V.Value
        put z = E.on_sheet (λ s. E.made (S.update e s (E.written_address (formula_tree a)) z)) (value_tree u)

        abbrev pub updated : Eval V.Value
        updated = value v e bs f >>= put

        opened : Same w p (trail_tree start) (with_updates updated more) (trail_tree old)
        opened = same_then w p (with_updates (give (value_tree u)) xs) (with_updates updated more) (trail_tree start) (trail_tree old) (trail_tree old) inv
            (same_part w (with_updates (give (value_tree u)) xs) (with_updates updated more) (trail_tree old) (ap (λ l. with_updates (give (value_tree u)) l) split))

        pub update_next : (mid : Code.Trail) (z x : Value) → Walks w (value v e bs f) value_tree old (Ok z) mid → Walks w (put (value_tree z)) value_tree mid (Ok x) mid
            → Same w p (trail_tree start) (with_updates (give (value_tree x)) more) (trail_tree mid)
        update_next mid z x m n =
            same_then w p (with_updates updated more) (with_updates (give (value_tree x)) more) (trail_tree start) (trail_tree old) (trail_tree mid) opened
            (same_bind w (seen_in v e bs r) (E.updates e updated (args v e bs more)) (E.updates e (give (value_tree x)) (args v e bs more)) (trail_tree old) (trail_tree mid)
            (updates_same e (args v e bs more) updated (give (value_tree x)) (trail_tree old) (trail_tree mid)
            (λ y o. same_on w put (value v e bs f) (trail_tree old) (value_tree z) (trail_tree mid) m y o ∙ still w y o (put (value_tree z)) (trail_tree mid) (Ok (value_tree x)) (trail_tree mid) n)))

        stops : (new : Code.Trail) (n : Halt) → Walks {T = Value} w updated value_tree old (Err n) new → Walks {T = Value} w p value_tree start (Err n) new
        stops new n m =
            later w p (with_updates updated more) value_tree start old new (Err n) opened
            (halts w (seen_in v e bs r) (E.updates e updated (args v e bs more)) value_tree value_tree old new n (updates_halt e (args v e bs more) updated old new n m))

        pub value_halts : (new : Code.Trail) (n : Halt) → Walks {T = Value} w (value v e bs f) value_tree old (Err n) new → Walks {T = Value} w p value_tree start (Err n) new
        value_halts new n m = stops new n (halts w put (value v e bs f) value_tree value_tree old new n m)

        pub update_halts : (mid : Code.Trail) (z : Value) (n : Halt) → Walks w (value v e bs f) value_tree old (Ok z) mid → Walks {T = Value} w (put (value_tree z)) value_tree mid (Err n) mid → Walks {T = Value} w p value_tree start (Err n) mid
        update_halts mid z n m k = stops mid n (goes_on w put (value v e bs f) value_tree value_tree old mid mid z (Err n) m k)

      none_left : (ys : List Formula) → length ys < 2 → E.updates e (give (value_tree u)) (args v e bs ys) ≡ give (value_tree u)
      none_left [] h = refl
      none_left (a ∷ []) h = refl
      none_left (a ∷ f ∷ ys) h = absurd (omega arith)

      -- all updates are made
      pub group_end : (new : Code.Trail) (x : Result Value Halt) → length xs < 2 → Walks w (seen_in v e bs r (value_tree u)) value_tree old x new → Walks w p value_tree start x new
      group_end new x h m = later w p (seen_in v e bs r (value_tree u)) value_tree start old new x (λ y o. inv y o ∙ ap (λ q. walk (over w y) (q >>= seen_in v e bs r) (trail_tree old)) (none_left xs h)) m
