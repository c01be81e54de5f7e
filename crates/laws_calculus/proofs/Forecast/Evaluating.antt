-- A formula goes the same way under two oracles of rounds that have the same entries of what it depends on, and its value fits its shape.
use Rattle.std.proofs.Common.{◌≡◌, inl, ℕ, suc, Bool, true, false, IsTrue, List, [], ◌∷◌, ◌++◌, length, Some, None, Ok, Err, bytes_eq, if◌then◌else◌, refl, sym, subst, ap, arith}
use Rattle.std.specs.List.{AllByRecursion}
use Rattle.std.proofs.lemmas.Bool.{and_parts}
use Rattle.gl_calculus.specs.Computation.Lists.{Member}
use Rattle.gl_calculus.specs.Grid.Grid.{Addr, Range, extents, addresses, single}
use Rattle.gl_calculus.specs.Values.Value as V
use Rattle.gl_calculus.specs.Values.Value.{Scalar, Value, Oracle, Top}
use Rattle.gl_calculus.specs.Formulas.Formula.{Version, Formula, Formulas, Operands, Fun, Cells, content}
use Rattle.gl_calculus.specs.Formulas.Formula as F
use Rattle.gl_calculus.specs.Evaluation.Oracle.{entry_at}
use Rattle.gl_calculus.specs.Values.Operators.{negate, compare, operate}
use Rattle.gl_calculus.specs.Values.Lift.{lift2}
use Rattle.gl_calculus.specs.Values.Functions.{apply}
use Rattle.gl_calculus.specs.Evaluation.Key.{Eval, give, ◌>>=◌}
use Rattle.gl_calculus.specs.Evaluation.Evaluation as E
use Rattle.gl_calculus.specs.Evaluation.Evaluation.{Argument, Bindings}
use Rattle.laws_calculus.proofs.Calculus.Proper.{addresses_single}
use Rattle.gl_calculus.specs.Formulas.Fit.{takes, is_fit, are_fit, are_fit_operands, AreFit}
use Rattle.laws_calculus.proofs.Sound.Values.{IsSoundValue, AllSoundValues}
use Rattle.laws_calculus.proofs.Sound.Operators.{negate_sound, compare_sound, operate_sound}
use Rattle.laws_calculus.proofs.Sound.Lift.{lift1_sound, lift2_sound, lift3_sound}
use Rattle.laws_calculus.proofs.Sound.Functions.{Enough, apply_sound}
use Rattle.laws_calculus.proofs.Sound.Evaluation.{chosen_sound, replaced_sound, takes_enough}
use Rattle.gl_calculus.specs.Forecast as Fo
use Rattle.gl_calculus.specs.Forecast.{Shape, Shapes, shape, shapes, operand_shapes, greater_shape, greatest_shape, Node, Entry, Piece, Reads, pieces, all_pieces, operand_pieces, piece_nodes, piece_makes, spilled_shape, Calls}
use Rattle.laws_calculus.proofs.Forecast.Alike.{both_return, alike_weaken}
use Rattle.laws_calculus.proofs.Forecast.Oracles.{IsFit}
use Rattle.laws_calculus.proofs.Forecast.Shapes.{Fits, AllFit, IsPositive, AllPositive, join_left, join_right, join_on, lift1_fits, lift2_fits, lift3_fits}
use Rattle.laws_calculus.proofs.Forecast.Calls.{IsWritten, AllWritten, call_fits, cut_fits}
use Rattle.laws_calculus.proofs.Forecast.Positive.{PositiveBindings, shape_positive, shapes_positive, spilled_positive}
use Rattle.laws_calculus.proofs.Forecast.Reading as R
use Rattle.laws_calculus.proofs.Forecast.Reading.{Gets, Needed}

-- values and shapes of the same variables
abbrev pub Bound : Bindings → Shapes → Type 0
Bound [] [] = Unit {0}
Bound (b ∷ bs) (s ∷ ss) = ((b.0 ≡ s.0) × IsSoundValue b.1 × Fits s.1 b.1 × IsPositive s.1) × Bound bs ss
Bound [] (s ∷ ss) = ⊥
Bound (b ∷ bs) [] = ⊥

abbrev pub IsOf : Shape → Value → Type 0
IsOf s v = IsSoundValue v × Fits s v

bound_of : (bs : Bindings) (ss : Shapes) (name : List ℕ) → Bound bs ss → IsOf (Fo.bound_shape ss name) (E.bound bs name)
bound_of [] [] name h = (refl, tt)
bound_of (b ∷ bs) (s ∷ ss) name h = by (bytes_eq b.0 name) (bytes_eq s.0 name) (ap (λ u. bytes_eq u name) h.0.0) (bound_of bs ss name h.1)
  where
    by : (c d : Bool) → c ≡ d → IsOf (Fo.bound_shape ss name) (E.bound bs name) → IsOf (if d then s.1 else Fo.bound_shape ss name) (if c then b.1 else E.bound bs name)
    by true true e k = (h.0.1, h.0.2)
    by false false e k = k
    by true false e k = absurd (cc e)
    by false true e k = absurd (cc e)
bound_of [] (s ∷ ss) name h = absurd h
bound_of (b ∷ bs) [] name h = absurd h

bound_positive : (bs : Bindings) (ss : Shapes) → Bound bs ss → PositiveBindings ss
bound_positive [] [] h = tt
bound_positive (b ∷ bs) (s ∷ ss) h = (h.0.3, bound_positive bs ss h.1)
bound_positive [] (s ∷ ss) h = absurd h
bound_positive (b ∷ bs) [] h = absurd h

module _ (version : Version) (S : Cells) (fit : AreFit S) (w w' : Oracle) (fits : IsFit S w) (fits' : IsFit S w') (needs : List Node) (same : (r : Addr) → Member (Entry r) needs → entry_at w r ≡ entry_at w' r) (n : ℕ) where
  abbrev Good : {X : Type 0} → (X → Type 0) → Eval X → Type 0
  Good Q p = R.Good S fit w w' fits fits' needs same Q p p

  good_then : {X Y : Type 0} (Q : X → Type 0) (T : Y → Type 0) (p : Eval X) (g : X → Eval Y) → Good Q p → ((x : X) → Q x → Good T (g x)) → Good T (p >>= g)
  good_then Q T p g e h = R.good_then S fit w w' fits fits' needs same Q T p p g g e h

  abbrev sp : Addr → Shape
  sp = spilled_shape S n

  -- what stands there is needed, and makes no sheet value
  abbrev Fine : Piece → Type 0
  Fine p = ((m : Node) → Member m (piece_nodes S p) → Member m needs) × (piece_makes p ≡ false)

  abbrev pub AllFine : List Piece → Type 0
  AllFine ps = AllByRecursion Fine ps

  front : (ps qs : List Piece) → AllFine (ps ++ qs) → AllFine ps × AllFine qs
  front [] qs h = (tt, h)
  front (p ∷ ps) qs h = let (a, b) = front ps qs h.1 in ((h.0, a), b)

  range_needed : (r : Range) → Fine (Reads r) → (a : Addr) → Member a (addresses r) → Needed S fit w w' fits fits' needs same a (content S a)
  range_needed r h a m k i = h.0 k (R.member_flat S fit w w' fits fits' needs same (λ b. Fo.address_nodes S b (content S b)) (addresses r) a k m i)

  -- a value of a formula
  abbrev pub IsFrom : Shapes → Formula → Value → Type 0
  IsFrom sb f v = IsSoundValue v × Fits (shape sp sb f) v × IsWritten f v

  -- an argument of which this is the formula
  abbrev Goods : Shapes → Formulas → List Argument → Type 0
  Goods sb F.Formulas.no_formula [] = Unit {0}
  Goods sb (F.Formulas.formula_and f fs) (x ∷ xs) = Good (IsFrom sb f) x.eval × Goods sb fs xs
  Goods sb F.Formulas.no_formula (x ∷ xs) = ⊥
  Goods sb (F.Formulas.formula_and f fs) [] = ⊥

  -- the values of arguments
  abbrev AreFrom : Shapes → Formulas → List Value → Type 0
  AreFrom sb fs vs = AllSoundValues vs × AllFit (shapes sp sb fs) vs × AllWritten fs vs

  values_good : (sb : Shapes) (fs : Formulas) (xs : List Argument) → Goods sb fs xs → Good (λ vs. (length xs ≡ length vs) × AreFrom sb fs vs) (E.all_values xs)
  values_good sb F.Formulas.no_formula [] h = both_return (refl, (tt, tt, tt))
  values_good sb (F.Formulas.formula_and f fs) (x ∷ xs) h =
      good_then (IsFrom sb f) (λ vs. (length (x ∷ xs) ≡ length vs) × AreFrom sb (F.Formulas.formula_and f fs) vs) x.eval _ h.0
      (λ v p. good_then (λ vs. (length xs ≡ length vs) × AreFrom sb fs vs) (λ vs. (length (x ∷ xs) ≡ length vs) × AreFrom sb (F.Formulas.formula_and f fs) vs) _ _ (values_good sb fs xs h.1)
      (λ vs q. both_return {r = Ok (v ∷ vs)} (ap suc q.0, ((p.0, q.1.0), (p.1, q.1.1), (p.2, q.1.2)))))
  values_good sb F.Formulas.no_formula (x ∷ xs) h = absurd h
  values_good sb (F.Formulas.formula_and f fs) [] h = absurd h

  -- ---- IF and IFERROR

  two_from : (s t : Shape) (v : Value) → IsOf (greater_shape s t) v → IsOf (greatest_shape (s ∷ t ∷ [])) v
  two_from s t v h = (h.0, join_on s t None v (join_left (greater_shape s t) None v h.1))

  module _ (s t r : Shape) (ps : IsPositive s) (pt : IsPositive t) (pr : IsPositive r) (q q' : Eval Value) (g : Good (IsOf t) q) (g' : Good (IsOf r) q') where
    abbrev Three : Shape
    Three = greater_shape s (greater_shape t (greater_shape r None))

    first_of' : (v : Value) → IsOf t v → IsOf Three v
    first_of' v h = (h.0, join_right s (greater_shape t (greater_shape r None)) v (join_left t (greater_shape r None) v h.1))

    second_of : (v : Value) → IsOf r v → IsOf Three v
    second_of v h = (h.0, join_right s (greater_shape t (greater_shape r None)) v (join_right t (greater_shape r None) v (join_left r None v h.1)))

    yes_good : Good (IsOf Three) q
    yes_good = alike_weaken (Gets (IsOf t)) (Gets (IsOf Three)) (elim [ Ok v ↦ λ h. first_of' v h | Err b ↦ λ h. absurd h ]) g

    no_good : Good (IsOf Three) q'
    no_good = alike_weaken (Gets (IsOf r)) (Gets (IsOf Three)) (elim [ Ok v ↦ λ h. second_of v h | Err b ↦ λ h. absurd h ]) g'

    each_good : (x : Version) (c : Value) → IsOf s c → Good (IsOf Three) (E.choose_each x c q q')
    each_good F.Version.One c h = both_return (refl, tt)
    each_good F.Version.Two c h =
        good_then (IsOf t) (IsOf Three) q _ g (λ u k. good_then (IsOf r) (IsOf Three) q' _ g' (λ v l.
        both_return (lift3_sound E.chosen chosen_sound c u v h.0 k.0 l.0, lift3_fits E.chosen s t r ps pt pr c u v h.0 k.0 l.0 h.1 k.1 l.1)))

    choose_good : (c : Value) → IsOf s c → Good (IsOf Three) (E.choose version c q q')
    choose_good (V.Value.One (V.Scalar.Bool true)) h = yes_good
    choose_good (V.Value.One (V.Scalar.Bool false)) h = no_good
    choose_good (V.Value.One V.Scalar.Blank) h = no_good
    choose_good (V.Value.One (V.Scalar.Err k)) h = both_return (refl, tt)
    choose_good (V.Value.One (V.Scalar.Int k)) h = both_return (refl, tt)
    choose_good (V.Value.One (V.Scalar.Text x)) h = both_return (refl, tt)
    choose_good (V.Value.One (V.Scalar.Sheet x)) h = both_return (refl, tt)
    choose_good (V.Value.Array z xs) h = each_good version (V.Value.Array z xs) h

  module _ (s t : Shape) (q : Eval Value) (g : Good (IsOf t) q) where
    other_good : Good (IsOf (greater_shape s t)) q
    other_good = alike_weaken (Gets (IsOf t)) (Gets (IsOf (greater_shape s t))) (elim [ Ok v ↦ λ h. (h.0, join_right s t v h.1) | Err b ↦ λ h. absurd h ]) g

    replace_each_good : (x : Version) (v : Value) → IsOf s v → Good (IsOf (greater_shape s t)) (E.replace_each x v q)
    replace_each_good F.Version.One v h = both_return (h.0, join_left s t v h.1)
    replace_each_good F.Version.Two v h =
        good_then (IsOf t) (IsOf (greater_shape s t)) q _ g (λ u k. both_return (lift2_sound E.in_place_of_error replaced_sound v u h.0 k.0, lift2_fits E.in_place_of_error s t v u h.0 k.0 h.1 k.1))

    replace_good : (v : Value) → IsOf s v → Good (IsOf (greater_shape s t)) (E.replace version v q)
    replace_good (V.Value.One (V.Scalar.Err k)) h = other_good
    replace_good (V.Value.One V.Scalar.Blank) h = both_return (h.0, tt)
    replace_good (V.Value.One (V.Scalar.Int k)) h = both_return (h.0, tt)
    replace_good (V.Value.One (V.Scalar.Bool b)) h = both_return (h.0, tt)
    replace_good (V.Value.One (V.Scalar.Text x)) h = both_return (h.0, tt)
    replace_good (V.Value.One (V.Scalar.Sheet x)) h = both_return (h.0, tt)
    replace_good (V.Value.Array z xs) h = replace_each_good version (V.Value.Array z xs) h

  -- ---- calls

  apply_good : (sb : Shapes) (f : Fun) (fs : Formulas) (xs : List Argument) → Enough f (length xs) → AllPositive (shapes sp sb fs) → Goods sb fs xs → Good (IsOf (Fo.call_shape f fs (shapes sp sb fs))) (E.all_values xs >>= λ vs. give (apply f vs))
  apply_good sb f fs xs e p h =
      good_then (λ vs. (length xs ≡ length vs) × AreFrom sb fs vs) (IsOf (Fo.call_shape f fs (shapes sp sb fs))) _ _ (values_good sb fs xs h)
      (λ vs q. both_return {r = Ok (apply f vs)} (apply_sound f vs (subst (Enough f) q.0 e) q.1.0, call_fits f fs (shapes sp sb fs) vs (subst (Enough f) q.0 e) q.1.2 p q.1.0 q.1.1))

  plain : (sb : Shapes) (f : Formula) (q : Eval Value) → Good (IsFrom sb f) q → Good (IsOf (shape sp sb f)) q
  plain sb f q g = alike_weaken (Gets (IsFrom sb f)) (Gets (IsOf (shape sp sb f))) (elim [ Ok v ↦ λ h. (h.0, h.1) | Err b ↦ λ h. absurd h ]) g

  call_good : (sb : Shapes) (f : Fun) (fs : Formulas) (xs : List Argument) → piece_makes (Calls f) ≡ false → Enough f (length xs) → AllPositive (shapes sp sb fs) → Goods sb fs xs → Good (IsOf (Fo.call_shape f fs (shapes sp sb fs))) (E.call version Top f xs)
  call_good sb F.Fun.If (F.Formulas.formula_and a (F.Formulas.formula_and b (F.Formulas.formula_and d F.Formulas.no_formula))) (x ∷ y ∷ z ∷ []) m e p h =
      good_then (IsOf (shape sp sb a)) (IsOf (greater_shape (shape sp sb a) (greater_shape (shape sp sb b) (greater_shape (shape sp sb d) None)))) x.eval _ (plain sb a x.eval h.0)
      (λ v k. choose_good (shape sp sb a) (shape sp sb b) (shape sp sb d) p.0 p.1.0 p.1.1.0 y.eval z.eval (plain sb b y.eval h.1.0) (plain sb d z.eval h.1.1.0) v k)
  call_good sb F.Fun.If F.Formulas.no_formula (x ∷ y ∷ z ∷ []) m e p h = absurd h
  call_good sb F.Fun.If (F.Formulas.formula_and a F.Formulas.no_formula) (x ∷ y ∷ z ∷ []) m e p h = absurd h.1
  call_good sb F.Fun.If (F.Formulas.formula_and a (F.Formulas.formula_and b F.Formulas.no_formula)) (x ∷ y ∷ z ∷ []) m e p h = absurd h.1.1
  call_good sb F.Fun.If (F.Formulas.formula_and a (F.Formulas.formula_and b (F.Formulas.formula_and d (F.Formulas.formula_and k fs)))) (x ∷ y ∷ z ∷ []) m e p h = absurd h.1.1.1
  call_good sb F.Fun.IfError (F.Formulas.formula_and a (F.Formulas.formula_and b F.Formulas.no_formula)) (x ∷ y ∷ []) m e p h =
      good_then (IsOf (shape sp sb a)) (IsOf (greatest_shape (shape sp sb a ∷ shape sp sb b ∷ []))) x.eval _ (plain sb a x.eval h.0)
      (λ v k. alike_weaken (Gets (IsOf (greater_shape (shape sp sb a) (shape sp sb b)))) (Gets (IsOf (greatest_shape (shape sp sb a ∷ shape sp sb b ∷ [])))) (elim [ Ok u ↦ λ t. two_from (shape sp sb a) (shape sp sb b) u t | Err c ↦ λ t. absurd t ])
      (replace_good (shape sp sb a) (shape sp sb b) y.eval (plain sb b y.eval h.1.0) v k))
  call_good sb F.Fun.IfError F.Formulas.no_formula (x ∷ y ∷ []) m e p h = absurd h
  call_good sb F.Fun.IfError (F.Formulas.formula_and a F.Formulas.no_formula) (x ∷ y ∷ []) m e p h = absurd h.1
  call_good sb F.Fun.IfError (F.Formulas.formula_and a (F.Formulas.formula_and b (F.Formulas.formula_and d fs))) (x ∷ y ∷ []) m e p h = absurd h.1.1
  call_good sb F.Fun.This fs [] m e p h = both_return (refl, tt)
  call_good sb F.Fun.Sheet fs xs m e p h = absurd (cc m)
  call_good sb F.Fun.Update fs xs m e p h = absurd (cc m)
  call_good sb F.Fun.View fs xs m e p h = absurd (cc m)
  call_good sb F.Fun.G fs xs m e p h = absurd (cc m)
  call_good sb f fs xs m e p h = apply_good sb f fs xs e p h

  -- ---- formulas

  from : (sb : Shapes) (f : Formula) (q : Eval Value) → ((v : Value) → IsOf (shape sp sb f) v → IsWritten f v) → Good (IsOf (shape sp sb f)) q → Good (IsFrom sb f) q
  from sb f q h g = alike_weaken (Gets (IsOf (shape sp sb f))) (Gets (IsFrom sb f)) (elim [ Ok v ↦ λ k. (k.0, k.1, h v k) | Err b ↦ λ k. absurd k ]) g

  enough : (bs : Bindings) (f : Fun) (fs : Formulas) → IsTrue (takes f fs) → Enough f (length (E.arguments version Top bs fs))
  enough bs f fs h = takes_enough S w fit version Top bs f fs h

  mutual
    pub eval_good : (bs : Bindings) (sb : Shapes) (f : Formula) → Bound bs sb → IsTrue (is_fit f) → AllFine (pieces f) → Good (IsFrom sb f) (E.eval version Top bs f)
    eval_good bs sb (F.Formula.Int k) b h a = both_return (refl, tt, refl)
    eval_good bs sb (F.Formula.Text t) b h a = both_return (h, tt, tt)
    eval_good bs sb (F.Formula.Bool c) b h a = both_return (refl, tt, tt)
    eval_good bs sb (F.Formula.At x) b h a =
        alike_weaken (Gets (λ v. IsSoundValue v × R.IsScalar v)) (Gets (IsFrom sb (F.Formula.At x))) (elim [ Ok v ↦ λ k. (k.0, scalar_fits v k.1, tt) | Err c ↦ λ k. absurd k ])
        (R.address_good S fit w w' fits fits' needs same x (range_needed (single x) a.0 x (subst (Member x) (sym (addresses_single x)) (inl refl))))
      where
        scalar_fits : (v : Value) → R.IsScalar v → Fits None v
        scalar_fits (V.Value.One x) k = tt
        scalar_fits (V.Value.Array z xs) k = absurd k
    eval_good bs sb (F.Formula.Spill x) b h a =
        alike_weaken (Gets (R.IsSpill S fit w w' fits fits' needs same n x)) (Gets (IsFrom sb (F.Formula.Spill x))) (elim [ Ok v ↦ λ k. (k.0, k.1, tt) | Err c ↦ λ k. absurd k ])
        (R.spill_good S fit w w' fits fits' needs same n x a.0.0)
    eval_good bs sb (F.Formula.Area r) b h a =
        alike_weaken (Gets (λ v. IsSoundValue v × ((xs : _) × (v ≡ V.Value.Array (extents r) xs)))) (Gets (IsFrom sb (F.Formula.Area r))) (elim [ Ok v ↦ λ k. (k.0, area_fits v k.0 k.1.0 k.1.1, tt) | Err c ↦ λ k. absurd k ])
        (R.range_good S fit w w' fits fits' needs same r h (range_needed r a.0))
      where
        area_fits : (v : Value) → IsSoundValue v → (xs : _) → v ≡ V.Value.Array (extents r) xs → Fits (Some (Fo.limited (extents r))) v
        area_fits v s xs e = subst (λ u. Fits (Some (Fo.limited (extents r))) u) (sym e) (cut_fits (extents r) (V.Value.Array (extents r) xs) (subst IsSoundValue e s) (omega arith, omega arith))
    eval_good bs sb (F.Formula.Var name) b h a = let p = bound_of bs sb name b in both_return (p.0, p.1, tt)
    eval_good bs sb (F.Formula.Neg f) b h a =
        good_then (IsFrom sb f) (IsFrom sb (F.Formula.Neg f)) _ _ (eval_good bs sb f b h a) (λ v p. both_return (lift1_sound negate (λ x q. negate_sound x) v p.0, lift1_fits negate (shape sp sb f) v p.1, tt))
    eval_good bs sb (F.Formula.Chain level f rest) b h a =
        let p = and_parts (is_fit f) (are_fit_operands rest) h in
        let c = front (pieces f) (operand_pieces rest) a in
        good_then (IsFrom sb f) (IsFrom sb (F.Formula.Chain level f rest)) _ _ (eval_good bs sb f b p.0 c.0)
        (λ v q. from sb (F.Formula.Chain level f rest) _ (λ u k. tt) (rest_good bs sb (shape sp sb f) v rest b (q.0, q.1) p.1 c.1))
    eval_good bs sb (F.Formula.Compare op f g) b h a =
        let p = and_parts (is_fit f) (is_fit g) h in
        let c = front (pieces f) (pieces g) a in
        good_then (IsFrom sb f) (IsFrom sb (F.Formula.Compare op f g)) _ _ (eval_good bs sb f b p.0 c.0)
        (λ u q. good_then (IsFrom sb g) (IsFrom sb (F.Formula.Compare op f g)) _ _ (eval_good bs sb g b p.1 c.1)
        (λ v k. both_return (lift2_sound (compare op) (compare_sound op) u v q.0 k.0, lift2_fits (compare op) (shape sp sb f) (shape sp sb g) u v q.0 k.0 q.1 k.1, tt)))
    eval_good bs sb (F.Formula.Call f xs) b h a =
        let p = and_parts (takes f xs) (are_fit xs) h in
        from sb (F.Formula.Call f xs) _ (λ v k. tt)
        (call_good sb f xs (E.arguments version Top bs xs) a.0.1 (enough bs f xs p.0) (shapes_positive sp (spilled_positive S fit n) sb xs (bound_positive bs sb b) p.1) (arguments_good bs sb xs b p.1 a.1))
    eval_good bs sb (F.Formula.Let name f body) b h a =
        let p = and_parts (is_fit f) (is_fit body) h in
        let c = front (pieces f) (pieces body) a in
        good_then (IsFrom sb f) (IsFrom sb (F.Formula.Let name f body)) _ _ (eval_good bs sb f b p.0 c.0)
        (λ v q. from sb (F.Formula.Let name f body) _ (λ u k. tt)
        (plain ((name, shape sp sb f) ∷ sb) body _
        (eval_good ((name, v) ∷ bs) ((name, shape sp sb f) ∷ sb) body ((refl, q.0, q.1, shape_positive sp (spilled_positive S fit n) sb f (bound_positive bs sb b) p.0), b) p.1 c.1)))

    rest_good : (bs : Bindings) (sb : Shapes) (s : Shape) (u : Value) (rest : Operands) → Bound bs sb → IsOf s u → IsTrue (are_fit_operands rest) → AllFine (operand_pieces rest) → Good (IsOf (greater_shape s (greatest_shape (operand_shapes sp sb rest)))) (E.eval_rest version Top bs u rest)
    rest_good bs sb s u F.Operands.no_operand b k h a = both_return (k.0, join_left s None u k.1)
    rest_good bs sb s u (F.Operands.operand_and op f rest) b k h a =
        let p = and_parts (is_fit f) (are_fit_operands rest) h in
        let c = front (pieces f) (operand_pieces rest) a in
        let t = shape sp sb f in
        let ts = greatest_shape (operand_shapes sp sb rest) in
        good_then (IsFrom sb f) (IsOf (greater_shape s (greater_shape t ts))) _ _ (eval_good bs sb f b p.0 c.0)
        (λ v q. alike_weaken (Gets (IsOf (greater_shape (greater_shape s t) ts))) (Gets (IsOf (greater_shape s (greater_shape t ts)))) (elim [ Ok x ↦ λ z. (z.0, join_on s t ts x z.1) | Err y ↦ λ z. absurd z ])
        (rest_good bs sb (greater_shape s t) (lift2 (operate op) u v) rest b (lift2_sound (operate op) (operate_sound op) u v k.0 q.0, lift2_fits (operate op) s t u v k.0 q.0 k.1 q.1) p.1 c.1))

    arguments_good : (bs : Bindings) (sb : Shapes) (fs : Formulas) → Bound bs sb → IsTrue (are_fit fs) → AllFine (all_pieces fs) → Goods sb fs (E.arguments version Top bs fs)
    arguments_good bs sb F.Formulas.no_formula b h a = tt
    arguments_good bs sb (F.Formulas.formula_and f fs) b h a =
        let p = and_parts (is_fit f) (are_fit fs) h in
        let c = front (pieces f) (all_pieces fs) a in
        (eval_good bs sb f b p.0 c.0, arguments_good bs sb fs b p.1 c.1)
