-- A key's evaluation asks for sound keys, and comes to a sound outcome.
use Rattle.std.proofs.Common.{◌≡◌, ℕ, zero, suc, List, [], ◌∷◌, length, Bool, true, false, IsTrue, if◌then◌else◌, bytes_eq, Option, Some, None, Result, Ok, Err, refl, ap, subst, arith}
use Rattle.std.specs.List.{AllByRecursion}
use Rattle.std.proofs.lemmas.Bool.{and_parts}
use Rattle.gl_calculus.specs.Computation.Evaluation.{Done}
use Rattle.laws_calculus.proofs.Query.Asked.{Keeps, keeps_return, keeps_look, keeps_ask, keeps_bind}
use Rattle.gl_calculus.specs.Grid.Grid.{Addr, single}
use Rattle.gl_calculus.specs.Values.Value as V
use Rattle.gl_calculus.specs.Values.Value.{Scalar, Value, SheetValue, Oracle, Frame, Top, In, region}
use Rattle.gl_calculus.specs.Values.Sheet as M
use Rattle.gl_calculus.specs.Values.Sheet.{Made}
use Rattle.gl_calculus.specs.Formulas.Formula.{Version, Formula, Formulas, Operands, Fun, Cells, content}
use Rattle.gl_calculus.specs.Formulas.Formula as F
use Rattle.gl_calculus.specs.Evaluation.Facts.{Fact, facts, fact_at}
use Rattle.gl_calculus.specs.Values.Operators.{negate, compare, operate}
use Rattle.gl_calculus.specs.Values.Lift.{lift2}
use Rattle.gl_calculus.specs.Values.Functions.{apply}
use Rattle.gl_calculus.specs.Evaluation.Key.{Key, Cell, Settle, Outcome, Settled, Abort, Budget, Eval, give, ◌>>=◌, as_value, as_settled}
use Rattle.gl_calculus.specs.Evaluation.Reference.{Held, Given, Computed, own_content}
use Rattle.gl_calculus.specs.Evaluation.World.{world}
use Rattle.gl_calculus.specs.Evaluation.Evaluation as E
use Rattle.gl_calculus.specs.Evaluation.Evaluation.{Argument, Bindings, program, evaluation, cell_value}
use Rattle.gl_calculus.specs.Evaluation.Sound.{is_sound_sheet, is_sound_key}
use Rattle.gl_calculus.specs.Formulas.Fit.{takes, is_fit, are_fit, are_fit_operands, AreFit}
use Rattle.laws_calculus.specs.Sound.{IsSoundOutcome}
use Rattle.laws_calculus.proofs.Sound.Values.{IsSound, IsSoundValue, AllSoundValues}
use Rattle.laws_calculus.proofs.Sound.Operators.{negate_sound, compare_sound, operate_sound}
use Rattle.laws_calculus.proofs.Sound.Lift.{lift1_sound, lift2_sound, lift3_sound}
use Rattle.laws_calculus.proofs.Sound.Functions.{Enough, apply_sound}
use Rattle.laws_calculus.proofs.Sound.Sheets.{SoundIf, SoundMade, sheet_sound, update_sound}
use Rattle.laws_calculus.proofs.Sound.References as R
use Rattle.laws_calculus.proofs.Sound.References.{SoundFrame, FitHeld, own_fit, FitFacts, at_fit, facts_fit}

-- ---- rules on scalars

pub chosen_sound : (c x y : Scalar) → IsSound c → IsSound x → IsSound y → IsSound (E.chosen c x y)
chosen_sound (Scalar.Bool true) x y h k l = k
chosen_sound (Scalar.Bool false) x y h k l = l
chosen_sound Scalar.Blank x y h k l = l
chosen_sound (Scalar.Err e) x y h k l = refl
chosen_sound c x y h k l = refl

pub replaced_sound : (x y : Scalar) → IsSound x → IsSound y → IsSound (E.in_place_of_error x y)
replaced_sound (Scalar.Err k) y h l = l
replaced_sound x y h l = h

-- ---- variables and arguments

abbrev pub SoundBindings : Bindings → Type 0
SoundBindings bs = AllByRecursion (λ b. IsSoundValue b.1) bs

value_if : (b : Bool) (u v : Value) → IsSoundValue u → IsSoundValue v → IsSoundValue (if b then u else v)
value_if true u v h k = h
value_if false u v h k = k

bound_sound : (bs : Bindings) (name : List ℕ) → SoundBindings bs → IsSoundValue (E.bound bs name)
bound_sound [] name h = refl
bound_sound (b ∷ bs) name h = value_if (bytes_eq b.0 name) b.1 (E.bound bs name) h.0 (bound_sound bs name h.1)

this_sound : (e : Frame) → SoundFrame e → IsSoundValue (E.this e)
this_sound Top h = refl
this_sound (In s o) h = h

module _ (S : Cells) (w : Oracle) where
  abbrev pub Good : {X : Type 0} → (X → Type 0) → Eval X → Type 0
  Good Q p = R.Good S w Q p

  good_then : {X Y : Type 0} (Q : X → Type 0) (P : Y → Type 0) (p : Eval X) (f : X → Eval Y) → Good Q p → ((x : X) → Q x → Good P (f x)) → Good P (p >>= f)
  good_then Q P p f e g = R.good_then S w Q P p f e g

  -- ---- sheet values

  pub good_made : (m : Made) → SoundMade m → Good IsSoundValue (E.made m)
  good_made (M.Sheet s) h = keeps_return h
  good_made M.Outside h = keeps_return refl
  good_made M.Deep h = keeps_return tt
  good_made M.Heavy h = keeps_return refl

  pub good_on_sheet : (f : SheetValue → Eval Value) (v : Value) → IsSoundValue v → ((s : SheetValue) → IsTrue (is_sound_sheet s) → Good IsSoundValue (f s)) → Good IsSoundValue (E.on_sheet f v)
  good_on_sheet f (V.Value.One (V.Scalar.Sheet s)) h g = g s h
  good_on_sheet f (V.Value.One (V.Scalar.Err k)) h g = keeps_return refl
  good_on_sheet f (V.Value.One V.Scalar.Blank) h g = keeps_return refl
  good_on_sheet f (V.Value.One (V.Scalar.Int n)) h g = keeps_return refl
  good_on_sheet f (V.Value.One (V.Scalar.Bool b)) h g = keeps_return refl
  good_on_sheet f (V.Value.One (V.Scalar.Text t)) h g = keeps_return refl
  good_on_sheet f (V.Value.Array z xs) h g = keeps_return refl

  -- the arguments are fit and good
  abbrev pub AllGood : List Argument → Type 0
  AllGood [] = Unit {0}
  AllGood (x ∷ xs) = (IsTrue (is_fit x.form) × Good IsSoundValue x.eval) × AllGood xs

  pub good_update : (e : Frame) (q : Eval Value) (a : Addr) (r : Eval Value) → Good IsSoundValue q → Good IsSoundValue r → Good IsSoundValue (E.update_by e q a r)
  good_update e q a r g h =
      good_then IsSoundValue IsSoundValue q _ g (λ u p. good_then IsSoundValue IsSoundValue r _ h (λ v t. good_on_sheet _ u p (λ s z. good_made (M.update e s a v) (update_sound e s a v z t))))

  pub good_updates : (e : Frame) (q : Eval Value) (xs : List Argument) → Good IsSoundValue q → AllGood xs → Good IsSoundValue (E.updates e q xs)
  good_updates e q [] g h = g
  good_updates e q (a ∷ []) g h = g
  good_updates e q (a ∷ f ∷ xs) g h = good_updates e (E.update_by e q (E.written_address a.form) f.eval) xs (good_update e q _ f.eval g h.1.0.1) h.1.1

  good_each : (v : Version) (c : Value) (q r : Eval Value) → IsSoundValue c → Good IsSoundValue q → Good IsSoundValue r → Good IsSoundValue (E.choose_each v c q r)
  good_each F.Version.One c q r p g h = keeps_return refl
  good_each F.Version.Two c q r p g h =
      good_then IsSoundValue IsSoundValue q _ g (λ u s. good_then IsSoundValue IsSoundValue r _ h (λ v t. keeps_return (lift3_sound E.chosen chosen_sound c u v p s t)))

  good_replace_each : (v : Version) (u : Value) (q : Eval Value) → IsSoundValue u → Good IsSoundValue q → Good IsSoundValue (E.replace_each v u q)
  good_replace_each F.Version.One u q p g = keeps_return p
  good_replace_each F.Version.Two u q p g = good_then IsSoundValue IsSoundValue q _ g (λ x s. keeps_return (lift2_sound E.in_place_of_error replaced_sound u x p s))

  -- so many sound values
  abbrev pub SoundValues : ℕ → List Value → Type 0
  SoundValues n vs = (n ≡ length vs) × AllSoundValues vs

  pub good_values : (xs : List Argument) → AllGood xs → Good (SoundValues (length xs)) (E.all_values xs)
  good_values [] g = keeps_return (refl, tt)
  good_values (x ∷ xs) g =
      good_then IsSoundValue (SoundValues (length (x ∷ xs))) x.eval _ g.0.1
      (λ v p. good_then (SoundValues (length xs)) (SoundValues (length (x ∷ xs))) _ _ (good_values xs g.1) (λ vs q. keeps_return (ap suc q.0, (p, q.1))))

  pub good_apply : (f : Fun) (xs : List Argument) → Enough f (length xs) → AllGood xs → Good IsSoundValue (E.all_values xs >>= λ vs. give (apply f vs))
  good_apply f xs n g = good_then (SoundValues (length xs)) IsSoundValue _ _ (good_values xs g) (λ vs q. keeps_return (apply_sound f vs (subst (Enough f) q.0 n) q.1))

  module _ (fit : AreFit S) where
    good_written : (e : Frame) (f : Formula) → SoundFrame e → IsTrue (is_fit f) → Good IsSoundValue (E.at_written e f)
    good_written e (F.Formula.At a) s h = R.good_address S w fit e a s
    good_written e (F.Formula.Area r) s h = R.good_range S w fit e r s h
    good_written e f s h = keeps_return refl

    pub good_view : (q : Eval Value) (f : Formula) → Good IsSoundValue q → IsTrue (is_fit f) → Good IsSoundValue (E.view_by q f)
    good_view q f g h =
        good_then IsSoundValue IsSoundValue q _ g (λ u p. good_on_sheet _ u p (λ s z.
        keeps_ask z (elim [ Outcome.Value v ↦ λ t. good_written (In s []) f z h | Settled o ↦ λ t. good_written (In s o) f z h | Abort b ↦ λ t. keeps_return tt ])))

    module _ (version : Version) where
      pub good_choose : (v : Value) (q r : Eval Value) → IsSoundValue v → Good IsSoundValue q → Good IsSoundValue r → Good IsSoundValue (E.choose version v q r)
      good_choose (V.Value.One (V.Scalar.Bool true)) q r p g h = g
      good_choose (V.Value.One (V.Scalar.Bool false)) q r p g h = h
      good_choose (V.Value.One V.Scalar.Blank) q r p g h = h
      good_choose (V.Value.One (V.Scalar.Err k)) q r p g h = keeps_return refl
      good_choose (V.Value.One (V.Scalar.Int n)) q r p g h = keeps_return refl
      good_choose (V.Value.One (V.Scalar.Text t)) q r p g h = keeps_return refl
      good_choose (V.Value.One (V.Scalar.Sheet s)) q r p g h = keeps_return refl
      good_choose (V.Value.Array z xs) q r p g h = good_each version (V.Value.Array z xs) q r p g h

      pub good_replace : (v : Value) (q : Eval Value) → IsSoundValue v → Good IsSoundValue q → Good IsSoundValue (E.replace version v q)
      good_replace (V.Value.One (V.Scalar.Err k)) q p g = g
      good_replace (V.Value.One V.Scalar.Blank) q p g = keeps_return p
      good_replace (V.Value.One (V.Scalar.Int n)) q p g = keeps_return p
      good_replace (V.Value.One (V.Scalar.Bool b)) q p g = keeps_return p
      good_replace (V.Value.One (V.Scalar.Text t)) q p g = keeps_return p
      good_replace (V.Value.One (V.Scalar.Sheet s)) q p g = keeps_return p
      good_replace (V.Value.Array z xs) q p g = good_replace_each version (V.Value.Array z xs) q p g

      pub good_call : (e : Frame) (f : Fun) (xs : List Argument) → SoundFrame e → Enough f (length xs) → AllGood xs → Good IsSoundValue (E.call version e f xs)
      good_call e F.Fun.If (c ∷ t ∷ f ∷ []) s n g = good_then IsSoundValue IsSoundValue c.eval _ g.0.1 (λ v p. good_choose v t.eval f.eval p g.1.0.1 g.1.1.0.1)
      good_call e F.Fun.IfError (x ∷ y ∷ []) s n g = good_then IsSoundValue IsSoundValue x.eval _ g.0.1 (λ v p. good_replace v y.eval p g.1.0.1)
      good_call e F.Fun.Sheet (r ∷ []) s n g = good_made (M.sheet e (E.written_range r.form)) (sheet_sound e (E.written_range r.form) s)
      good_call e F.Fun.Update (u ∷ a ∷ f ∷ []) s n g = good_update e u.eval _ f.eval g.0.1 g.1.1.0.1
      good_call e F.Fun.View (u ∷ r ∷ []) s n g = good_view u.eval r.form g.0.1 g.1.0.0
      good_call e F.Fun.G (r ∷ pairs) s n g =
          good_view _ r.form (good_updates e (E.made (M.sheet e (E.written_range r.form))) pairs (good_made (M.sheet e (E.written_range r.form)) (sheet_sound e (E.written_range r.form) s)) g.1) g.0.0
      good_call e F.Fun.This [] s n g = keeps_return (this_sound e s)
      good_call e f xs s n g = good_apply f xs n g

      pub takes_enough : (e : Frame) (bs : Bindings) (f : Fun) (fs : Formulas) → IsTrue (takes f fs) → Enough f (length (E.arguments version e bs fs))
      takes_enough e bs F.Fun.HStack (F.Formulas.formula_and f fs) h = omega arith
      takes_enough e bs F.Fun.VStack (F.Formulas.formula_and f fs) h = omega arith
      takes_enough e bs F.Fun.HStack F.Formulas.no_formula h = absurd (cc h)
      takes_enough e bs F.Fun.VStack F.Formulas.no_formula h = absurd (cc h)
      takes_enough e bs f fs h = tt

      mutual
        pub good_eval : (e : Frame) (bs : Bindings) (f : Formula) → SoundFrame e → SoundBindings bs → IsTrue (is_fit f) → Good IsSoundValue (E.eval version e bs f)
        good_eval e bs (F.Formula.Int n) s b h = keeps_return refl
        good_eval e bs (F.Formula.Text t) s b h = keeps_return h
        good_eval e bs (F.Formula.Bool c) s b h = keeps_return refl
        good_eval e bs (F.Formula.At a) s b h = R.good_address S w fit e a s
        good_eval e bs (F.Formula.Spill a) s b h = R.good_spill S w fit e a s
        good_eval e bs (F.Formula.Area r) s b h = R.good_range S w fit e r s h
        good_eval e bs (F.Formula.Var name) s b h = keeps_return (bound_sound bs name b)
        good_eval e bs (F.Formula.Neg f) s b h = good_then IsSoundValue IsSoundValue _ _ (good_eval e bs f s b h) (λ v p. keeps_return (lift1_sound negate (λ x q. negate_sound x) v p))
        good_eval e bs (F.Formula.Chain level f rest) s b h =
            let p = and_parts (is_fit f) (are_fit_operands rest) h in
            good_then IsSoundValue IsSoundValue _ _ (good_eval e bs f s b p.0) (λ v q. good_rest e bs v rest s b q p.1)
        good_eval e bs (F.Formula.Compare op f g) s b h =
            let p = and_parts (is_fit f) (is_fit g) h in
            good_then IsSoundValue IsSoundValue _ _ (good_eval e bs f s b p.0)
            (λ u t. good_then IsSoundValue IsSoundValue _ _ (good_eval e bs g s b p.1) (λ v z. keeps_return (lift2_sound (compare op) (compare_sound op) u v t z)))
        good_eval e bs (F.Formula.Call f xs) s b h =
            let p = and_parts (takes f xs) (are_fit xs) h in
            good_call e f (E.arguments version e bs xs) s (takes_enough e bs f xs p.0) (good_arguments e bs xs s b p.1)
        good_eval e bs (F.Formula.Let name f body) s b h =
            let p = and_parts (is_fit f) (is_fit body) h in
            good_then IsSoundValue IsSoundValue _ _ (good_eval e bs f s b p.0) (λ v q. good_eval e ((name, v) ∷ bs) body s (q, b) p.1)

        pub good_rest : (e : Frame) (bs : Bindings) (u : Value) (rest : Operands) → SoundFrame e → SoundBindings bs → IsSoundValue u → IsTrue (are_fit_operands rest) → Good IsSoundValue (E.eval_rest version e bs u rest)
        good_rest e bs u F.Operands.no_operand s b q h = keeps_return q
        good_rest e bs u (F.Operands.operand_and op f rest) s b q h =
            let p = and_parts (is_fit f) (are_fit_operands rest) h in
            good_then IsSoundValue IsSoundValue _ _ (good_eval e bs f s b p.0) (λ v t. good_rest e bs (lift2 (operate op) u v) rest s b (lift2_sound (operate op) (operate_sound op) u v q t) p.1)

        pub good_arguments : (e : Frame) (bs : Bindings) (fs : Formulas) → SoundFrame e → SoundBindings bs → IsTrue (are_fit fs) → AllGood (E.arguments version e bs fs)
        good_arguments e bs F.Formulas.no_formula s b h = tt
        good_arguments e bs (F.Formulas.formula_and f fs) s b h =
            let p = and_parts (is_fit f) (are_fit fs) h in
            ((p.0, good_eval e bs f s b p.0), good_arguments e bs fs s b p.1)

      pub good_cell : (e : Frame) (x : Option Held) → SoundFrame e → FitHeld x → Good IsSoundValue (cell_value version e x)
      unfolding cell_value
      good_cell e (Some (Computed f)) s h = good_eval e [] f s tt h
      good_cell e (Some (Given v)) s h = keeps_return h
      good_cell e None s h = keeps_return refl

  -- ---- settlings

  abbrev pub Any : {X : Type 0} → X → Type 0
  Any x = Unit {0}

  pub good_arrays : (e : Frame) (xs : List Fact) → SoundFrame e → FitFacts xs → Good Any (E.arrays e xs)
  good_arrays e [] s t = keeps_return tt
  good_arrays e (x ∷ xs) s (f, t) = good_then SoundIf Any _ _ (R.good_own S w e x s f) (λ v u. good_then Any Any _ _ (good_arrays e xs s t) (λ zs q. keeps_return tt))

  good_settled : (go : Oracle → Eval Oracle) (o next : Oracle) (b : Bool) → ((p : Oracle) → Good Any (go p)) → Good Any (E.settled_or go o next b)
  good_settled go o next true g = keeps_return tt
  good_settled go o next false g = g next

  pub good_rounds : (s : SheetValue) (xs : List Fact) (n : ℕ) (o : Oracle) → IsTrue (is_sound_sheet s) → FitFacts xs → Good Any (E.rounds s xs n o)
  good_rounds s xs zero o h t = keeps_return tt
  good_rounds s xs (suc n) o h t = good_then Any Any _ _ (good_arrays (In s o) xs h t) (λ zs q. good_settled _ o (E.next_in s xs zs) _ (λ p. good_rounds s xs n p h t))

  -- ---- keys

  value_outcome : (e : Frame) (a : Addr) (r : Result Value Budget) → R.OnOk S w IsSoundValue r → IsSoundOutcome (Cell e a) (as_value r)
  value_outcome e a (Ok v) h = (h, refl)
  value_outcome e a (Err b) h = (refl, refl)

  settled_outcome : (s : SheetValue) (r : Result Oracle Budget) → IsSoundOutcome (Settle s) (as_settled r)
  settled_outcome s (Ok o) = (refl, refl)
  settled_outcome s (Err b) = (refl, refl)

  -- a sound key's program asks for sound keys, and returns a sound outcome of the key
  pub keeps_sound : AreFit S → (version : Version) (k : Key) → IsTrue (is_sound_key k) → Keeps (λ j. IsTrue (is_sound_key j)) IsSoundOutcome (IsSoundOutcome k) (program (world version S w) k)
  unfolding program evaluation
  keeps_sound fit version (Cell e a) h =
      keeps_look (keeps_bind (λ j. IsTrue (is_sound_key j)) IsSoundOutcome (R.OnOk S w IsSoundValue) (IsSoundOutcome (Cell e a)) (facts S w) (cell_value version e (own_content (fact_at (facts S w (single a)) a).content e a)) (λ r. Done (as_value r))
      (good_cell fit version e _ h (own_fit (fact_at (facts S w (single a)) a).content e a (at_fit (facts S w (single a)) a (facts_fit S w fit (single a))) h))
      (λ r q. keeps_return {r = as_value r} (value_outcome e a r q)))
  keeps_sound fit version (Settle s) h =
      keeps_look (keeps_bind (λ j. IsTrue (is_sound_key j)) IsSoundOutcome (R.OnOk S w Any) (IsSoundOutcome (Settle s)) (facts S w) (E.rounds s (facts S w (region s)) (E.copy_budget s (facts S w (region s))) []) (λ r. Done (as_settled r))
      (good_rounds s (facts S w (region s)) _ [] h (facts_fit S w fit (region s)))
      (λ r q. keeps_return {r = as_settled r} (settled_outcome s r)))
