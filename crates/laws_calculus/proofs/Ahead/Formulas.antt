-- What formulas demand first.
use Rattle.std.proofs.Common.{◌≡◌, List, [], ◌∷◌, ◌++◌, inl, inr, Option, Some, None, Result, Ok, Err, refl, sym, ap, subst, ◌∙◌, append_assoc}
use Rattle.gl_calculus.specs.Computation.Query.{Found, Ready, Need, found}
use Rattle.gl_calculus.specs.Computation.Evaluation.{Done, Demand, bind, given, then_found}
use Rattle.laws_calculus.proofs.Query.Forming.{found-bind}
use Rattle.gl_calculus.specs.Grid.Grid.{Addr, Range, addresses}
use Rattle.gl_calculus.specs.Formulas.Formula.{Cells, Version, Formula, Formulas, Operands, Fun, content}
use Rattle.gl_calculus.specs.Values.Value.{Oracle, Value, Frame, In}
use Rattle.gl_calculus.specs.Evaluation.Facts.{fact, facts}
use Rattle.gl_calculus.specs.Evaluation.Key.{Key, Settle, Outcome, Budget, Eval, give, on_result, settled_oracle, as_value, ◌>>=◌}
use Rattle.gl_calculus.specs.Values.Operators.{negate, compare, operate}
use Rattle.gl_calculus.specs.Values.Lift.{lift1, lift2}
use Rattle.gl_calculus.specs.Values.Functions.{apply}
use Rattle.gl_calculus.specs.Values.Sheet.{update}
use Rattle.gl_calculus.specs.Evaluation.Reference.{Held, Given, Computed, own_content, at_address, at_range}
use Rattle.gl_calculus.specs.Evaluation.Evaluation.{Bindings, all_values, written_address, choose, replace, on_sheet, made, at_written, this, call, eval, eval_rest, arguments, cell_value, evaluation}
use Rattle.laws_calculus.proofs.Calculus.Proper.{fact_at_single}
use Rattle.gl_machine.specs.Ahead.Ahead.{first_lacked}
use Rattle.gl_machine.specs.Ahead.Demands.{is_value, address_keys, range_keys, first_reads, call_reads, begun_reads, operand_reads, argument_reads, held_reads, reads_keys}
use Rattle.laws_calculus.specs.Ahead.{FormulaDemands, ArgumentsDemand, CellDemands}
use Rattle.laws_calculus.proofs.Ahead.Onward.{split}
use Rattle.laws_calculus.proofs.Ahead.Ranges.{Follows, Any, address_follows, area_follows}

module _ (S : Cells) (w : Oracle) (g : Key → Option Outcome) where
  -- it needs the first of these keys without outcome
  abbrev Lacks : {R : Type 0} → List Key → Eval R → Type 0
  Lacks ks p = (i : Key) → first_lacked is_value g ks ≡ Some i → found g (given (facts S w) p) ≡ Need i

  lacks_none : {R : Type 0} (p : Eval R) → Lacks [] p
  lacks_none p i d = absurd (cc d)

  -- ---- one evaluation after another

  then_two : {R T U : Type 0} (k : R → Eval T) (h : T → Eval U) (x : Found Key (Result R Budget)) →
      then_found (then_found x (λ r. found g (given (facts S w) (on_result k r)))) (λ r. found g (given (facts S w) (on_result h r)))
      ≡ then_found x (λ r. found g (given (facts S w) (on_result (λ v. k v >>= h) r)))
  then_two k h (Need j) = refl
  then_two k h (Ready (Ok v)) = sym (found-bind (facts S w) g (on_result h) (k v))
  then_two k h (Ready (Err b)) = refl

  regroup : {R T U : Type 0} (p : Eval R) (k : R → Eval T) (h : T → Eval U) → found g (given (facts S w) ((p >>= k) >>= h)) ≡ found g (given (facts S w) (p >>= λ v. k v >>= h))
  regroup p k h =
      found-bind (facts S w) g (on_result h) (p >>= k)
      ∙ ap (λ x. then_found x (λ r. found g (given (facts S w) (on_result h r)))) (found-bind (facts S w) g (on_result k) p)
      ∙ then_two k h (found g (given (facts S w) p))
      ∙ sym (found-bind (facts S w) g (on_result (λ v. k v >>= h)) p)

  lacks_both : {R T U : Type 0} (ks : List Key) (p : Eval R) (k : R → Eval T) (h : T → Eval U) → Lacks ks (p >>= λ v. k v >>= h) → Lacks ks ((p >>= k) >>= h)
  lacks_both ks p k h a i d = regroup p k h ∙ a i d

  -- a reference, and what follows
  lacks_on : {T : Type 0} (ks js : List Key) (p : Eval Value) (h : Value → Eval T) → Follows S w g {R = Value} ks p (Any S w g) → ((v : Value) → Lacks js (h v)) → Lacks (ks ++ js) (p >>= h)
  lacks_on ks js p h a b i d =
      found-bind (facts S w) g (on_result h) p
      ∙ elim (split is_value g ks js i d) [
        | inl e ↦ ap (λ t. then_found t (λ r. found g (given (facts S w) (on_result h r)))) (a.0 i e)
        | inr e ↦ let (v, e', u) = a.1 e.0 in ap (λ t. then_found t (λ r. found g (given (facts S w) (on_result h r)))) e' ∙ b v i e.1
      ]

  keys_append : (e : Frame) (xs ys : List Addr) → reads_keys (fact S w) e (xs ++ ys) ≡ reads_keys (fact S w) e xs ++ reads_keys (fact S w) e ys
  keys_append e [] ys = refl
  keys_append e (x ∷ xs) ys =
      ap (λ l. address_keys (fact S w) e (fact S w x) ++ l) (keys_append e xs ys)
      ∙ sym (append_assoc (address_keys (fact S w) e (fact S w x)) (reads_keys (fact S w) e xs) (reads_keys (fact S w) e ys))

  -- ---- formulas

  module _ (version : Version) (e : Frame) where
    abbrev keys : List Addr → List Key
    keys = reads_keys (fact S w) e

    lacks_area : {T : Type 0} (r : Range) (on : List Addr) (h : Value → Eval T) → ((v : Value) → Lacks (keys on) (h v)) → Lacks (keys (addresses r ++ on)) (at_range e r >>= h)
    lacks_area r on h b = subst (λ l. Lacks l (at_range e r >>= h)) (sym (keys_append e (addresses r) on)) (lacks_on (range_keys (fact S w) e (facts S w r)) (keys on) (at_range e r) h (area_follows S w g e r) b)

    -- ---- calls, by what their arguments lack

    module _ (T : Type 0) (bs : Bindings) where
      -- what the first argument reads first is ahead
      abbrev Begins : Formulas → Type 0
      Begins Formulas.no_formula = Unit {0}
      Begins (Formulas.formula_and f fs) = (h : Value → Eval T) → Lacks (keys (first_reads f [])) (eval version e bs f >>= h)

      -- whatever follows
      begun : {R : Type 0} (f : Formula) (k : Value → Eval R) (h : R → Eval T) → ((h : Value → Eval T) → Lacks (keys (first_reads f [])) (eval version e bs f >>= h)) → Lacks (keys (first_reads f [])) ((eval version e bs f >>= k) >>= h)
      begun f k h a = lacks_both (keys (first_reads f [])) (eval version e bs f) k h (a (λ v. k v >>= h))

      started : (fun : Fun) (fs : Formulas) (h : Value → Eval T) → Begins fs → Lacks (keys (begun_reads fs)) ((all_values (arguments version e bs fs) >>= λ vs. give (apply fun vs)) >>= h)
      started fun Formulas.no_formula h a = lacks_none (h (apply fun []))
      started fun (Formulas.formula_and f fs) h a =
          let rest : Value → Eval (List Value) = λ v. all_values (arguments version e bs fs) >>= λ vs. give (v ∷ vs) in
          lacks_both (keys (first_reads f [])) (eval version e bs f >>= rest) (λ vs. give (apply fun vs)) h (begun f rest (λ vs. h (apply fun vs)) a)

      lacks_if : (fs : Formulas) (h : Value → Eval T) → Begins fs → Lacks (keys (begun_reads fs)) (call version e Fun.If (arguments version e bs fs) >>= h)
      lacks_if (Formulas.formula_and c (Formulas.formula_and x (Formulas.formula_and y Formulas.no_formula))) h a = begun c (λ v. choose version v (eval version e bs x) (eval version e bs y)) h a
      lacks_if Formulas.no_formula h a = started Fun.If Formulas.no_formula h a
      lacks_if (Formulas.formula_and c Formulas.no_formula) h a = started Fun.If (Formulas.formula_and c Formulas.no_formula) h a
      lacks_if (Formulas.formula_and c (Formulas.formula_and x Formulas.no_formula)) h a = started Fun.If (Formulas.formula_and c (Formulas.formula_and x Formulas.no_formula)) h a
      lacks_if (Formulas.formula_and c (Formulas.formula_and x (Formulas.formula_and y (Formulas.formula_and z fs)))) h a = started Fun.If (Formulas.formula_and c (Formulas.formula_and x (Formulas.formula_and y (Formulas.formula_and z fs)))) h a

      lacks_if_error : (fs : Formulas) (h : Value → Eval T) → Begins fs → Lacks (keys (begun_reads fs)) (call version e Fun.IfError (arguments version e bs fs) >>= h)
      lacks_if_error (Formulas.formula_and x (Formulas.formula_and y Formulas.no_formula)) h a = begun x (λ v. replace version v (eval version e bs y)) h a
      lacks_if_error Formulas.no_formula h a = started Fun.IfError Formulas.no_formula h a
      lacks_if_error (Formulas.formula_and x Formulas.no_formula) h a = started Fun.IfError (Formulas.formula_and x Formulas.no_formula) h a
      lacks_if_error (Formulas.formula_and x (Formulas.formula_and y (Formulas.formula_and z fs))) h a = started Fun.IfError (Formulas.formula_and x (Formulas.formula_and y (Formulas.formula_and z fs))) h a

      lacks_update : (fs : Formulas) (h : Value → Eval T) → Begins fs → Lacks (keys (begun_reads fs)) (call version e Fun.Update (arguments version e bs fs) >>= h)
      lacks_update (Formulas.formula_and s (Formulas.formula_and x (Formulas.formula_and f Formulas.no_formula))) h a =
          begun s (λ u. eval version e bs f >>= λ v. on_sheet (λ z. made (update e z (written_address x) v)) u) h a
      lacks_update Formulas.no_formula h a = started Fun.Update Formulas.no_formula h a
      lacks_update (Formulas.formula_and c Formulas.no_formula) h a = started Fun.Update (Formulas.formula_and c Formulas.no_formula) h a
      lacks_update (Formulas.formula_and c (Formulas.formula_and x Formulas.no_formula)) h a = started Fun.Update (Formulas.formula_and c (Formulas.formula_and x Formulas.no_formula)) h a
      lacks_update (Formulas.formula_and c (Formulas.formula_and x (Formulas.formula_and y (Formulas.formula_and z fs)))) h a = started Fun.Update (Formulas.formula_and c (Formulas.formula_and x (Formulas.formula_and y (Formulas.formula_and z fs)))) h a

      lacks_view : (fs : Formulas) (h : Value → Eval T) → Begins fs → Lacks (keys (begun_reads fs)) (call version e Fun.View (arguments version e bs fs) >>= h)
      lacks_view (Formulas.formula_and s (Formulas.formula_and r Formulas.no_formula)) h a = begun s (on_sheet (λ z. Demand (Settle z) (λ x. settled_oracle x >>= λ o. at_written (In z o) r))) h a
      lacks_view Formulas.no_formula h a = started Fun.View Formulas.no_formula h a
      lacks_view (Formulas.formula_and x Formulas.no_formula) h a = started Fun.View (Formulas.formula_and x Formulas.no_formula) h a
      lacks_view (Formulas.formula_and x (Formulas.formula_and y (Formulas.formula_and z fs))) h a = started Fun.View (Formulas.formula_and x (Formulas.formula_and y (Formulas.formula_and z fs))) h a

      -- all arguments evaluated
      lacks_plain : (fun : Fun) (fs : Formulas) (on : List Addr) (h : Value → Eval T) → ((v : Value) → Lacks (keys on) (h v))
          → ((k : List Value → Eval T) → ((vs : List Value) → Lacks (keys on) (k vs)) → Lacks (keys (argument_reads fs on)) (all_values (arguments version e bs fs) >>= k))
          → Lacks (keys (argument_reads fs on)) ((all_values (arguments version e bs fs) >>= λ vs. give (apply fun vs)) >>= h)
      lacks_plain fun fs on h b c =
          lacks_both (keys (argument_reads fs on)) (all_values (arguments version e bs fs)) (λ vs. give (apply fun vs)) h (c (λ vs. h (apply fun vs)) (λ vs. b (apply fun vs)))

      lacks_call : (fun : Fun) (fs : Formulas) (on : List Addr) (h : Value → Eval T) → ((v : Value) → Lacks (keys on) (h v)) → Begins fs
          → ((k : List Value → Eval T) → ((vs : List Value) → Lacks (keys on) (k vs)) → Lacks (keys (argument_reads fs on)) (all_values (arguments version e bs fs) >>= k))
          → Lacks (keys (call_reads fun (begun_reads fs) (argument_reads fs on))) (call version e fun (arguments version e bs fs) >>= h)
      lacks_call Fun.If fs on h b a c = lacks_if fs h a
      lacks_call Fun.IfError fs on h b a c = lacks_if_error fs h a
      lacks_call Fun.Update fs on h b a c = lacks_update fs h a
      lacks_call Fun.View fs on h b a c = lacks_view fs h a
      lacks_call Fun.Sheet fs on h b a c = lacks_none (call version e Fun.Sheet (arguments version e bs fs) >>= h)
      lacks_call Fun.G fs on h b a c = lacks_none (call version e Fun.G (arguments version e bs fs) >>= h)
      lacks_call Fun.This Formulas.no_formula on h b a c = b (this e)
      lacks_call Fun.This (Formulas.formula_and f fs) on h b a c = lacks_plain Fun.This (Formulas.formula_and f fs) on h b c
      lacks_call fun fs on h b a c = lacks_plain fun fs on h b c

    -- ---- formulas

    mutual
      lacks_formula : {T : Type 0} (bs : Bindings) (f : Formula) (on : List Addr) (h : Value → Eval T) → ((v : Value) → Lacks (keys on) (h v)) → Lacks (keys (first_reads f on)) (eval version e bs f >>= h)
      lacks_formula bs (Formula.Int n) on h b = b _
      lacks_formula bs (Formula.Text t) on h b = b _
      lacks_formula bs (Formula.Bool c) on h b = b _
      lacks_formula bs (Formula.Var name) on h b = b _
      lacks_formula bs (Formula.At a) on h b = lacks_on (address_keys (fact S w) e (fact S w a)) (keys on) (at_address e a) h (address_follows S w g e a) b
      lacks_formula bs (Formula.Spill a) on h b = lacks_none (eval version e bs (Formula.Spill a) >>= h)
      lacks_formula bs (Formula.Area r) on h b = lacks_area r on h b
      lacks_formula bs (Formula.Neg f) on h b =
          lacks_both (keys (first_reads f on)) (eval version e bs f) (λ v. give (lift1 negate v)) h (lacks_formula bs f on (λ v. h (lift1 negate v)) (λ v. b (lift1 negate v)))
      lacks_formula bs (Formula.Chain level f rest) on h b =
          lacks_both (keys (first_reads f (operand_reads rest on))) (eval version e bs f) (λ v. eval_rest version e bs v rest) h
          (lacks_formula bs f (operand_reads rest on) (λ v. eval_rest version e bs v rest >>= h) (λ v. lacks_rest bs v rest on h b))
      lacks_formula bs (Formula.Compare op f f') on h b =
          lacks_both (keys (first_reads f (first_reads f' on))) (eval version e bs f) (λ u. eval version e bs f' >>= λ v. give (lift2 (compare op) u v)) h
          (lacks_formula bs f (first_reads f' on) (λ u. (eval version e bs f' >>= λ v. give (lift2 (compare op) u v)) >>= h)
          (λ u. lacks_both (keys (first_reads f' on)) (eval version e bs f') (λ v. give (lift2 (compare op) u v)) h (lacks_formula bs f' on (λ v. h (lift2 (compare op) u v)) (λ v. b (lift2 (compare op) u v)))))
      lacks_formula {T} bs (Formula.Call fun fs) on h b = lacks_call T bs fun fs on h b (lacks_begun T bs fs) (λ k c. lacks_arguments bs fs on k c)
      lacks_formula bs (Formula.Let name f body) on h b =
          lacks_both (keys (first_reads f (first_reads body on))) (eval version e bs f) (λ v. eval version e ((name, v) ∷ bs) body) h
          (lacks_formula bs f (first_reads body on) (λ v. eval version e ((name, v) ∷ bs) body >>= h) (λ v. lacks_formula ((name, v) ∷ bs) body on h b))

      lacks_rest : {T : Type 0} (bs : Bindings) (u : Value) (rest : Operands) (on : List Addr) (h : Value → Eval T) → ((v : Value) → Lacks (keys on) (h v)) → Lacks (keys (operand_reads rest on)) (eval_rest version e bs u rest >>= h)
      lacks_rest bs u Operands.no_operand on h b = b u
      lacks_rest bs u (Operands.operand_and op f rest) on h b =
          lacks_both (keys (first_reads f (operand_reads rest on))) (eval version e bs f) (λ v. eval_rest version e bs (lift2 (operate op) u v) rest) h
          (lacks_formula bs f (operand_reads rest on) (λ v. eval_rest version e bs (lift2 (operate op) u v) rest >>= h) (λ v. lacks_rest bs (lift2 (operate op) u v) rest on h b))

      lacks_arguments : {T : Type 0} (bs : Bindings) (fs : Formulas) (on : List Addr) (h : List Value → Eval T) → ((vs : List Value) → Lacks (keys on) (h vs)) → Lacks (keys (argument_reads fs on)) (all_values (arguments version e bs fs) >>= h)
      lacks_arguments bs Formulas.no_formula on h b = b []
      lacks_arguments bs (Formulas.formula_and f fs) on h b =
          let rest : Value → Eval (List Value) = λ v. all_values (arguments version e bs fs) >>= λ vs. give (v ∷ vs) in
          lacks_both (keys (first_reads f (argument_reads fs on))) (eval version e bs f) rest h
          (lacks_formula bs f (argument_reads fs on) (λ v. rest v >>= h)
          (λ v. lacks_both (keys (argument_reads fs on)) (all_values (arguments version e bs fs)) (λ vs. give (v ∷ vs)) h (lacks_arguments bs fs on (λ vs. h (v ∷ vs)) (λ vs. b (v ∷ vs)))))

      lacks_begun : (T : Type 0) (bs : Bindings) (fs : Formulas) → Begins T bs fs
      lacks_begun T bs Formulas.no_formula = tt
      lacks_begun T bs (Formulas.formula_and f fs) = λ h. lacks_formula bs f [] h (λ v. lacks_none (h v))

-- ---- the laws

module _ (S : Cells) (w : Oracle) (g : Key → Option Outcome) where
  -- nothing follows
  at_end : {R : Type 0} (x : Found Key (Result R Budget)) (i : Key) → then_found x (λ r. found g (given (facts S w) (on_result give r))) ≡ Need i → x ≡ Need i
  at_end (Need j) i d = d
  at_end (Ready (Ok v)) i d = absurd (cc d)
  at_end (Ready (Err b)) i d = absurd (cc d)

  alone : {R : Type 0} (p : Eval R) (i : Key) → found g (given (facts S w) (p >>= give)) ≡ Need i → found g (given (facts S w) p) ≡ Need i
  alone p i d = at_end (found g (given (facts S w) p)) i (sym (found-bind (facts S w) g (on_result give) p) ∙ d)

pub formula_demands : FormulaDemands
formula_demands W e bs f g i d = alone W.sheet W.oracle g (eval W.version e bs f) i (lacks_formula W.sheet W.oracle g W.version e bs f [] give (λ v. lacks_none W.sheet W.oracle g (give v)) i d)

pub arguments_demand : ArgumentsDemand
arguments_demand W e bs fs g i d = alone W.sheet W.oracle g (all_values (arguments W.version e bs fs)) i (lacks_arguments W.sheet W.oracle g W.version e bs fs [] give (λ v. lacks_none W.sheet W.oracle g (give v)) i d)

pub cell_demands : CellDemands
unfolding evaluation cell_value
cell_demands W e a g i d =
    ap (λ x. found g (given (facts W.sheet W.oracle) (bind (cell_value W.version e (own_content x.content e a)) (λ r. Done (as_value r))))) (fact_at_single W.sheet W.oracle a)
    ∙ by (own_content (content W.sheet a) e a) d
  where
    by : (h : Option Held) → first_lacked is_value g (reads_keys (fact W.sheet W.oracle) e (held_reads h)) ≡ Some i → found g (given (facts W.sheet W.oracle) (bind (cell_value W.version e h) (λ r. Done (as_value r)))) ≡ Need i
    by (Some (Computed f)) d = found-bind (facts W.sheet W.oracle) g (λ r. Done (as_value r)) (eval W.version e [] f) ∙ ap (λ t. then_found t (λ r. found g (given (facts W.sheet W.oracle) (Done (as_value r))))) (formula_demands W e [] f g i d)
    by (Some (Given v)) d = absurd (cc d)
    by None d = absurd (cc d)
