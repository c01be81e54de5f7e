-- Each key that a program asks for is proper: a formula cell in the region of its frame, or a settling.
use Rattle.std.proofs.Common.{◌≡◌, ℕ, zero, suc, ◌+◌, ◌-◌, List, [], ◌∷◌, map, Bool, true, false, if◌then◌else◌, Option, Some, None, Result, Ok, Err, refl, subst, sym, arith}
use Rattle.gl_calculus.specs.Computation.Query.{EachAsked}
use Rattle.gl_calculus.specs.Computation.Evaluation.{Done, given}
use Rattle.laws_calculus.proofs.Query.Asked.{Keeps, keeps_return, keeps_look, keeps_ask, keeps_bind, keeps_asked}
use Rattle.gl_calculus.specs.Grid.Grid.{Addr, same_addr, Range, single, addresses}
use Rattle.gl_calculus.specs.Values.Value as V
use Rattle.gl_calculus.specs.Values.Value.{Value, SheetValue, Oracle, Frame, In}
use Rattle.gl_calculus.specs.Values.Sheet as M
use Rattle.gl_calculus.specs.Values.Sheet.{Made, Outside, Deep, Heavy}
use Rattle.gl_calculus.specs.Formulas.Formula.{Version, Formula, Formulas, Operands, Fun, Cells, content}
use Rattle.gl_calculus.specs.Formulas.Formula as F
use Rattle.gl_calculus.specs.Evaluation.Oracle.{Cover}
use Rattle.gl_calculus.specs.Evaluation.Facts.{Fact, fact, facts, find_fact, fact_at}
use Rattle.gl_calculus.specs.Evaluation.Key.{Key, Cell, Settle, Outcome, Settled, Abort, Budget, Eval, give, on_result, ◌>>=◌, own_value, as_value, as_settled}
use Rattle.gl_calculus.specs.Evaluation.Reference as R
use Rattle.gl_calculus.specs.Evaluation.Reference.{Held, Given, Computed, own_content, home, own, value_of, at_address, at_range, spill_of}
use Rattle.gl_machine.specs.Seen.{seen_or_looked, Reading, covered_seen, shown_seen, deref_seen, deref_all_seen}
use Rattle.laws_calculus.proofs.Calculus.ReadsOnce.{reads_once, reads_alone}
use Rattle.gl_calculus.specs.Evaluation.World.{world}
use Rattle.gl_calculus.specs.Evaluation.Evaluation as E
use Rattle.gl_calculus.specs.Evaluation.Evaluation.{Argument, program, evaluation, cell_value}
use Rattle.gl_calculus.specs.Values.Functions.{apply}
use Rattle.gl_calculus.specs.Evaluation.Sound.{IsProperKey}
use Rattle.gl_calculus.proofs.Tests.{addr_same}

-- ---- the fact of an address

pub addresses_single : (a : Addr) → addresses (single a) ≡ a ∷ []
addresses_single a =
    let r : a.row + 1 - a.row ≡ 1 = omega arith in
    let c : a.col + 1 - a.col ≡ 1 = omega arith in
    rw (r, c) refl

module _ (S : Cells) (w : Oracle) where
  pub facts_single : (a : Addr) → facts S w (single a) ≡ fact S w a ∷ []
  facts_single a = rw (addresses_single a) refl

  pub fact_at_single : (a : Addr) → fact_at (facts S w (single a)) a ≡ fact S w a
  fact_at_single a = rw (facts_single a, addr_same a) refl

  -- the fact has the content that the sheet has there
  abbrev pub Fits : Fact → Type 0
  Fits x = x.content ≡ content S x.address

  abbrev pub AllFit : List Fact → Type 0
  AllFit [] = Unit {0}
  AllFit (x ∷ xs) = Fits x × AllFit xs

  abbrev FitsIf : Option Fact → Type 0
  FitsIf None = Unit {0}
  FitsIf (Some x) = Fits x

  fits_single : (a : Addr) → Fits (fact_at (facts S w (single a)) a)
  fits_single a = subst Fits (sym (fact_at_single a)) refl

  facts_fit_at : (xs : List Addr) → AllFit (map (fact S w) xs)
  facts_fit_at [] = tt
  facts_fit_at (a ∷ xs) = (refl, facts_fit_at xs)

  facts_fit : (r : Range) → AllFit (facts S w r)
  facts_fit r = facts_fit_at (addresses r)

  fits_either : (b : Bool) (x y : Option Fact) → FitsIf x → FitsIf y → FitsIf (if b then x else y)
  fits_either true x y s t = s
  fits_either false x y s t = t

  found_fits : (xs : List Fact) (a : Addr) → AllFit xs → FitsIf (find_fact xs a)
  found_fits [] a t = tt
  found_fits (x ∷ xs) a (t, ts) = fits_either (same_addr x.address a) (Some x) (find_fact xs a) t (found_fits xs a ts)

  -- ---- evaluations

  abbrev OnOk : {X : Type 0} → (X → Type 0) → Result X Budget → Type 0
  OnOk Q (Ok x) = Q x
  OnOk Q (Err b) = Unit {0}

  -- an evaluation that asks for proper keys alone, and whose results have the property
  abbrev GoodWith : {X : Type 0} → (X → Type 0) → Eval X → Type 0
  GoodWith Q p = Keeps (IsProperKey S) (λ k o. Unit {0}) (OnOk Q) (given (facts S w) p)

  abbrev Good : {X : Type 0} → Eval X → Type 0
  Good p = GoodWith (λ x. Unit {0}) p

  good_with : {X Y : Type 0} (Q : X → Type 0) (P : Y → Type 0) (p : Eval X) (f : X → Eval Y) → GoodWith Q p → ((x : X) → Q x → GoodWith P (f x)) → GoodWith P (p >>= f)
  good_with Q P p f e g = keeps_bind (IsProperKey S) (λ k o. Unit {0}) (OnOk Q) (OnOk P) (facts S w) p (on_result f) e (elim [ Ok x ↦ λ q. g x q | Err b ↦ λ q. keeps_return tt ])

  good_then : {X Y : Type 0} (p : Eval X) (f : X → Eval Y) → Good p → ((x : X) → Good (f x)) → Good (p >>= f)
  good_then p f e g = good_with (λ x. Unit {0}) (λ x. Unit {0}) p f e (λ x q. g x)

  gives : {X : Type 0} {x : X} → Good (give x)
  gives = keeps_return tt

  good_value : (e : Frame) (a : Addr) (h : Option Held) → own_content (content S a) e a ≡ h → Good (value_of e a h)
  good_value e a None p = gives
  good_value e a (Some (Given v)) p = gives
  good_value e a (Some (Computed f)) p = keeps_ask {c = λ o. given (facts S w) (own_value o)} (f, p) (elim [ Outcome.Value v ↦ λ t. gives | Settled o ↦ λ t. gives | Abort b ↦ λ t. keeps_return tt ])

  good_own : (e : Frame) (x : Fact) → Fits x → Good (own e x)
  good_own e x t = good_value e x.address (own_content x.content e x.address) (subst (λ c. own_content c e x.address ≡ own_content x.content e x.address) t refl)

  -- a reading keeps facts that fit
  abbrev SeenFit : Reading → Type 0
  SeenFit y = AllFit y.1

  good_root : (a : Addr) (s : Option Fact) → FitsIf s → GoodWith Fits (seen_or_looked a s)
  good_root a (Some x) t = keeps_return t
  good_root a None t = keeps_look (keeps_return (fits_single a))

  good_covered : (e : Frame) (seen : List Fact) (c : Option Cover) → AllFit seen → GoodWith SeenFit (covered_seen e seen c)
  good_covered e seen None t = keeps_return t
  good_covered e seen (Some c) t =
      good_with Fits SeenFit _ _ (good_root c.root (find_fact seen c.root) (found_fits seen c.root t))
      (λ x f. good_with (λ v. Unit {0}) SeenFit _ _ (good_own e x f) (λ v u. keeps_return (f, t)))

  good_shown : (e : Frame) (seen : List Fact) (x : Fact) (v : Option Value) → AllFit seen → GoodWith SeenFit (shown_seen e seen x v)
  good_shown e seen x (Some v) t = keeps_return t
  good_shown e seen x None t = good_covered e seen (R.cover_in x e) t

  good_deref : (e : Frame) (seen : List Fact) (x : Fact) → Fits x → AllFit seen → GoodWith SeenFit (deref_seen e seen x)
  good_deref e seen x f t = good_with (λ v. Unit {0}) SeenFit _ _ (good_own (home e x.address) x f) (λ v u. good_shown (home e x.address) seen x v t)

  good_deref_all : (e : Frame) (seen rest : List Fact) → AllFit seen → AllFit rest → Good (deref_all_seen e seen rest)
  good_deref_all e seen [] t u = gives
  good_deref_all e seen (x ∷ rest) t (f, u) = good_with SeenFit (λ v. Unit {0}) _ _ (good_deref e seen x f t) (λ y s. good_then _ _ (good_deref_all e y.1 rest s u) (λ ys. gives))

  good_address : (e : Frame) (a : Addr) → Good (at_address e a)
  good_address e a = subst Good (sym (reads_alone e a)) (keeps_look (good_with SeenFit (λ v. Unit {0}) _ _ (good_deref e [] (fact_at (facts S w (single a)) a) (fits_single a) tt) (λ y s. gives)))

  good_range : (e : Frame) (r : Range) → Good (at_range e r)
  good_range e r = subst Good (sym (reads_once e r)) (keeps_look (good_then _ _ (good_deref_all e [] (facts S w r) tt (facts_fit r)) (λ ys. gives)))

  good_whole : (e : Frame) (x : Fact) (h : Option Held) (p : Option V.Permit) → Fits x → Good (R.whole e x h p)
  good_whole e x (Some h) (Some V.Permit.Permitted) f = good_then _ _ (good_own e x f) (λ v. gives)
  good_whole e x (Some h) (Some V.Permit.Refused) f = gives
  good_whole e x (Some h) None f = gives
  good_whole e x None p f = gives

  good_spill : (e : Frame) (a : Addr) → Good (spill_of e a)
  good_spill e a = keeps_look (good_whole (home e a) (fact_at (facts S w (single a)) a) _ _ (fits_single a))

  good_made : (m : Made) → Good (E.made m)
  good_made (Made.Sheet s) = gives
  good_made Outside = gives
  good_made Deep = keeps_return tt
  good_made Heavy = gives

  good_on_sheet : (f : SheetValue → Eval Value) (v : Value) → ((s : SheetValue) → Good (f s)) → Good (E.on_sheet f v)
  good_on_sheet f (V.Value.One (V.Scalar.Sheet s)) g = g s
  good_on_sheet f (V.Value.One (V.Scalar.Err k)) g = gives
  good_on_sheet f (V.Value.One V.Scalar.Blank) g = gives
  good_on_sheet f (V.Value.One (V.Scalar.Int n)) g = gives
  good_on_sheet f (V.Value.One (V.Scalar.Bool b)) g = gives
  good_on_sheet f (V.Value.One (V.Scalar.Text t)) g = gives
  good_on_sheet f (V.Value.Array z xs) g = gives

  -- the arguments of a call are good
  abbrev AllGood : List Argument → Type 0
  AllGood [] = Unit {0}
  AllGood (x ∷ xs) = Good x.eval × AllGood xs

  good_update : (e : Frame) (q : Eval Value) (a : Addr) (r : Eval Value) → Good q → Good r → Good (E.update_by e q a r)
  good_update e q a r g h = good_then q _ g (λ u. good_then r _ h (λ v. good_on_sheet _ u (λ s. good_made (M.update e s a v))))

  good_updates : (e : Frame) (q : Eval Value) (xs : List Argument) → Good q → AllGood xs → Good (E.updates e q xs)
  good_updates e q [] g h = g
  good_updates e q (a ∷ []) g h = g
  good_updates e q (a ∷ f ∷ xs) g h = good_updates e (E.update_by e q (E.written_address a.form) f.eval) xs (good_update e q _ f.eval g h.1.0) h.1.1

  good_written : (e : Frame) (f : Formula) → Good (E.at_written e f)
  good_written e (F.Formula.At a) = good_address e a
  good_written e (F.Formula.Area r) = good_range e r
  good_written e f = gives

  good_view : (q : Eval Value) (f : Formula) → Good q → Good (E.view_by q f)
  good_view q f g = good_then q _ g (λ u. good_on_sheet _ u (λ s. keeps_ask tt (elim [ Outcome.Value v ↦ λ t. good_written (In s []) f | Settled o ↦ λ t. good_written (In s o) f | Abort b ↦ λ t. keeps_return tt ])))

  good_each : (v : Version) (c : Value) (q r : Eval Value) → Good q → Good r → Good (E.choose_each v c q r)
  good_each F.Version.One c q r g h = gives
  good_each F.Version.Two c q r g h = good_then q _ g (λ u. good_then r _ h (λ v. gives))

  good_replace_each : (v : Version) (u : Value) (q : Eval Value) → Good q → Good (E.replace_each v u q)
  good_replace_each F.Version.One u q g = gives
  good_replace_each F.Version.Two u q g = good_then q _ g (λ x. gives)

  good_values : (xs : List Argument) → AllGood xs → Good (E.all_values xs)
  good_values [] g = gives
  good_values (x ∷ xs) g = good_then x.eval _ g.0 (λ v. good_then _ _ (good_values xs g.1) (λ vs. gives))

  good_apply : (f : Fun) (xs : List Argument) → AllGood xs → Good (E.all_values xs >>= λ vs. give (apply f vs))
  good_apply f xs g = good_then _ _ (good_values xs g) (λ vs. gives)

  module _ (version : Version) where
    good_choose : (v : Value) (q r : Eval Value) → Good q → Good r → Good (E.choose version v q r)
    good_choose (V.Value.One (V.Scalar.Bool true)) q r g h = g
    good_choose (V.Value.One (V.Scalar.Bool false)) q r g h = h
    good_choose (V.Value.One V.Scalar.Blank) q r g h = h
    good_choose (V.Value.One (V.Scalar.Err k)) q r g h = gives
    good_choose (V.Value.One (V.Scalar.Int n)) q r g h = gives
    good_choose (V.Value.One (V.Scalar.Text t)) q r g h = gives
    good_choose (V.Value.One (V.Scalar.Sheet s)) q r g h = gives
    good_choose (V.Value.Array z xs) q r g h = good_each version (V.Value.Array z xs) q r g h

    good_replace : (v : Value) (q : Eval Value) → Good q → Good (E.replace version v q)
    good_replace (V.Value.One (V.Scalar.Err k)) q g = g
    good_replace (V.Value.One V.Scalar.Blank) q g = gives
    good_replace (V.Value.One (V.Scalar.Int n)) q g = gives
    good_replace (V.Value.One (V.Scalar.Bool b)) q g = gives
    good_replace (V.Value.One (V.Scalar.Text t)) q g = gives
    good_replace (V.Value.One (V.Scalar.Sheet s)) q g = gives
    good_replace (V.Value.Array z xs) q g = good_replace_each version (V.Value.Array z xs) q g

    good_call : (e : Frame) (f : Fun) (xs : List Argument) → AllGood xs → Good (E.call version e f xs)
    good_call e F.Fun.If (c ∷ t ∷ f ∷ []) g = good_then c.eval _ g.0 (λ v. good_choose v t.eval f.eval g.1.0 g.1.1.0)
    good_call e F.Fun.IfError (x ∷ y ∷ []) g = good_then x.eval _ g.0 (λ v. good_replace v y.eval g.1.0)
    good_call e F.Fun.Sheet (r ∷ []) g = good_made _
    good_call e F.Fun.Update (s ∷ a ∷ f ∷ []) g = good_update e s.eval _ f.eval g.0 g.1.1.0
    good_call e F.Fun.View (s ∷ r ∷ []) g = good_view s.eval r.form g.0
    good_call e F.Fun.G (r ∷ pairs) g = good_view _ r.form (good_updates e (E.made (M.sheet e (E.written_range r.form))) pairs (good_made _) g.1)
    good_call e F.Fun.This [] g = gives
    good_call e f xs g = good_apply f xs g

    mutual
      good_eval : (e : Frame) (bs : E.Bindings) (f : Formula) → Good (E.eval version e bs f)
      good_eval e bs (F.Formula.Int n) = gives
      good_eval e bs (F.Formula.Text t) = gives
      good_eval e bs (F.Formula.Bool b) = gives
      good_eval e bs (F.Formula.At a) = good_address e a
      good_eval e bs (F.Formula.Spill a) = good_spill e a
      good_eval e bs (F.Formula.Area r) = good_range e r
      good_eval e bs (F.Formula.Var name) = gives
      good_eval e bs (F.Formula.Neg f) = good_then _ _ (good_eval e bs f) (λ v. gives)
      good_eval e bs (F.Formula.Chain level f rest) = good_then _ _ (good_eval e bs f) (λ v. good_rest e bs v rest)
      good_eval e bs (F.Formula.Compare op f g) = good_then _ _ (good_eval e bs f) (λ u. good_then _ _ (good_eval e bs g) (λ v. gives))
      good_eval e bs (F.Formula.Call f xs) = good_call e f _ (good_arguments e bs xs)
      good_eval e bs (F.Formula.Let name f body) = good_then _ _ (good_eval e bs f) (λ v. good_eval e ((name, v) ∷ bs) body)

      good_rest : (e : Frame) (bs : E.Bindings) (u : Value) (rest : Operands) → Good (E.eval_rest version e bs u rest)
      good_rest e bs u F.Operands.no_operand = gives
      good_rest e bs u (F.Operands.operand_and op f rest) = good_then _ _ (good_eval e bs f) (λ v. good_rest e bs _ rest)

      good_arguments : (e : Frame) (bs : E.Bindings) (fs : Formulas) → AllGood (E.arguments version e bs fs)
      good_arguments e bs F.Formulas.no_formula = tt
      good_arguments e bs (F.Formulas.formula_and f fs) = (good_eval e bs f, good_arguments e bs fs)

    good_cell : (e : Frame) (h : Option Held) → Good (cell_value version e h)
    unfolding cell_value
    good_cell e (Some (Computed f)) = good_eval e [] f
    good_cell e (Some (Given v)) = gives
    good_cell e None = gives

  -- ---- settlings

  good_arrays : (e : Frame) (xs : List Fact) → AllFit xs → Good (E.arrays e xs)
  good_arrays e [] t = gives
  good_arrays e (x ∷ xs) (f, t) = good_then _ _ (good_own e x f) (λ v. good_then _ _ (good_arrays e xs t) (λ zs. gives))

  good_settled : (go : Oracle → Eval Oracle) (o next : Oracle) (b : Bool) → ((p : Oracle) → Good (go p)) → Good (E.settled_or go o next b)
  good_settled go o next true g = gives
  good_settled go o next false g = g next

  good_rounds : (s : SheetValue) (xs : List Fact) (n : ℕ) (o : Oracle) → AllFit xs → Good (E.rounds s xs n o)
  good_rounds s xs zero o t = keeps_return tt
  good_rounds s xs (suc n) o t = good_then _ _ (good_arrays (In s o) xs t) (λ zs. good_settled _ o (E.next_in s xs zs) _ (λ p. good_rounds s xs n p t))

  -- every key that is asked for is proper
  pub asks_proper : (version : Version) (k : Key) → EachAsked (IsProperKey S) (program (world version S w) k)
  unfolding program evaluation
  asks_proper version (Cell e a) =
      keeps_asked (IsProperKey S) (λ k o. Unit {0}) (λ r. Unit {0}) _ (λ k o. tt)
      (keeps_look (keeps_bind (IsProperKey S) (λ k o. Unit {0}) (OnOk (λ v. Unit {0})) (λ r. Unit {0}) (facts S w) (cell_value version e (own_content (fact_at (facts S w (single a)) a).content e a)) (λ r. Done (as_value r)) (good_cell version e _) (λ r q. keeps_return {r = as_value r} tt)))
  asks_proper version (Settle s) =
      keeps_asked (IsProperKey S) (λ k o. Unit {0}) (λ r. Unit {0}) _ (λ k o. tt)
      (keeps_look (keeps_bind (IsProperKey S) (λ k o. Unit {0}) (OnOk (λ v. Unit {0})) (λ r. Unit {0}) (facts S w) (E.rounds s (facts S w (V.region s)) (E.copy_budget s (facts S w (V.region s))) []) (λ r. Done (as_settled r)) (good_rounds s (facts S w (V.region s)) _ [] (facts_fit (V.region s))) (λ r q. keeps_return {r = as_settled r} tt)))
