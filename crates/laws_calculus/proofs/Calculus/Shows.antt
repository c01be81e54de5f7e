-- What an address shows by what formula cells come to.
use Rattle.std.proofs.Common.{◌≡◌, ℕ, zero, suc, Option, Some, None, Result, Ok, refl, sym, subst}
use Rattle.gl_calculus.specs.Computation.Query.{run, val}
use Rattle.gl_calculus.specs.Computation.Evaluation.{given}
use Rattle.gl_calculus.specs.Grid.Grid.{Addr}
use Rattle.gl_calculus.specs.Values.Value as V
use Rattle.gl_calculus.specs.Values.Value.{Scalar, Blank, Value, Top}
use Rattle.gl_calculus.specs.Formulas.Formula.{Formula, Content, Const, Form, content}
use Rattle.gl_calculus.specs.Evaluation.Oracle.{status, Cover, cover}
use Rattle.gl_calculus.specs.Evaluation.Facts.{Fact, fact, facts}
use Rattle.gl_calculus.specs.Evaluation.Key as K
use Rattle.gl_calculus.specs.Evaluation.Key.{Outcome, Eval, give, ◌>>=◌}
use Rattle.gl_calculus.specs.Evaluation.Reference.{own, shown, spilled, deref}
use Rattle.gl_calculus.specs.Evaluation.World.{World}
use Rattle.gl_calculus.specs.Evaluation.Evaluation.{program, evaluation, cell_value}
use Rattle.gl_calculus.specs.Calculation.Calculation as C
use Rattle.gl_calculus.specs.Calculation.Calculation.{IsShown, TopHas}
use Rattle.laws_calculus.proofs.Calculus.Proper.{fact_at_single}

-- an address is read, by its fact; and a covering root, by its own
abbrev read : Fact → Eval Value
read x = deref Top x >>= λ y. give {R = Value} (V.One y)

abbrev read_root : Cover → Fact → Eval Value
read_root c x = (own Top x >>= λ (v : Option Value). give {R = Scalar} (spilled v c.rows c.cols)) >>= λ y. give {R = Value} (V.One y)

module _ (W : World) where
  abbrev reads : ℕ → Eval Value → Option (Result Value K.Budget)
  reads n p = run (val (program W) n) (given (facts W.sheet W.oracle) p)

  -- what an address shows by its fact
  by_fact : (a : Addr) (x : Scalar) (n : ℕ) → reads n (read (fact W.sheet W.oracle a)) ≡ Some (Ok (V.One x)) → IsShown W a (C.Shown.Value x)
  by_fact a x n h = C.value (n, subst (λ u. reads n (read u) ≡ Some (Ok (V.One x))) (sym (fact_at_single W.sheet W.oracle a)) h)

  -- what an address without content shows by the fact of the root that covers it
  pub by_root : (a : Addr) (c : Cover) (x : Scalar) (n : ℕ) → content W.sheet a ≡ None → cover W.oracle a ≡ Some c → reads n (read_root c (fact W.sheet W.oracle c.root)) ≡ Some (Ok (V.One x)) → IsShown W a (C.Shown.Value x)
  by_root a c x n e q h = by_fact a x n (rw (e, q) (subst (λ u. reads n (read_root c u) ≡ Some (Ok (V.One x))) (sym (fact_at_single W.sheet W.oracle c.root)) h))

  pub constant_shows : (a : Addr) (x : Scalar) → content W.sheet a ≡ Some (Const x) → IsShown W a (C.Shown.Value x)
  constant_shows a x e = by_fact a x 0 (rw e refl)

  pub formula_shows : (a : Addr) (f : Formula) (v : Value) → content W.sheet a ≡ Some (Form f) → TopHas W a (Outcome.Value v) → IsShown W a (C.Shown.Value (shown (status W.oracle a) v))
  formula_shows a f v e (n, h) = by_fact a (shown (status W.oracle a) v) n (rw (e, h) refl)

  pub blank_shows : (a : Addr) → content W.sheet a ≡ None → cover W.oracle a ≡ None → IsShown W a (C.Shown.Value Blank)
  blank_shows a e q = by_fact a Blank 0 (rw (e, q) refl)

  -- the value of a cell that holds no formula
  constant_value : (a : Addr) (x : Scalar) (v : Value) → content W.sheet a ≡ Some (Const x) → TopHas W a (Outcome.Value v) → v ≡ V.One x
  unfolding program evaluation cell_value
  constant_value a x v e (zero, h) = absurd (cc h)
  constant_value a x v e (suc n, h) = cc (rw (fact_at_single W.sheet W.oracle a, e) at h)

  nothing_value : (a : Addr) (v : Value) → content W.sheet a ≡ None → TopHas W a (Outcome.Value v) → v ≡ V.One Blank
  unfolding program evaluation cell_value
  nothing_value a v e (zero, h) = absurd (cc h)
  nothing_value a v e (suc n, h) = cc (rw (fact_at_single W.sheet W.oracle a, e) at h)

  pub element_shows : (a : Addr) (c : Cover) (v : Value) → content W.sheet a ≡ None → cover W.oracle a ≡ Some c → TopHas W c.root (Outcome.Value v) → IsShown W a (C.Shown.Value (spilled (Some v) c.rows c.cols))
  element_shows a c v e q (n, h) = by (content W.sheet c.root) refl
    where
      by : (o : Option Content) → content W.sheet c.root ≡ o → IsShown W a (C.Shown.Value (spilled (Some v) c.rows c.cols))
      by None d = subst (λ u. IsShown W a (C.Shown.Value (spilled (Some u) c.rows c.cols))) (sym (nothing_value c.root v d (n, h))) (by_root a c Blank 0 e q (rw d refl))
      by (Some (Const x)) d = subst (λ u. IsShown W a (C.Shown.Value (spilled (Some u) c.rows c.cols))) (sym (constant_value c.root x v d (n, h))) (by_root a c Blank 0 e q (rw d refl))
      by (Some (Form f)) d = by_root a c (spilled (Some v) c.rows c.cols) n e q (rw (d, h) refl)
