-- An outcome is of the kind of its key.
use Rattle.std.proofs.Common.{◌≡◌, zero, suc, [], Option, Some, None, Result, Ok, Err, IsTrue, refl, sym, subst}
use Rattle.gl_calculus.specs.Computation.Query.{next, run, val}
use Rattle.gl_calculus.specs.Computation.Evaluation.{Evaluation, Done, LookAt, Demand, bind, given}
use Rattle.gl_calculus.specs.Grid.Grid.{single}
use Rattle.gl_calculus.specs.Values.Value.{Value, Oracle, region}
use Rattle.gl_calculus.specs.Evaluation.Facts.{facts, fact_at}
use Rattle.gl_calculus.specs.Evaluation.Key.{Cell, Settle, Budget, as_value, as_settled}
use Rattle.gl_calculus.specs.Evaluation.Reference.{own_content}
use Rattle.gl_calculus.specs.Evaluation.Evaluation.{cell_value, evaluation, program, rounds, copy_budget}
use Rattle.gl_calculus.specs.Evaluation.Sound.{is_outcome_of}
use Rattle.laws_calculus.specs.Calculus.{OutcomesFit}

-- what an evaluation with a last step comes to is that step of something
last_step : {K O A F R : Type 0} (known : K → Option O) (at_place : A → F) (p : Evaluation K O A F R) (h : R → O) (o : O) → run known (given at_place (bind p (λ r. Done (h r)))) ≡ Some o → (r : R) × (o ≡ h r)
last_step known at_place (Done r) h o e = let g : h r ≡ o = cc e in (r, sym g)
last_step known at_place (LookAt a c) h o e = last_step known at_place (c (at_place a)) h o e
last_step known at_place (Demand k c) h o e =
    (elim (known k) as (λ v. next None v (λ x. run known (given at_place (bind (c x) (λ r. Done (h r))))) ≡ Some o → (r : _) × (o ≡ h r)) [
      | None ↦ λ z. absurd (cc z)
      | Some x ↦ λ z. last_step known at_place (c x) h o z
    ]) e

value_fits : (e : _) (a : _) (r : Result Value Budget) → IsTrue (is_outcome_of (Cell e a) (as_value r))
value_fits e a (Ok v) = refl
value_fits e a (Err b) = refl

oracle_fits : (s : _) (r : Result Oracle Budget) → IsTrue (is_outcome_of (Settle s) (as_settled r))
oracle_fits s (Ok v) = refl
oracle_fits s (Err b) = refl

pub outcomes_fit : OutcomesFit
unfolding program evaluation
outcomes_fit W (Cell e a) o (zero, h) = absurd (cc h)
outcomes_fit W (Settle s) o (zero, h) = absurd (cc h)
outcomes_fit W (Cell e a) o (suc n, h) =
    let (r, g) = last_step (val (program W) n) (facts W.sheet W.oracle) (cell_value W.version e (own_content (fact_at (facts W.sheet W.oracle (single a)) a).content e a)) as_value o h in
    subst (λ u. IsTrue (is_outcome_of (Cell e a) u)) (sym g) (value_fits e a r)
outcomes_fit W (Settle s) o (suc n, h) =
    let (r, g) = last_step (val (program W) n) (facts W.sheet W.oracle) (rounds s (facts W.sheet W.oracle (region s)) (copy_budget s (facts W.sheet W.oracle (region s))) []) as_settled o h in
    subst (λ u. IsTrue (is_outcome_of (Settle s) u)) (sym g) (oracle_fits s r)
