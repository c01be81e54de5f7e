use Rattle.std.proofs.Common.{ℕ, List, IfOk, IfErr, map, ap, sym, subst, ◌∙◌, arith, length}
use Rattle.gl_calculus.specs.Computation.Lists.{Member, AreDistinct, MoreThan}
use Rattle.gl_calculus.specs.Computation.Demanded.{Demanded}
use Rattle.gl_calculus.specs.Values.Value.{Top}
use Rattle.gl_calculus.specs.Formulas.Formula.{formula_addresses}
use Rattle.gl_calculus.specs.Grid.Limits.{max_demanded}
use Rattle.gl_calculus.specs.Evaluation.Key.{Cell}
use Rattle.gl_calculus.specs.Evaluation.Evaluation.{program}
use Rattle.gl_calculus.specs.Grid.Grid.{Addr}
use Rattle.gl_calculus.specs.Calculation.Memory.{Table}
use Rattle.gl_calculus.specs.Steps.Costs.{Finishes}
use Rattle.gl_cells.specs.Sheet.{sheet}
use Rattle.gl_calc.specs.Kept.{AreKept}
use Rattle.gl_calc.specs.Round.{Stops}
use Rattle.gl_calc.proofs.Formulas.{formulas_in_order, keys_distinct, keys_proper}
use Rattle.gl_calc.proofs.Finished.{none_taken}
use Rattle.gl_calc.proofs.starting.evaluated.Goals as goal
use Rattle.gl_demand.specs.Evaluators.{world_of}

pub resume-requires-clause-few : goal.resume-requires-clause-few
resume-requires-clause-few g c = let l = ap length c.requires.all in omega (arith, l, c.requires.few)

pub resume-requires-clause-apart : goal.resume-requires-clause-apart
resume-requires-clause-apart g c = let S = sheet c.args.evaluator.now.cells.now in subst (λ ps. AreDistinct (map (Cell Top) ps)) (sym c.requires.all) (keys_distinct (formula_addresses S) (formulas_in_order S c.requires.ordered))

pub resume-requires-clause-proper : goal.resume-requires-clause-proper
resume-requires-clause-proper g c = λ k m. keys_proper (sheet c.args.evaluator.now.cells.now) c.requires.ordered k (subst (λ ps. Member k (map (Cell Top) ps)) c.requires.all m)

pub run-requires-clause-started : goal.run-requires-clause-started
run-requires-clause-started g c = record { seeds = c.in-Ok.ensures.seeds ∙ ap (map (Cell Top)) c.requires.all; for_it = c.in-Ok.ensures.for_it }

pub returns-in-Ok-clause-steps : goal.returns-in-Ok-clause-steps
returns-in-Ok-clause-steps g c =
    subst (λ ns. IfOk c.run.result (λ q. (b : Table × List Addr) (i : ℕ) → AreKept b c.args.evaluator.now.oracle.now ns → Finishes (world_of c.args.evaluator.now) b i c.args.steps.now c.run.new.steps)) c.in-Ok.ensures.notes c.run.ensures.steps

pub returns-in-Ok-clause-stops : goal.returns-in-Ok-clause-stops
returns-in-Ok-clause-stops g c =
    subst (λ ns. IfErr c.run.result (λ e. (b : Table × List Addr) → AreKept b c.args.evaluator.now.oracle.now ns → Stops (world_of c.args.evaluator.now) b e c.args.steps.now c.run.new.steps)) c.in-Ok.ensures.notes c.run.ensures.stops

pub returns-in-Err-Work-clause-stops : goal.returns-in-Err-Work-clause-stops
returns-in-Err-Work-clause-stops g c = λ b k.
    let W = world_of c.args.evaluator.now in
    (subst (λ ps. MoreThan max_demanded (Demanded (program W) (map (Cell Top) ps))) c.requires.all (c.in-Err-Work.ensures.work c.in-Err-Work.field-0-is), none_taken W b c.args.steps.now)
