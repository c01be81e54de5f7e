use Rattle.std.proofs.Common.{◌≤◌, ◌+◌, drop}
use Rattle.gl_calculus.specs.Evaluation.Evaluation.{program}
use Rattle.gl_calculus.specs.Evaluation.Key.{same_key}
use Rattle.gl_calculus.specs.Evaluation.SameOutcome.{same_outcome}
use Rattle.gl_calculus.proofs.Tests.{key_equality}
use Rattle.gl_calculus.specs.Explanation.Certificate.{is_proper}
use Rattle.laws_calculus.proofs.Explanation.Checking.{Passed}
use Rattle.gl_cells.specs.Sheet.{sheet}
use Rattle.gl_cert.specs.Claims.{claim_trees}
use Rattle.gl_cert.specs.Notes.{claims}
use Rattle.gl_cert.proofs.straying.first_stray.Given as goal
use Rattle.gl_demand.specs.Evaluators.{world_of}

abbrev pub invariant-loop-i : goal.invariant-loop-i
invariant-loop-i g l = record {
  passed : Passed same_key same_outcome (is_proper (sheet l.evaluator.cells.now)) (program (world_of l.evaluator)) key_equality (claim_trees l.list) (claims l.notes) (claim_trees (drop l.i l.list)) l.i;
  steps : l.steps ≤ l.fn.steps + l.i;
  later : l.fn.steps ≤ l.steps;
}
