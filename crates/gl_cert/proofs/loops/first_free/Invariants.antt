use Rattle.std.proofs.Common.{◌≡◌, ◌≤◌, ◌+◌, map, drop}
use Rattle.gl_calculus.specs.Evaluation.Evaluation.{program}
use Rattle.gl_calculus.specs.Evaluation.Key.{same_key}
use Rattle.gl_calculus.specs.Evaluation.SameOutcome.{same_outcome}
use Rattle.gl_calculus.specs.Explanation.Certificate.{is_proper}
use Rattle.gl_calculus.specs.Explanation.Walk.{first_free}
use Rattle.laws_calculus.proofs.Explanation.Numbering.{further}
use Rattle.gl_cells.specs.Sheet.{sheet}
use Rattle.gl_demand.specs.View.{key_tree}
use Rattle.gl_cert.specs.Notes.{claims}
use Rattle.gl_cert.proofs.loops.first_free.Given as goal
use Rattle.gl_demand.specs.Evaluators.{world_of}

abbrev pub invariant-loop-i : goal.invariant-loop-i
invariant-loop-i g l = record {
  whole : first_free same_key same_outcome (is_proper (sheet l.evaluator.cells.now)) (program (world_of l.evaluator)) (claims l.notes) (map key_tree l.loops.keys) (map key_tree l.list)
      ≡ further l.i (first_free same_key same_outcome (is_proper (sheet l.evaluator.cells.now)) (program (world_of l.evaluator)) (claims l.notes) (map key_tree l.loops.keys) (map key_tree (drop l.i l.list)));
  steps : l.steps ≤ l.fn.steps + l.i;
  later : l.fn.steps ≤ l.steps;
}
