use Rattle.gl_machine.specs.Remembered.{AreTrue}
use Rattle.gl_calculus.specs.Evaluation.Key.{same_key}
use Rattle.gl_demand.specs.Evaluators.{world_of}
use Rattle.tests_evaluation.proofs.tests.tidied.last_count.Given as goal
use Rattle.gl_calculus.specs.Evaluation.Evaluation.{program}

-- the results are true
abbrev pub invariant-loop-row : goal.invariant-loop-row
invariant-loop-row l = AreTrue same_key (program (world_of l.at)) l.results
