use Rattle.std.proofs.Common.{subst, sym}
use Rattle.gl_machine.specs.Remembered.{AreTrue}
use Rattle.gl_calculus.specs.Evaluation.Key.{same_key}
use Rattle.gl_demand.specs.Evaluators.{world_of}
use Rattle.tests_evaluation.proofs.tests.tidied.last_count.Goals as goal
use Rattle.gl_calculus.specs.Evaluation.Evaluation.{program}

pub loop-row-init : goal.loop-row-init
loop-row-init c =
    let e = c.args.at.now in
    subst (AreTrue same_key (program (world_of e))) (sym c.new-results.ensures) (λ n m. absurd m)
