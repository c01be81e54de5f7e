use Rattle.gl_calc.proofs.Finished.{quiet_round, few_demanded, still_started, finishes, stops_work}
use Rattle.gl_calc.proofs.starting.run.Goals as goal
use Rattle.gl_demand.specs.Evaluators.{world_of}

pub returns-in-Ok-clause-evaluated : goal.returns-in-Ok-clause-evaluated
returns-in-Ok-clause-evaluated g c =
    let W = world_of c.args.evaluator.now in
    let core = c.args.core in
    let h = c.requires.started in
    let n = c.args.steps.now in
    let m = c.run_all.new.steps in
    record {
      round = quiet_round W core h n m c.in-Ok.quiet c.in-Ok.ensures.quiet;
      finished = few_demanded W core h n m c.in-Ok.ensures.no_work;
      started = still_started W core h n m c.in-Ok.quiet c.in-Ok.ensures.seeds c.in-Ok.ensures.stays;
    }

pub returns-in-Ok-clause-steps : goal.returns-in-Ok-clause-steps
returns-in-Ok-clause-steps g c = finishes (world_of c.args.evaluator.now) c.args.core c.requires.started c.args.steps.now c.run_all.new.steps c.in-Ok.quiet c.in-Ok.ensures.quiet c.in-Ok.ensures.most c.in-Ok.ensures.least

pub returns-in-Err-Work-clause-stops : goal.returns-in-Err-Work-clause-stops
returns-in-Err-Work-clause-stops g c = stops_work (world_of c.args.evaluator.now) c.args.core c.requires.started c.args.steps.now c.run_all.new.steps (c.in-Err-Work.ensures.work c.in-Err-Work.field-0-is) (c.in-Err-Work.ensures.most_work c.in-Err-Work.field-0-is)
