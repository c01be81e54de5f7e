use Rattle.gl_calculus.specs.Explanation.Certificate.{start, key_at}
use Rattle.gl_cells.specs.Sheet.{sheet}
use Rattle.gl_demand.specs.Evaluators.{world_of}
use Rattle.gl_explain.proofs.Turns.{no_part}
use Rattle.gl_explain.proofs.explaining.explained.Goals as goal

pub returns-in-None-clause-part : goal.returns-in-None-clause-part
returns-in-None-clause-part g c =
    let e = c.args.evaluator.now in
    no_part (world_of e) (start (key_at (sheet e.cells.now) e.oracle.now c.args.a)) c.args.steps.now
