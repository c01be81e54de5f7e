use Rattle.std.proofs.Common.{subst, ◌∙◌, IsTrue}
use Rattle.gl_cells.specs.Sheet.{sheet}
use Rattle.gl_calculus.specs.Forecast as Fo
use Rattle.gl_flow.proofs.Settling.{each_promises}
use Rattle.gl_flow.proofs.forecasting.flow.Goals as goal

pub returns-in-Some-clause-forecast : goal.returns-in-Some-clause-forecast
returns-in-Some-clause-forecast c =
    let S = sheet c.args.cells.now in
    Fo.IsForecast.unknown (subst (λ t. Fo.First (λ b. IsTrue (Fo.uses_sheets S b)) t c.in-Some.a) (c.deref.ensures.value ∙ c.in_ok-places.ensures.value) c.in-Some.ensures.some)

pub returns-in-None-clause-settles : goal.returns-in-None-clause-settles
returns-in-None-clause-settles c = each_promises c.args.cells.now c.foretold.result c.in_ok-places.ensures.ordered c.in_ok-places.ensures.few c.foretold.ensures c.contents-contents.ensures.proper
