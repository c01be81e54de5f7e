use Rattle.laws_calculus.proofs.Forecast.Answering.{yes_settles}
use Rattle.laws_calculus.proofs.Forecast.Exists.{some_forecast}
use Rattle.laws_calculus.proofs.Forecast.Once.{one_forecast}
use Rattle.laws_calculus.proofs.forecasts.forecast_laws.Goals as goal

pub returns-clause-some : goal.returns-clause-some
returns-clause-some g = some_forecast

pub returns-clause-one : goal.returns-clause-one
returns-clause-one g = one_forecast

pub returns-clause-settles : goal.returns-clause-settles
returns-clause-settles g = yes_settles
