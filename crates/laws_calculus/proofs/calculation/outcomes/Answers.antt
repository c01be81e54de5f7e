use Rattle.laws_calculus.proofs.Calculus.Proved.{one_outcome}
use Rattle.laws_calculus.proofs.Calculus.Fits.{outcomes_fit}
use Rattle.laws_calculus.proofs.calculation.outcomes.Goals as goal

pub returns : goal.returns
returns c = record { one = one_outcome; fit = outcomes_fit }
