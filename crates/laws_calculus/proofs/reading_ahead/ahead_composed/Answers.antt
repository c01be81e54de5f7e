use Rattle.laws_calculus.proofs.Ahead.Onward.{ahead_composes}
use Rattle.laws_calculus.proofs.reading_ahead.ahead_composed.Goals as goal

pub returns : goal.returns
returns g c = ahead_composes _ _ _ _ _ _
