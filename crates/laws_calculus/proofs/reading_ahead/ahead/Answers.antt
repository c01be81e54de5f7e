use Rattle.laws_calculus.proofs.Ahead.Onward.{ahead_stays, ahead_onward}
use Rattle.laws_calculus.proofs.reading_ahead.ahead.Goals as goal

pub returns-clause-stays : goal.returns-clause-stays
returns-clause-stays g c = ahead_stays _ _ _ _

pub returns-clause-onward : goal.returns-clause-onward
returns-clause-onward g c = ahead_onward _ _ _ _
