use Rattle.laws_calculus.proofs.Query.Proved.{any_picks, quiet_says_all, full_says_more, picks_end}
use Rattle.laws_calculus.proofs.queries.any_order.Goals as goal

pub returns-clause-right : goal.returns-clause-right
returns-clause-right g c = any_picks _ _ _

pub returns-clause-quiet : goal.returns-clause-quiet
returns-clause-quiet g c = quiet_says_all _ _ _

pub returns-clause-full : goal.returns-clause-full
returns-clause-full g c = full_says_more _ _ _

pub returns-clause-end : goal.returns-clause-end
returns-clause-end g c = picks_end _ _ _
