use Rattle.laws_calculus.proofs.Ahead.Keeping.{pick_by_ahead, picks_extend, keeping_is_picking}
use Rattle.laws_calculus.proofs.Ahead.Spending.{spent_within, bounds_stay}
use Rattle.laws_calculus.proofs.reading_ahead.picks_ahead.Goals as goal

pub returns-clause-pick : goal.returns-clause-pick
returns-clause-pick g c = pick_by_ahead _ _ _

pub returns-clause-extend : goal.returns-clause-extend
returns-clause-extend g c = picks_extend _ _ _

pub returns-clause-keeping : goal.returns-clause-keeping
returns-clause-keeping g c = keeping_is_picking _ _ _

pub returns-clause-within : goal.returns-clause-within
returns-clause-within g c = spent_within _ _ _

pub returns-clause-bounds : goal.returns-clause-bounds
returns-clause-bounds g c = bounds_stay _ _ _
