use Rattle.laws_calculus.proofs.Query.Proved.{coincidence, kept_stay_true, kept_or_dropped, pick_by_note}
use Rattle.laws_calculus.proofs.queries.remembered.Goals as goal

pub returns-clause-coincide : goal.returns-clause-coincide
returns-clause-coincide g c = coincidence _ _ _

pub returns-clause-kept : goal.returns-clause-kept
returns-clause-kept g c = kept_stay_true _ _ _

pub returns-clause-dropped : goal.returns-clause-dropped
returns-clause-dropped g c = kept_or_dropped _ _ _

pub returns-clause-by_note : goal.returns-clause-by_note
returns-clause-by_note g c = pick_by_note _ _ _
