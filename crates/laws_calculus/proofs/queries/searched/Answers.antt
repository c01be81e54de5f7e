use Rattle.laws_calculus.proofs.Query.AmongMore.{dropped_among_more, kept_closed, by_members}
use Rattle.laws_calculus.proofs.Query.Climbing.{read_demanded}
use Rattle.laws_calculus.proofs.queries.searched.Goals as goal

pub returns-clause-dropped : goal.returns-clause-dropped
returns-clause-dropped g c = dropped_among_more _ _ _ _

pub returns-clause-closed : goal.returns-clause-closed
returns-clause-closed g c = kept_closed _ _ _

pub returns-clause-members : goal.returns-clause-members
returns-clause-members g c = by_members _ _ _

pub returns-clause-read : goal.returns-clause-read
returns-clause-read g c = read_demanded _ _ _
