use Rattle.laws_calculus.proofs.Query.Ordered.{drops}
use Rattle.laws_calculus.proofs.Query.Started.{sound}
use Rattle.laws_calculus.proofs.Query.Reached.{reached}
use Rattle.laws_calculus.proofs.Query.Orders.{kept_by_gone, kept_stay_ordered, ordered_closed}
use Rattle.laws_calculus.proofs.queries.in_order.Goals as goal

pub returns-clause-drops : goal.returns-clause-drops
returns-clause-drops g c = drops _ _ _

pub returns-clause-start : goal.returns-clause-start
returns-clause-start g c = sound _ _ _

pub returns-clause-reached : goal.returns-clause-reached
returns-clause-reached g c = reached _ _ _

pub returns-clause-by_gone : goal.returns-clause-by_gone
returns-clause-by_gone g c = kept_by_gone _ _ _

pub returns-clause-order : goal.returns-clause-order
returns-clause-order g c = kept_stay_ordered _ _ _

pub returns-clause-closed : goal.returns-clause-closed
returns-clause-closed g c = ordered_closed _ _ _
