use Rattle.laws_calculus.proofs.Query.Proved.{walks_compose}
use Rattle.laws_calculus.proofs.queries.composed.Goals as goal

pub returns : goal.returns
returns g c = walks_compose _ _ _ _ _ _
