use Rattle.laws_calculus.proofs.Query.Proved.{same_facts_agree, same_facts_coincide}
use Rattle.laws_calculus.proofs.queries.same_facts.Goals as goal

pub returns-clause-agree : goal.returns-clause-agree
returns-clause-agree g c = same_facts_agree _ _ _ _

pub returns-clause-coincide : goal.returns-clause-coincide
returns-clause-coincide g c = same_facts_coincide _ _ _ _
