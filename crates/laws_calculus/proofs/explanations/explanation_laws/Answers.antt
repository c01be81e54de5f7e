use Rattle.laws_calculus.proofs.Explanation.Apart.{claims_once}
use Rattle.laws_calculus.proofs.Explanation.Explaining.{accepted_shows, walk_accepted, settled_certifies}
use Rattle.laws_calculus.proofs.Explanation.Few.{few_keys}
use Rattle.laws_calculus.proofs.Explanation.Once.{one_explanation}
use Rattle.laws_calculus.proofs.Explanation.Existing.{some_explanation}
use Rattle.laws_calculus.proofs.explanations.explanation_laws.Goals as goal

pub returns-clause-shows : goal.returns-clause-shows
returns-clause-shows g = accepted_shows

pub returns-clause-claimed : goal.returns-clause-claimed
returns-clause-claimed g = claims_once

pub returns-clause-accepted : goal.returns-clause-accepted
returns-clause-accepted g = walk_accepted

pub returns-clause-few : goal.returns-clause-few
returns-clause-few g = few_keys

pub returns-clause-certified : goal.returns-clause-certified
returns-clause-certified g = settled_certifies

pub returns-clause-one : goal.returns-clause-one
returns-clause-one g = one_explanation

pub returns-clause-some : goal.returns-clause-some
returns-clause-some g = some_explanation
