use Rattle.laws_calculus.proofs.Query.Needs.{level_needs}
use Rattle.laws_calculus.proofs.Query.Proved.{outcomes_stay, one_outcome, no_outcome_of_loops, one_level}
use Rattle.laws_calculus.proofs.Query.Walks.{one_walk, level_notes}
use Rattle.laws_calculus.proofs.queries.outcomes.Goals as goal

pub returns-clause-stay : goal.returns-clause-stay
returns-clause-stay g c = outcomes_stay _ _ _

pub returns-clause-one : goal.returns-clause-one
returns-clause-one g c = one_outcome _ _ _

pub returns-clause-not_looping : goal.returns-clause-not_looping
returns-clause-not_looping g c = no_outcome_of_loops _ _ _

pub returns-clause-one_level : goal.returns-clause-one_level
returns-clause-one_level g c = one_level _ _ _

pub returns-clause-one_walk : goal.returns-clause-one_walk
returns-clause-one_walk g c = one_walk _ _ _

pub returns-clause-level_notes : goal.returns-clause-level_notes
returns-clause-level_notes g c = level_notes _ _ _

pub returns-clause-level_needs : goal.returns-clause-level_needs
returns-clause-level_needs g c = level_needs _ _ _
