use Rattle.laws_calculus.proofs.Edits.Joins.{none_taken, taken_alike}
use Rattle.laws_calculus.proofs.Edits.Taking.{one_more_taken, all_taken}
use Rattle.laws_calculus.proofs.joins.taking_laws.Goals as goal

pub returns-clause-none : goal.returns-clause-none
returns-clause-none g = none_taken

pub returns-clause-more : goal.returns-clause-more
returns-clause-more g = one_more_taken

pub returns-clause-all : goal.returns-clause-all
returns-clause-all g = all_taken

pub returns-clause-alike : goal.returns-clause-alike
returns-clause-alike g = taken_alike
