use Rattle.laws_calculus.proofs.Calculus.Proved.{at_most_one_answer, at_most_one_shown, settles_consistently}
use Rattle.laws_calculus.proofs.Calculus.Something.{settled_shows}
use Rattle.laws_calculus.proofs.calculation.answers.Goals as goal

pub returns-clause-one : goal.returns-clause-one
returns-clause-one g = at_most_one_answer

pub returns-clause-consistent : goal.returns-clause-consistent
returns-clause-consistent g = settles_consistently

pub returns-clause-shown : goal.returns-clause-shown
returns-clause-shown g = at_most_one_shown

pub returns-clause-shows : goal.returns-clause-shows
returns-clause-shows g = settled_shows
