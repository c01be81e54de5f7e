use Rattle.laws_calculus.proofs.Calculus.Proved.{only_facts_matter, notes_coincide, kept_stay_true}
use Rattle.laws_calculus.proofs.calculation.same_facts.Goals as goal

pub returns-clause-matter : goal.returns-clause-matter
returns-clause-matter g = only_facts_matter

pub returns-clause-coincide : goal.returns-clause-coincide
returns-clause-coincide g = notes_coincide

pub returns-clause-kept : goal.returns-clause-kept
returns-clause-kept g = kept_stay_true
