use Rattle.laws_calculus.proofs.Sound.WellFormed.{well_formed_is_fit, proper_is_fit}
use Rattle.laws_calculus.proofs.soundness.fit_contents.Goals as goal

pub returns-clause-formulas : goal.returns-clause-formulas
returns-clause-formulas g = well_formed_is_fit

pub returns-clause-contents : goal.returns-clause-contents
returns-clause-contents g = proper_is_fit
