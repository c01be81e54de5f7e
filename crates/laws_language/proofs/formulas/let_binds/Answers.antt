use Rattle.laws_language.proofs.Grammar.Bound as bound
use Rattle.laws_language.proofs.formulas.let_binds.Goals as goal

pub returns : goal.returns
returns g = bound.let_binds
