use Rattle.laws_language.proofs.Grammar.Printed as printed
use Rattle.laws_language.proofs.formulas.prints_back.Goals as goal

pub returns : goal.returns
returns g = printed.prints_back
