use Rattle.laws_calculus.proofs.Calculus.Proved.{tests_are_exact}
use Rattle.laws_calculus.proofs.calculation.structural_equality.Goals as goal

pub returns : goal.returns
returns c = record { exact = tests_are_exact }
