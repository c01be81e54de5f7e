use Rattle.laws_language.proofs.Grammar.Readings.{one_formula, one_fault, formula_or_fault}
use Rattle.laws_language.proofs.formulas.one_answer.Goals as goal

pub returns-clause-formula : goal.returns-clause-formula
returns-clause-formula g = one_formula

pub returns-clause-fault : goal.returns-clause-fault
returns-clause-fault g = one_fault

pub returns-clause-apart : goal.returns-clause-apart
returns-clause-apart g = formula_or_fault
