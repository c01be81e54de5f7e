use Rattle.laws_calculus.proofs.Ahead.Ranges.{range_demands, round_demands}
use Rattle.laws_calculus.proofs.Ahead.Formulas.{formula_demands, arguments_demand, cell_demands}
use Rattle.laws_calculus.proofs.reading_ahead.demands.Goals as goal

pub returns-clause-range : goal.returns-clause-range
returns-clause-range g = range_demands

pub returns-clause-round : goal.returns-clause-round
returns-clause-round g = round_demands

pub returns-clause-formula : goal.returns-clause-formula
returns-clause-formula g = formula_demands

pub returns-clause-arguments : goal.returns-clause-arguments
returns-clause-arguments g = arguments_demand

pub returns-clause-cell : goal.returns-clause-cell
returns-clause-cell g = cell_demands
