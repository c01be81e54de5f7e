-- What keys are evaluated by.
use Rattle.gl_calculus.specs.Evaluation.World.{World, world}
use Rattle.gl_ast.specs.View.{version_tree}
use Rattle.gl_cells.specs.Sheet.{sheet}
use Rattle.gl_demand.specs.declared.evaluator.Evaluator.{Evaluator}

-- the world that an evaluator goes by: its version, its sheet, and its oracle
abbrev pub world_of : Evaluator → World
world_of e = world (version_tree e.version) (sheet e.cells.now) e.oracle.now
