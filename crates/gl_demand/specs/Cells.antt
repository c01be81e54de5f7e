-- A cell that holds this, and looks at its own address first.
use Rattle.std.specs.Prelude.{Option}
use Rattle.gl_calculus.specs.Computation.Evaluation.{LookAt}
use Rattle.gl_calculus.specs.Grid.Grid.{Addr, single}
use Rattle.gl_calculus.specs.Values.Value.{Value, Frame}
use Rattle.gl_calculus.specs.Formulas.Formula.{Version}
use Rattle.gl_calculus.specs.Evaluation.Key.{Eval}
use Rattle.gl_calculus.specs.Evaluation.Reference.{Held}
use Rattle.gl_calculus.specs.Evaluation.Evaluation.{cell_value}

abbrev pub looked_cell : Version → Frame → Option Held → Addr → Eval Value
looked_cell version e h a = LookAt (single a) (λ xs. cell_value version e h)
