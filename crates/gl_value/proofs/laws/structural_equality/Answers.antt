use Rattle.gl_value.proofs.Equal.{error_equal, scalar_equal, array_equal, value_equal, sheet_equal, frame_equal, shown_equal, made_equal}
use Rattle.gl_value.proofs.laws.structural_equality.Goals as goal

pub returns-clause-errors : goal.returns-clause-errors
returns-clause-errors c = error_equal

pub returns-clause-scalars : goal.returns-clause-scalars
returns-clause-scalars c = scalar_equal

pub returns-clause-arrays : goal.returns-clause-arrays
returns-clause-arrays c = array_equal

pub returns-clause-values : goal.returns-clause-values
returns-clause-values c = value_equal

pub returns-clause-sheets : goal.returns-clause-sheets
returns-clause-sheets c = sheet_equal

pub returns-clause-frames : goal.returns-clause-frames
returns-clause-frames c = frame_equal

pub returns-clause-shown : goal.returns-clause-shown
returns-clause-shown c = shown_equal

pub returns-clause-made : goal.returns-clause-made
returns-clause-made c = made_equal
