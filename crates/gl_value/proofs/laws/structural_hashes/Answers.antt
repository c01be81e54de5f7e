use Rattle.gl_value.proofs.Equal.{scalar_hash_alike, array_hash_alike, value_hash_alike, sheet_hash_alike, frame_hash_alike}
use Rattle.gl_value.proofs.laws.structural_hashes.Goals as goal

pub returns-clause-scalars : goal.returns-clause-scalars
returns-clause-scalars c = scalar_hash_alike

pub returns-clause-arrays : goal.returns-clause-arrays
returns-clause-arrays c = array_hash_alike

pub returns-clause-values : goal.returns-clause-values
returns-clause-values c = value_hash_alike

pub returns-clause-sheets : goal.returns-clause-sheets
returns-clause-sheets c = sheet_hash_alike

pub returns-clause-frames : goal.returns-clause-frames
returns-clause-frames c = frame_hash_alike
