use Rattle.std.proofs.Common.{◌+◌}
use Rattle.gl_plane.proofs.Columns.{not_alone, no_such_row}
use Rattle.gl_plane.proofs.text.read_after.Goals as goal

pub returns-in-None-clause-none : goal.returns-in-None-clause-none
returns-in-None-clause-none c = λ a h e. not_alone a (64 + c.args.first) c.args.bytes.now h c.in-None.ensures.cases e

pub returns-in-Some-letter-clause-none : goal.returns-in-Some-letter-clause-none
returns-in-Some-letter-clause-none c = no_such_row c.read_row.result c.args.first c.in-Some.byte.now c.in-Some.digits.now c.args.bytes.now c.in-Some-letter.ensures.0.0 c.in-Some.ensures.cases.0 c.read_row.ensures.none
