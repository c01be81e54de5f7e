use Rattle.std.proofs.Common.{rules}
use Rattle.gl_core.proofs.Turns.{any_err}
use Rattle.gl_core.proofs.book.place_anew.Goals as goal

pub place_key-requires-clause-short : goal.place_key-requires-clause-short
place_key-requires-clause-short c = c.requires.short

pub place_key-requires-clause-sound : goal.place_key-requires-clause-sound
place_key-requires-clause-sound c = c.requires.sound

pub returns-in_err-n-clause-short : goal.returns-in_err-n-clause-short
returns-in_err-n-clause-short c = c.place_key.ensures.short

pub returns-in_err-n-clause-number : goal.returns-in_err-n-clause-number
returns-in_err-n-clause-number c = search rules

pub returns-in_err-n-clause-grows : goal.returns-in_err-n-clause-grows
returns-in_err-n-clause-grows c = c.place_key.ensures.grows

pub returns-in_err-n-clause-members : goal.returns-in_err-n-clause-members
returns-in_err-n-clause-members c = c.place_key.ensures.members

pub returns-in_err-n-clause-err : goal.returns-in_err-n-clause-err
returns-in_err-n-clause-err c = any_err c.from_residual.result c.in_err-n.ensures.err

pub returns-clause-short : goal.returns-clause-short
returns-clause-short c = c.place_key.ensures.short

pub returns-clause-number : goal.returns-clause-number
returns-clause-number c = c.in_ok-n.ensures.number

pub returns-clause-grows : goal.returns-clause-grows
returns-clause-grows c = c.place_key.ensures.grows

pub returns-clause-members : goal.returns-clause-members
returns-clause-members c = c.place_key.ensures.members

pub returns-clause-err : goal.returns-clause-err
returns-clause-err c = tt
