use Rattle.gl_calculus.proofs.Tells.{tells}
use Rattle.laws_calculus.proofs.Calculus.Apart.{apart}
use Rattle.gl_calculus.proofs.Addresses.{meets_at}
use Rattle.laws_calculus.proofs.Calculus.Keeps.{all_kept, nothing_asked}
use Rattle.laws_calculus.proofs.calculation.kept.Goals as goal

pub returns-clause-tell : goal.returns-clause-tell
returns-clause-tell c = tells

pub returns-clause-apart : goal.returns-clause-apart
returns-clause-apart c = apart

pub returns-clause-meet : goal.returns-clause-meet
returns-clause-meet c = meets_at

pub returns-clause-all : goal.returns-clause-all
returns-clause-all c = all_kept

pub returns-clause-nothing : goal.returns-clause-nothing
returns-clause-nothing c = nothing_asked
