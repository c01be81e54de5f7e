use Rattle.gl_support.proofs.Gone.{affected_gone}
use Rattle.gl_support.proofs.affected_are_gone.Goals as goal

pub returns : goal.returns
returns g c = affected_gone g.row.K.Denot g.row.A.Denot
