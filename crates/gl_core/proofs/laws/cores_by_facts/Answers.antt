use Rattle.gl_core.proofs.Facts as facts
use Rattle.gl_core.proofs.laws.cores_by_facts.Goals as goal

pub returns : goal.returns
returns g = facts.cores_by_facts
