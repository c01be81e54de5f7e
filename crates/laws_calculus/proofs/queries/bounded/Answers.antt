use Rattle.laws_calculus.proofs.Query.Proved.{steps_within, steps_within_full, quiet_has_reads}
use Rattle.laws_calculus.proofs.queries.bounded.Goals as goal

pub returns-clause-within : goal.returns-clause-within
returns-clause-within g c = steps_within _ _ _

pub returns-clause-within_full : goal.returns-clause-within_full
returns-clause-within_full g c = steps_within_full _ _ _

pub returns-clause-reads : goal.returns-clause-reads
returns-clause-reads g c = quiet_has_reads _ _ _
