use Rattle.laws_calculus.proofs.Sound.Proved.{sound_outcomes, sound_demands, sound_reads}
use Rattle.laws_calculus.proofs.soundness.sound_keys.Goals as goal

pub returns-clause-outcomes : goal.returns-clause-outcomes
returns-clause-outcomes g = sound_outcomes

pub returns-clause-demands : goal.returns-clause-demands
returns-clause-demands g = sound_demands

pub returns-clause-reads : goal.returns-clause-reads
returns-clause-reads g = sound_reads
