use Rattle.laws_calculus.proofs.Edits.Joins.{one_join}
use Rattle.laws_calculus.proofs.Edits.Sound.{sound_join}
use Rattle.laws_calculus.proofs.joins.join_laws.Goals as goal

pub returns-clause-one : goal.returns-clause-one
returns-clause-one g = one_join

pub returns-clause-sound : goal.returns-clause-sound
returns-clause-sound g = sound_join
