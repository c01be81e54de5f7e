use Rattle.laws_protocol.proofs.Scripts.Undone as undone
use Rattle.laws_protocol.proofs.replies.undo_takes_back.Goals as goal

pub returns-clause-back : goal.returns-clause-back
returns-clause-back g = undone.undo_takes_back

pub returns-clause-runs : goal.returns-clause-runs
returns-clause-runs g = undone.undos_run
