use Rattle.laws_protocol.proofs.Scripts.Refusals as refusals
use Rattle.laws_protocol.proofs.replies.refusals_leave.Goals as goal

pub returns : goal.returns
returns g = refusals.refusals_leave
