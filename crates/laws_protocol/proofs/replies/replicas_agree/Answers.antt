use Rattle.laws_protocol.proofs.Scripts.Joined as joined
use Rattle.laws_protocol.proofs.Scripts.SameReplies.{same_sheets_reply}
use Rattle.laws_protocol.proofs.Scripts.Taking.{every_run_took}
use Rattle.laws_protocol.proofs.replies.replicas_agree.Goals as goal

pub returns-clause-took : goal.returns-clause-took
returns-clause-took g = every_run_took

pub returns-clause-join : goal.returns-clause-join
returns-clause-join g = joined.replicas_join

pub returns-clause-agree : goal.returns-clause-agree
returns-clause-agree g = joined.replicas_agree

pub returns-clause-reply : goal.returns-clause-reply
returns-clause-reply g = same_sheets_reply
