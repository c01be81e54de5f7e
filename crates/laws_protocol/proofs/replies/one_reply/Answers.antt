use Rattle.laws_protocol.proofs.Scripts.Outputs.{one_act, one_output, one_text}
use Rattle.laws_protocol.proofs.Scripts.Fronts.{first_replies_first}
use Rattle.laws_protocol.proofs.replies.one_reply.Goals as goal

pub returns-clause-act : goal.returns-clause-act
returns-clause-act g = one_act

pub returns-clause-output : goal.returns-clause-output
returns-clause-output g = one_output

pub returns-clause-written : goal.returns-clause-written
returns-clause-written g = one_text

pub returns-clause-first : goal.returns-clause-first
returns-clause-first g = first_replies_first
