use Rattle.laws_protocol.proofs.Scripts.Lists as lists
use Rattle.laws_protocol.proofs.replies.lists_read_back.Goals as goal

pub returns : goal.returns
returns g = lists.lists_read_back
