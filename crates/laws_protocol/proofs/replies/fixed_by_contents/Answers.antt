use Rattle.laws_protocol.proofs.Scripts.Fixed.{fixed_by_contents}
use Rattle.laws_protocol.proofs.replies.fixed_by_contents.Goals as goal

pub returns : goal.returns
returns g = fixed_by_contents
