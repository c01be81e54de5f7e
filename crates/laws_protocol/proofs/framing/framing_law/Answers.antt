use Rattle.laws_protocol.proofs.Items.FramingLaw.{framed}
use Rattle.laws_protocol.proofs.framing.framing_law.Goals as goal

pub returns : goal.returns
returns c = framed
