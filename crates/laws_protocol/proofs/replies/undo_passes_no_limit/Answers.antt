use Rattle.laws_protocol.proofs.Scripts.Roomy.{acts_keep_rooms}
use Rattle.laws_protocol.proofs.replies.undo_passes_no_limit.Goals as goal

pub returns : goal.returns
returns g = acts_keep_rooms
