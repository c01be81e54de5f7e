use Rattle.std.proofs.Common.{arith}
use Rattle.gl_value.specs.Forms.{trees}
use Rattle.gl_value.proofs.share.share_frame.Goals as goal

pub returns-in_ok-clone-in-In-2 : goal.returns-in_ok-clone-in-In-2
returns-in_ok-clone-in-In-2 c = grind (arith, trees)
