use Rattle.std.proofs.Common.{arith}
use Rattle.gl_value.specs.Forms.{trees}
use Rattle.gl_value.proofs.share.share_scalar.Goals as goal

pub returns-in_ok-clone-in-Sheet : goal.returns-in_ok-clone-in-Sheet
returns-in_ok-clone-in-Sheet c = grind (arith, trees)

pub returns-in_ok-clone-in-Text : goal.returns-in_ok-clone-in-Text
returns-in_ok-clone-in-Text c = grind (arith, trees)
