use Rattle.std.proofs.Common.{arith}
use Rattle.gl_value.specs.Forms.{trees}
use Rattle.gl_value.proofs.share.share_value.Goals as goal

pub returns-in_ok-clone-in-Array : goal.returns-in_ok-clone-in-Array
returns-in_ok-clone-in-Array c = grind (arith, trees)

pub returns-in_ok-share-in-One : goal.returns-in_ok-share-in-One
returns-in_ok-share-in-One c = grind (arith, trees)
