-- When a session can read.
use Rattle.std.specs.Prelude.{Bool, true}
use Rattle.gl_run.specs.Reads.{can_read}
use Rattle.gl_run.specs.declared.session.Session.{Session}
use Rattle.gl_run.specs.declared.top.Status.{Status}
use Rattle.gridlet_c.specs.declared.live.Phase.{Phase}
use Rattle.gridlet_c.specs.declared.live.Phase.TheVariants.{Going, Quit, Limit, NoMemory, Ended}

-- one that reads on can
abbrev pub is_ready : Phase → Session → Bool
is_ready Going s = can_read s
is_ready Quit s = true
is_ready Limit s = true
is_ready NoMemory s = true
is_ready (Ended status) s = true
