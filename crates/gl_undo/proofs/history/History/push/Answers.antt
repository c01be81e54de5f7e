use Rattle.gl_undo.proofs.Histories.{pushed_rings}
use Rattle.gl_undo.proofs.history.History.push.Goals as goal

pub returns : goal.returns
returns c = pushed_rings (record { rings = c.args.self.now.rings }) (record { rings = c.push.new.self }) c.args.step c.push.ensures.done c.push.ensures.undone
