use Rattle.gl_plane.proofs.Ranges.{wider}
use Rattle.gl_plane.proofs.changes.widened.Goals as goal

pub loop-r-preserved : goal.loop-r-preserved
loop-r-preserved c = wider c.args.hull c.loop-r.wide c.r-item.result c.around.result c.args.more.now c.loop-r.r-index c.loop-r-test.true c.r-item.is c.loop-r.invariant c.around.ensures
