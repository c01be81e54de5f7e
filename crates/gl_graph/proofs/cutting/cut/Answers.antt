use Rattle.std.proofs.Common.{sym}
use Rattle.gl_graph.proofs.Cut.{cut_on, cut_done}
use Rattle.gl_graph.proofs.cutting.cut.Goals as goal

pub loop-starts-preserved : goal.loop-starts-preserved
loop-starts-preserved c = cut_on c.args.starts.now.items c.loop-starts.starts.items c.pop.new.self.items c.args.at c.pop.result c.pop.ensures.items (sym c.loop-starts-test.ensures) c.loop-starts.invariant

pub returns : goal.returns
returns c = cut_done c.args.starts.now.items c.loop-starts.starts.items c.args.at (sym c.loop-starts-test.ensures) c.loop-starts.invariant
