use Rattle.std.proofs.Common.{arith}
use Rattle.gl_support.proofs.Graph.{no_row}
use Rattle.gl_support.proofs.edges.no_edges.Goals as goal

pub loop-preserved : goal.loop-preserved
loop-preserved c = record {
  none = no_row c.loop.edges.items c.push.new.self.items c.new.result c.in_ok-push.ensures.items c.loop.invariant.none c.new.ensures.items;
  size = omega (arith, c.in_ok-push.ensures.len, c.loop.invariant.size);
}
