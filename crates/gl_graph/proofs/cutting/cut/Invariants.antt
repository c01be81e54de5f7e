use Rattle.gl_graph.proofs.Cut.{Cutting}
use Rattle.std.proofs.Common.{vec_len}
use Rattle.gl_graph.proofs.cutting.cut.Given as goal

abbrev pub invariant-loop-starts : goal.invariant-loop-starts
invariant-loop-starts l = Cutting l.initial.starts.items l.at l.starts.items

abbrev pub decreases-loop-starts : goal.decreases-loop-starts
decreases-loop-starts l = vec_len l.starts
