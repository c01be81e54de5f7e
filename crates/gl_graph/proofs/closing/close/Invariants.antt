use Rattle.std.proofs.Common.{◌≤◌, length, vec_len}
use Rattle.gl_graph.proofs.Closed.{Closing}
use Rattle.gl_graph.proofs.closing.close.Given as goal

abbrev pub invariant-loop-mark : goal.invariant-loop-mark
invariant-loop-mark l = record {
  closing : Closing l.initial.marks.items l.initial.places.items l.mark l.marks.items l.places.items;
  start : l.start ≤ length l.places.items;
}

abbrev pub decreases-loop-mark : goal.decreases-loop-mark
decreases-loop-mark l = vec_len l.places
