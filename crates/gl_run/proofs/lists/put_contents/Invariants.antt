use Rattle.std.specs.String.{string_bytes}
use Rattle.gl_cells.specs.Sheet.{sheet}
use Rattle.gl_flow.proofs.Griding.{in_play_count}
use Rattle.gl_run.proofs.Walking.{Walk}
use Rattle.gl_run.proofs.lists.put_contents.Given as goal

abbrev pub invariant-loop-a : goal.invariant-loop-a
invariant-loop-a l = Walk (sheet l.cells) l.after (string_bytes l.fn.out) (string_bytes l.out)

abbrev pub decreases-loop-a : goal.decreases-loop-a
decreases-loop-a l = in_play_count (sheet l.cells) l.after
