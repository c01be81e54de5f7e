use Rattle.std.proofs.Common.{ℕ, vec_len}
use Rattle.gl_flow.specs.Columns.{IsStack}
use Rattle.gl_flow.proofs.columns.cut.Given as goal

abbrev pub invariant-loop-stack : goal.invariant-loop-stack
invariant-loop-stack l = (column next : ℕ) → IsStack l.areas column l.row next l.initial.stack.items → IsStack l.areas column l.row next l.stack.items

abbrev pub decreases-loop-stack : goal.decreases-loop-stack
decreases-loop-stack l = vec_len l.stack
