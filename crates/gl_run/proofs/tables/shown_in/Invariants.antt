use Rattle.std.proofs.Common.{map}
use Rattle.gl_value.specs.Made.{shown_tree}
use Rattle.gl_run.proofs.Viewing.{Begun}
use Rattle.gl_run.proofs.tables.shown_in.Given as goal

abbrev pub invariant-loop-row : goal.invariant-loop-row
invariant-loop-row l = Begun l.calc l.range l.row (map shown_tree l.items.items)
