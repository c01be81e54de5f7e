use Rattle.std.proofs.Common.{◌≡◌, length}
use Rattle.gl_demand.specs.Marks.{mark_trees}
use Rattle.gl_core.specs.Marks.{TellNothing}
use Rattle.gl_core.proofs.beginning.no_marks.Given as goal

abbrev pub invariant-loop : goal.invariant-loop
invariant-loop l = record {
  size : length l.marks.items ≡ l.counter;
  nothing : TellNothing (mark_trees l.marks.items);
}
