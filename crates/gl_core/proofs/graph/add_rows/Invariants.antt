use Rattle.std.proofs.Common.{◌≡◌, length, take}
use Rattle.gl_support.specs.Rests.{IsSound}
use Rattle.gl_core.specs.Graph.{HaveRows}
use Rattle.gl_core.proofs.graph.add_rows.Given as goal

abbrev pub invariant-loop-r : goal.invariant-loop-r
invariant-loop-r l = record {
  sound : IsSound l.rests;
  size : length l.rests.reads.items ≡ length l.fn.rests.reads.items;
  rows : HaveRows l.rests (take l.r l.rows);
}
