use Rattle.std.proofs.Common.{◌≤◌, map}
use Rattle.gl_demand.specs.Sound.{AreSoundKeys}
use Rattle.gl_demand.specs.View.{key_tree}
use Rattle.gl_cert.specs.Notes.{claims}
use Rattle.gl_demand.specs.Marks.{mark_trees}
use Rattle.gl_explain.specs.Marks.{AreMarks}
use Rattle.gl_explain.specs.Walking.{IsWalking, left}
use Rattle.gl_explain.proofs.walking.walk.Given as goal
use Rattle.gl_demand.specs.Evaluators.{world_of}

abbrev pub decreases-turns : goal.decreases-turns
decreases-turns g l = left (claims l.notes) (map key_tree l.stack.keys)

abbrev pub invariant-turns : goal.invariant-turns
invariant-turns g l = record {
  walking : IsWalking (world_of l.evaluator) (key_tree l.root) l.fn.steps l.steps (claims l.notes) (map key_tree l.stack.keys);
  sound : AreSoundKeys (map key_tree l.stack.keys);
  marks : AreMarks (world_of l.evaluator) (claims l.notes) (map key_tree l.stack.keys) (mark_trees l.marks.items);
  later : l.fn.steps ≤ l.steps;
}
