use Rattle.std.proofs.Common.{◌≡◌, ◌++◌, map, drop}
use Rattle.std.specs.String.{string_bytes}
use Rattle.gl_demand.specs.View.{key_tree}
use Rattle.gl_run.specs.Replies.{loop_lines}
use Rattle.gl_run.proofs.certificates.put_loops.Given as goal

abbrev pub invariant-loop-key : goal.invariant-loop-key
invariant-loop-key l = string_bytes l.out ++ loop_lines (map key_tree (drop l.key-index l.loops)) ≡ string_bytes l.fn.out ++ loop_lines (map key_tree l.loops)
