use Rattle.std.proofs.Common.{◌≡◌, ◌++◌, take}
use Rattle.std.specs.String.{string_bytes}
use Rattle.gl_merge.specs.Replica.{registers_of}
use Rattle.gl_run.specs.Replies.{edit_lines}
use Rattle.gl_run.proofs.exports.put_edits.Given as goal

abbrev pub invariant-loop-i : goal.invariant-loop-i
invariant-loop-i l = string_bytes l.out ≡ string_bytes l.fn.out ++ edit_lines (take l.i (registers_of l.replica))
