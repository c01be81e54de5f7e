use Rattle.std.proofs.Common.{◌≡◌, ◌++◌, ◌-◌, replicate}
use Rattle.std.specs.String.{string_bytes}
use Rattle.gl_protocol.specs.Replies.Tables.{right_aligned}
use Rattle.gl_views.proofs.tables.put_aligned.Given as goal

abbrev pub invariant-loop-i : goal.invariant-loop-i
invariant-loop-i l = string_bytes l.out ++ (replicate (l.wide - l._i) 32 ++ l.text) ≡ string_bytes l.fn.out ++ right_aligned l.wide l.text
