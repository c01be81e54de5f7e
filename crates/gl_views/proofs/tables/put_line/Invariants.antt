use Rattle.std.proofs.Common.{◌≡◌, ◌++◌, length}
use Rattle.std.specs.List.{join_with_byte}
use Rattle.std.specs.String.{string_bytes}
use Rattle.gl_protocol.specs.Replies.Tables.{aligned}
use Rattle.gl_views.specs.Cells.{texts_of}
use Rattle.gl_views.proofs.Lines.{to_come, from_place}
use Rattle.gl_views.proofs.tables.put_line.Given as goal

abbrev pub invariant-loop-width : goal.invariant-loop-width
invariant-loop-width l = string_bytes l.out ++ to_come l.more (from_place l.widths l.row (length l.yielded)) ≡ string_bytes l.fn.out ++ join_with_byte 32 (aligned l.widths (texts_of l.row))
