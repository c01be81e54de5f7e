-- What a framer says of its items beyond their bytes: a line is no header of an import, and an import has one.
use Rattle.std.specs.Prelude.{◌≡◌, ⊤, None, IsSome}
use Rattle.gl_protocol.specs.Framing.Header.{payload_len}
use Rattle.gl_protocol.specs.Framing.Framing.{Item, Line, Import, Long, Truncated}
use Rattle.gl_protocol.specs.Framing.Stream.{Stream, nothing, in_line, skipped, in_payload}

abbrev pub IsFramed : Item → Type 0
IsFramed (Line line) = payload_len line ≡ None
IsFramed (Import heading payload) = IsSome (payload_len heading)
IsFramed Long = ⊤
IsFramed Truncated = ⊤

-- a payload that is begun has a header
abbrev pub HasHeader : Stream → Type 0
HasHeader nothing = ⊤
HasHeader (in_line bs) = ⊤
HasHeader skipped = ⊤
HasHeader (in_payload heading part due) = IsSome (payload_len heading)
