-- What is begun at the end of a text in which no item ends.
use Rattle.std.specs.Prelude.{◌==◌, nat_le, ◌+◌, ◌-◌, length, if◌then◌else◌}
use Rattle.gl_calculus.specs.Grid.Limits.{max_line}
use Rattle.gl_language.specs.Texts.Text.{Bytes}
use Rattle.gl_protocol.specs.Framing.Framing.{Kind, past_limit, plain, header, kind_of, drop_cr, has_lf, first_line, after_line}
use Rattle.gl_protocol.specs.Framing.Stream.{Stream, nothing, in_line, skipped, in_payload}

abbrev pub line_stream : Bytes → Stream
line_stream t = if length t == 0 then nothing else (if nat_le (length t) (max_line + 1) then in_line t else skipped)

abbrev pub payload_stream : Kind → Bytes → Bytes → Stream
payload_stream past_limit line u = nothing
payload_stream plain line u = nothing
payload_stream (header n) line u = in_payload line u (n - length u)

abbrev pub stream_of : Bytes → Stream
stream_of t =
    if has_lf t then payload_stream (kind_of (drop_cr (first_line t))) (drop_cr (first_line t)) (after_line t) else line_stream t
