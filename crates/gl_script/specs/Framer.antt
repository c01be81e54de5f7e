-- What a `Framer` is seen as.
use Rattle.std.specs.Prelude.{ℕ, List, [], None, Some}
use Rattle.std.specs.declared.option.Option.{Option}
use Rattle.gl_script.specs.Feed.{Begun, idle, some_line, skipping, some_payload}
use Rattle.gl_protocol.specs.Framing.Framing.{Item}
use Rattle.gl_protocol.specs.Framing.Stream.{Stream, nothing, in_line, skipped, in_payload}
use Rattle.gl_script.specs.FeedView.{begun_of, piece_of}
use Rattle.gl_script.specs.declared.feed.Event.{Event}
use Rattle.gl_script.specs.declared.feed.Event.TheVariants.{More, Line, Long, Payload, Truncated}
use Rattle.gl_script.specs.declared.framer.Ended.{Ended}
use Rattle.gl_script.specs.declared.framer.Framer.{Framer}
use Rattle.gl_script.specs.declared.framer.Ended.TheVariants as ended

abbrev pub stream_by : Begun → List ℕ → Stream
stream_by idle header = nothing
stream_by (some_line bs) header = in_line bs
stream_by skipping header = skipped
stream_by (some_payload bs due) header = in_payload header bs due

-- what is begun
abbrev pub stream_at : Framer → Stream
stream_at f = stream_by (begun_of f.feed) f.header.items

-- a payload of no bytes has no event of its own
abbrev pub payload_by : Event → List ℕ → List ℕ
payload_by Payload bytes = bytes
payload_by More bytes = []
payload_by Line bytes = []
payload_by Long bytes = []
payload_by Truncated bytes = []

-- the payload of the last item
abbrev pub payload_at : Framer → List ℕ
payload_at f = payload_by f.feed.event f.feed.bytes.items

-- the item that was told
abbrev pub told : Ended → Framer → Option Item
told ended.Nothing f = None
told ended.Line f = Some (Item.Line (piece_of f.feed))
told ended.Import f = Some (Item.Import f.header.items (payload_at f))
told ended.Long f = Some Item.Long
told ended.Truncated f = Some Item.Truncated
