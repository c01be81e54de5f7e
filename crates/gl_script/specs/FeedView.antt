-- What a `Feed` is seen as.
use Rattle.std.specs.Prelude.{ℕ, List, []}
use Rattle.gl_script.specs.declared.feed.Event.{Event}
use Rattle.gl_script.specs.declared.feed.Event.TheVariants.{More, Line, Long, Payload, Truncated}
use Rattle.gl_script.specs.declared.feed.Mode.{Mode}
use Rattle.gl_script.specs.declared.feed.Mode.TheVariants.{Idle, InLine, Skipping, InPayload}
use Rattle.gl_script.specs.declared.feed.Feed.{Feed}
use Rattle.gl_script.specs.Feed.{Begun, idle, some_line, skipping, some_payload, Seen}

abbrev pub begun_by : Mode → List ℕ → Begun
begun_by Idle bytes = idle
begun_by InLine bytes = some_line bytes
begun_by Skipping bytes = skipping
begun_by (InPayload due) bytes = some_payload bytes due

abbrev pub piece_by : Event → List ℕ → List ℕ
piece_by More bytes = []
piece_by Line bytes = bytes
piece_by Long bytes = []
piece_by Payload bytes = bytes
piece_by Truncated bytes = []

-- what is begun
abbrev pub begun_of : Feed → Begun
begun_of f = begun_by f.mode f.bytes.items

-- the bytes of the last event, where it is a line or a payload
abbrev pub piece_of : Feed → List ℕ
piece_of f = piece_by f.event f.bytes.items

abbrev pub seen_of : Feed → Seen
seen_of f = record { begun = begun_of f; event = f.event; piece = piece_of f }
