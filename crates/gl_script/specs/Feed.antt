-- What a `Feed` says after each byte.
use Rattle.std.specs.Prelude.{ℕ, ◌==◌, nat_lt, nat_le, ◌-◌, List, [], ◌∷◌, ◌++◌, length, if◌then◌else◌}
use Rattle.gl_calculus.specs.Grid.Limits.{max_line}
use Rattle.gl_protocol.specs.Framing.Framing.{drop_cr}
use Rattle.gl_script.specs.declared.feed.Event.{Event}
use Rattle.gl_script.specs.declared.feed.Event.TheVariants.{More, Line, Long, Payload, Truncated}

-- nothing, a line's bytes, a line that is skipped, or a payload's bytes and the number still due
pub data Begun : Type 0 where
  idle : Begun
  some_line : List ℕ → Begun
  skipping : Begun
  some_payload : List ℕ → ℕ → Begun

-- what is begun, the last event, and its piece
pub record Seen : Type 0 where
  pub begun : Begun
  pub event : Event
  pub piece : List ℕ

abbrev pub quiet : Begun → Seen
quiet b = record { begun = b; event = More; piece = [] }

-- a line is done, its CR dropped
abbrev pub line_done : List ℕ → Seen
line_done bs = if nat_lt max_line (length bs) then record { begun = idle; event = Long; piece = [] } else record { begun = idle; event = Line; piece = bs }

abbrev pub line_pushed : List ℕ → ℕ → Seen
line_pushed bs b =
    if b == 10 then line_done (drop_cr bs)
    else quiet (if nat_le (length bs) max_line then some_line (bs ++ b ∷ []) else skipping)

-- after a byte
abbrev pub pushed : Begun → ℕ → Seen
pushed idle b = line_pushed [] b
pushed (some_line bs) b = line_pushed bs b
pushed skipping b = if b == 10 then record { begun = idle; event = Long; piece = [] } else quiet skipping
pushed (some_payload bs due) b =
    if nat_le due 1 then record { begun = idle; event = Payload; piece = bs ++ b ∷ [] } else quiet (some_payload (bs ++ b ∷ []) (due - 1))

-- after the end of input
abbrev pub finished : Begun → Seen
finished idle = quiet idle
finished (some_line bs) = line_done (drop_cr bs)
finished skipping = record { begun = idle; event = Long; piece = [] }
finished (some_payload bs due) = record { begun = idle; event = Truncated; piece = [] }
