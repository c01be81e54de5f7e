-- The lines that say more than themselves: the header of an import says how many bytes of payload
-- follow it, and `quit` ends a script.
use Rattle.std.specs.Prelude.{ℕ, nat_lt, nat_le, Bool, ◌&&◌, List, [], ◌∷◌, length, Option, Some}
use Rattle.std.specs.Prelude.{None, bytes_eq, codes, if◌then◌else◌}
use Rattle.std.specs.Str.{is_utf8}
use Rattle.gl_calculus.specs.Grid.Limits.{max_payload}
use Rattle.gl_language.specs.Texts.Text.{Bytes}
use Rattle.gl_language.specs.Reading.Token.{digits_value}
use Rattle.gl_protocol.specs.Framing.Pieces.{pieces, is_number}

-- the count that the last piece of a header writes
abbrev pub count_of : Bytes → Option ℕ
count_of n =
    if is_number n && nat_le (digits_value n) max_payload then Some (digits_value n) else None

abbrev pub count_by : List Bytes → Option ℕ
count_by (word ∷ place ∷ n ∷ []) =
    if bytes_eq word (codes "import") && nat_lt 0 (length place) then count_of n else None
count_by ps = None

-- the bytes that follow an import header
unfoldable pub payload_len : Bytes → Option ℕ
payload_len line = if is_utf8 line then count_by (pieces 32 line) else None

-- `quit`
unfoldable pub is_quit_line : Bytes → Bool
is_quit_line line = bytes_eq line (codes "quit")
