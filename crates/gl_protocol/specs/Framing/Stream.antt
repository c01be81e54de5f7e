-- Framing by one byte at a time: what is begun, and the item that a byte ends.
use Rattle.std.specs.Prelude.{ℕ, ◌==◌, nat_le, ◌-◌, List, [], ◌∷◌, ◌++◌, length, if◌then◌else◌}
use Rattle.std.specs.Prelude.{Option, None, Some}
use Rattle.std.specs.Option.{option_to_list}
use Rattle.gl_calculus.specs.Grid.Limits.{max_line}
use Rattle.gl_language.specs.Texts.Text.{Bytes}
use Rattle.gl_protocol.specs.Framing.Framing.{Item, Line, Import, Long, Truncated, Kind, past_limit}
use Rattle.gl_protocol.specs.Framing.Framing.{plain, header, kind_of, drop_cr, last_item}

-- nothing, a line's bytes, a line that is skipped, or a header with the payload's bytes and the
-- number still due
pub data Stream : Type 0 where
  nothing : Stream
  in_line : Bytes → Stream
  skipped : Stream
  in_payload : (heading part : Bytes) (due : ℕ) → Stream

abbrev pub close_by : Kind → Bytes → Stream × Option Item
close_by past_limit line = (nothing, Some Long)
close_by plain line = (nothing, Some (Line line))
close_by (header n) line =
    if n == 0 then (nothing, Some (Import line [])) else (in_payload line [] n, None)

-- a line is begun while it is no longer than the limit and one CR
abbrev pub step_line : Bytes → ℕ → Stream × Option Item
step_line bs b =
    if b == 10 then close_by (kind_of (drop_cr bs)) (drop_cr bs)
    else (if nat_le (length bs) max_line then in_line (bs ++ b ∷ []) else skipped, None)

-- what is begun after a byte, and the item that it ends
abbrev pub step : Stream → ℕ → Stream × Option Item
step nothing b = step_line [] b
step (in_line bs) b = step_line bs b
step skipped b = if b == 10 then (nothing, Some Long) else (skipped, None)
step (in_payload heading part due) b =
    if nat_le due 1 then (nothing, Some (Import heading (part ++ b ∷ [])))
    else (in_payload heading (part ++ b ∷ []) (due - 1), None)

-- the items that these bytes end
abbrev pub gained : Stream → Bytes → List Item
gained s [] = []
gained s (b ∷ bs) = option_to_list (step s b).1 ++ gained (step s b).0 bs

-- what is begun after them
abbrev pub after : Stream → Bytes → Stream
after s [] = s
after s (b ∷ bs) = after (step s b).0 bs

-- the item that the end of input ends
abbrev pub closing : Stream → Option Item
closing nothing = None
closing (in_line bs) = Some (last_item (kind_of (drop_cr bs)) (drop_cr bs))
closing skipped = Some Long
closing (in_payload heading part due) = Some Truncated
