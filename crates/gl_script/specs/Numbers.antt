-- The numbers of replicas in a line.
use Rattle.std.specs.Prelude.{ℕ, Bool, true, false, nat_lt, nat_le, ◌&&◌, Option, Some, None}
use Rattle.gl_language.specs.Texts.Text.{Bytes}
use Rattle.gl_language.specs.Reading.Token.{digits_value}
use Rattle.gl_calculus.specs.Edits.Limits.{max_time, max_site}
use Rattle.gl_calculus.specs.Edits.Replicas.{is_stamp}
use Rattle.gl_protocol.specs.Framing.Pieces.{is_number}

abbrev pub is_site : Bytes → Bool
is_site n = is_number n && nat_le (digits_value n) max_site

abbrev pub is_time : Bytes → Bool
is_time t = is_number t && (nat_lt 0 (digits_value t) && nat_le (digits_value t) max_time)

-- two numbers, where a test holds
abbrev pub pair_if : Bool → ℕ → ℕ → Option (ℕ × ℕ)
pair_if true p q = Some (p, q)
pair_if false p q = None

-- the time and the site of a stamp, where these digits write one
abbrev pub stamp_in : Bytes → Bytes → Option (ℕ × ℕ)
stamp_in t n = pair_if (is_stamp (digits_value t) (digits_value n)) (digits_value t) (digits_value n)
