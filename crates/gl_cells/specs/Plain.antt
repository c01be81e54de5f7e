-- The number of a text.
use Rattle.std.specs.Prelude.{ℕ, ◌^◌, nat_lt, ◌&&◌, ℤ, length, Option, Some, None, if◌then◌else◌}
use Rattle.std.specs.List.{list_all}
use Rattle.gl_calculus.specs.Values.Operators.{exact}
use Rattle.gl_calculus.specs.Values.Value as V
use Rattle.gl_language.specs.Texts.Text.{Bytes}
use Rattle.gl_language.specs.Reading.Token.{is_digit, digits_value}
use Rattle.gl_language.specs.Texts.Plain.{signed_value}

abbrev pub int_of : V.Scalar → Option ℤ
int_of (V.Scalar.Int n) = Some n
int_of x = None

abbrev pub within_range : Option ℤ → Option ℤ
within_range (Some n) = int_of (exact n)
within_range None = None

-- the number that a text is in decimal, if it has 64 bits
abbrev pub number_of : Bytes → Option ℤ
number_of t = within_range (signed_value t)

-- the number of one or more digits, if it is below 2^64
abbrev pub digits_number : Bytes → Option ℕ
digits_number bs = if nat_lt 0 (length bs) && list_all is_digit bs && nat_lt (digits_value bs) (2 ^ 64) then Some (digits_value bs) else None
