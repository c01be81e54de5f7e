-- The scalar of a plain text.
use Rattle.std.specs.Prelude.{nat_lt, ◌==◌, ℤ, pos, neg_ℤ, true, false, ◌&&◌, [], ◌∷◌, length}
use Rattle.std.specs.Prelude.{Option, Some, None, bytes_eq, if◌then◌else◌}
use Rattle.std.specs.List.{list_all}
use Rattle.std.specs.Option.{option_map_or}
use Rattle.gl_calculus.specs.Values.Value.{Scalar}
use Rattle.gl_calculus.specs.Values.Operators.{exact}
use Rattle.gl_language.specs.Texts.Text.{Bytes, truth_text}
use Rattle.gl_language.specs.Reading.Token.{is_digit, digits_value}
use Rattle.gl_calculus.specs.Values.Value as V

abbrev pub signed_value : Bytes → Option ℤ
signed_value [] = None
signed_value (b ∷ bs) =
    if (b == 45) && nat_lt 0 (length bs) && list_all is_digit bs
    then Some (neg_ℤ (pos (digits_value bs)))
    else if list_all is_digit (b ∷ bs) then Some (pos (digits_value (b ∷ bs))) else None

-- a truth value, or else the text itself
abbrev pub word_scalar : Bytes → Scalar
word_scalar t =
    if bytes_eq t (truth_text true) then V.Scalar.Bool true
    else if bytes_eq t (truth_text false) then V.Scalar.Bool false else V.Scalar.Text t

-- an integer, or else the text itself
abbrev pub int_or : Bytes → Scalar → Scalar
int_or t (V.Scalar.Int n) = V.Scalar.Int n
int_or t x = V.Scalar.Text t

-- a number, a truth value, or else the text itself
abbrev pub plain_scalar : Bytes → Scalar
plain_scalar t = option_map_or (λ n. int_or t (exact n)) (signed_value t) (word_scalar t)
