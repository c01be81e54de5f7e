-- The words with which the program is called.
use Rattle.std.specs.Prelude.{ℕ, nat_lt, nat_le, ◌&&◌, List, [], ◌∷◌, Option, Some, None, bytes_eq}
use Rattle.std.specs.Prelude.{codes, option_map, if◌then◌else◌}
use Rattle.std.specs.Map.{lookup}
use Rattle.std.specs.Option.{option_and_then, option_or}
use Rattle.gl_calculus.specs.Grid.Limits.{max_generated}
use Rattle.gl_language.specs.Texts.Text.{Bytes}
use Rattle.gl_language.specs.Reading.Token.{digits_value}
use Rattle.gl_protocol.specs.Framing.Pieces.{is_number}

-- how keys are picked: kind 0, 1 or 2; and the size of the generated script that takes the place of
-- the input, if one does
pub record Call : Type 0 where
  pub kind : ℕ
  pub size : Option ℕ

abbrev pub kind_of : Bytes → Option ℕ
kind_of w = lookup (bytes_eq w) ((codes "first", 0) ∷ (codes "last", 1) ∷ (codes "turn", 2) ∷ [])

abbrev pub size_of : Bytes → Option ℕ
size_of w = if is_number w && nat_lt 0 (digits_value w) && nat_le (digits_value w) max_generated
    then Some (digits_value w) else None

abbrev pub order_pair : Bytes → Bytes → Call → Option Call
order_pair word w c =
    if bytes_eq word (codes "--order") then option_map (λ k. record c { kind = k }) (kind_of w)
    else None

abbrev pub gen_pair : Bytes → Bytes → Call → Option Call
gen_pair word w c =
    if bytes_eq word (codes "--gen") then option_map (λ n. record c { size = Some n }) (size_of w)
    else None

abbrev pub plain_call : Call
plain_call = record { kind = 0; size = None }

-- The call of these words, if they have a form: none, one of the pairs, or both pairs in either
-- order.
abbrev pub call_of : List Bytes → Option Call
call_of [] = Some plain_call
call_of (a ∷ b ∷ []) = option_or (order_pair a b plain_call) (gen_pair a b plain_call)
call_of (a ∷ b ∷ c ∷ d ∷ []) =
    option_or (option_and_then (gen_pair c d) (order_pair a b plain_call))
    (option_and_then (order_pair c d) (gen_pair a b plain_call))
call_of ws = None
