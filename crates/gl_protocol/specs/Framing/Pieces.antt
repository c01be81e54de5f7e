-- A text cut at a separator.
use Rattle.std.specs.Prelude.{ℕ, ◌==◌, Bool, false, ◌&&◌, not, List, [], ◌∷◌, Option, Some, None}
use Rattle.std.specs.Prelude.{if◌then◌else◌}
use Rattle.std.specs.List.{list_all, slice_split}
use Rattle.gl_language.specs.Texts.Text.{Bytes}
use Rattle.gl_language.specs.Reading.Token.{is_digit}

-- what stands before the first separator, and what follows it if there is one
abbrev pub cut_at : ℕ → Bytes → Bytes × Option Bytes
cut_at separator [] = ([], None)
cut_at separator (b ∷ bs) =
    let rest = cut_at separator bs in if b == separator then ([], Some bs) else (b ∷ rest.0, rest.1)

-- the pieces between the separators
abbrev pub pieces : ℕ → Bytes → List Bytes
pieces separator = slice_split (λ b. b == separator)

-- digits without a leading zero, or `0`
abbrev pub is_number : Bytes → Bool
is_number [] = false
is_number (b ∷ []) = is_digit b
is_number (b ∷ c ∷ bs) = is_digit b && not (b == 48) && list_all is_digit (c ∷ bs)
