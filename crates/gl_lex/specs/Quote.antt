-- The text behind a quote.
use Rattle.std.specs.Prelude.{ℕ, ◌+◌, ◌-◌, ◌*◌, ◌&&◌, ◌||◌, if◌then◌else◌, ◌==◌, nat_le, nat_lt, List, [], ◌∷◌, ◌++◌}
use Rattle.gl_lex.specs.declared.quote.State.{State}
use Rattle.gl_lex.specs.declared.quote.State.TheVariants as state
use Rattle.gl_lex.specs.declared.quote.Step.{Step}
use Rattle.gl_lex.specs.declared.quote.Step.TheVariants.{Go, Push, End, Broken}

-- the value of a hexadecimal digit, or 16
abbrev pub hex : ℕ → ℕ
hex b = if nat_le 48 b && nat_le b 57 then b - 48 else (if nat_le 65 b && nat_le b 70 then b - 55 else (if nat_le 97 b && nat_le b 102 then b - 87 else 16))

abbrev pub plain : ℕ → Step
plain b = if b == 34 then End else (if b == 92 then Go state.Escape else (if nat_lt b 32 || b == 127 then Broken else Push b))

abbrev pub escape : ℕ → Step
escape b = if b == 92 || b == 34 then Push b else (if b == 110 then Push 10 else (if b == 114 then Push 13 else (if b == 116 then Push 9 else (if b == 120 then Go state.HexFirst else Broken))))

abbrev pub turn : State → ℕ → Step
turn state.Plain b = plain b
turn state.Escape b = escape b
turn state.HexFirst b = if nat_lt (hex b) 8 then Go (state.HexSecond (hex b)) else Broken
turn (state.HexSecond h) b = if nat_lt h 8 && nat_lt (hex b) 16 then Push (16 * h + hex b) else Broken

-- the decoded bytes and how many were read, or no text
pub data Scan : Type 0 where
  Ends : List ℕ → ℕ → Scan
  Torn : Scan

-- these decoded bytes before, of so many that were read
abbrev pub with_front : List ℕ → ℕ → Scan → Scan
with_front front n (Scan.Ends s m) = Scan.Ends (front ++ s) (n + m)
with_front front n Scan.Torn = Scan.Torn

abbrev pub decode : State → List ℕ → Scan
decode s [] = Scan.Torn
decode s (b ∷ bs) = elim (turn s b) [ Go t ↦ with_front [] 1 (decode t bs) | Push c ↦ with_front (c ∷ []) 1 (decode state.Plain bs) | End ↦ Scan.Ends [] 1 | Broken ↦ Scan.Torn ]
