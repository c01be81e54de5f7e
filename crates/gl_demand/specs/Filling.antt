-- The addresses with content in a frame, one after the other.
use Rattle.std.specs.Prelude.{◌≡◌, Bool, true, ◌&&◌, ◌||◌, is_some, List, Option, Some, None, map}
use Rattle.std.specs.List.{find}
use Rattle.gl_calculus.specs.Grid.Grid.{Addr, Range, is_before}
use Rattle.gl_calculus.specs.Values.Value.{Overrides, SheetValue, Frame}
use Rattle.gl_calculus.specs.Values.Sheet.{override_at}
use Rattle.gl_calculus.specs.Formulas.Formula.{Cells, content}
use Rattle.gl_calculus.specs.Evaluation.Reference.{own_content}
use Rattle.gl_cells.specs.Search.{is_in_play}
use Rattle.gl_value.specs.declared.Value.{Value}
use Rattle.gl_demand.specs.Blocks.{has_content, has_content_in}
use Rattle.gl_demand.specs.Held.{override_in}

-- the address passes the test, and none before it does; or no address does
abbrev pub IsFirst : (Addr → Bool) → Option Addr → Type 0
IsFirst p None = (b : Addr) → p b ≡ true → ⊥
IsFirst p (Some a) = (p a ≡ true) × ((b : Addr) → p b ≡ true → is_before b a ≡ true → ⊥)

-- the address comes before another, if there is one
abbrev pub comes_before : Option Addr → Addr → Bool
comes_before None b = true
comes_before (Some a) b = is_before b a

-- the first override in the range, after one address and before another, if these are given
abbrev pub next_override : List (Addr × Value) → Range → Option Addr → Option Addr → Option Addr
next_override os r after before = find (λ b. is_in_play r after b && comes_before before b) (map (λ o. o.0) os)

-- one of these overrides, in the range and after an address, if one is given
abbrev pub is_overridden_by : Overrides → Range → Option Addr → Addr → Bool
is_overridden_by os r after b = is_in_play r after b && is_some (override_at os b)

-- an override of the frame, or of one outward, in the range and after an address, if one is given
abbrev pub is_overridden : Frame → Range → Option Addr → Addr → Bool
is_overridden e r after b = is_in_play r after b && is_some (override_in e b)

-- The first address that passes the test, or that is overridden.
abbrev pub IsFirstWith : Frame → Range → Option Addr → (Addr → Bool) → Option Addr → Type 0
IsFirstWith e r after p = IsFirst (λ b. p b || is_overridden e r after b)

-- an address of the range with content in the sheet, after another, if one is given
abbrev pub is_content : Cells → Range → Option Addr → Addr → Bool
is_content S r after b = is_in_play r after b && has_content S b

-- an address of the range with content in a frame, after another, if one is given
abbrev pub is_held : Cells → Frame → Range → Option Addr → Addr → Bool
is_held S e r after b = is_in_play r after b && is_some (own_content (content S b) e b)

-- an address of the range with content in a frame of the sheet value, after another, if one is given
abbrev pub is_filled : Cells → SheetValue → Range → Option Addr → Addr → Bool
is_filled S s r after b = is_in_play r after b && has_content_in S s b

-- an address that comes before the next one, if there is a next one, has no content in the frame
abbrev pub HasNone : Cells → Frame → Option Addr → Addr → Type 0
HasNone S e next b = comes_before next b ≡ true → own_content (content S b) e b ≡ None
