-- What every value, frame and key that the program makes keeps.
use Rattle.std.specs.Prelude.{◌≡◌, ℕ, ◌*◌, ◌==◌, max, nat_lt, nat_le, Bool, true, false, ◌&&◌}
use Rattle.std.specs.Prelude.{length, Some}
use Rattle.std.specs.Str.{is_utf8}
use Rattle.gl_calculus.specs.Grid.Limits.{max_text, max_cells, max_rank, max_weight}
use Rattle.gl_calculus.specs.Grid.Grid.{is_before, Range, covers, Size}
use Rattle.gl_calculus.specs.Values.Value.{Scalar, Text, Sheet, Scalars, no_scalar, scalar_and}
use Rattle.gl_calculus.specs.Values.Value.{Value, One, Array, Overrides, no_override, override_and}
use Rattle.gl_calculus.specs.Values.Value.{SheetValue, sheet_value, Frame, Top, In, items, elements}
use Rattle.gl_calculus.specs.Values.Sheet.{rank_above, frame_rank, weight}
use Rattle.gl_calculus.specs.Formulas.Formula.{Formula, Cells, content}
use Rattle.gl_calculus.specs.Evaluation.Key.{Key, Cell, Settle, Outcome}
use Rattle.gl_calculus.specs.Evaluation.Reference.{Computed, own_content}

abbrev pub is_size : Size → Bool
is_size s = nat_lt 0 s.rows && nat_lt 0 s.cols && nat_le (s.rows * s.cols) max_cells

-- the addresses lie in the region and increase in row-major order
abbrev pub are_inside : Range → Overrides → Bool
are_inside r no_override = true
are_inside r (override_and a v no_override) = covers r a
are_inside r (override_and a v (override_and b u os)) =
    covers r a && is_before a b && are_inside r (override_and b u os)

-- one above each rank that stands in the overrides, or 0
abbrev pub overrides_rank : Overrides → ℕ
overrides_rank no_override = 0
overrides_rank (override_and a v os) = max (rank_above (elements v)) (overrides_rank os)

abbrev mutual
  pub is_sound_scalar : Scalar → Bool
  is_sound_scalar (Text t) = is_utf8 t && nat_le (length t) max_text
  is_sound_scalar (Sheet s) = is_sound_sheet s
  is_sound_scalar x = true

  pub are_sound : Scalars → Bool
  are_sound no_scalar = true
  are_sound (scalar_and x xs) = is_sound_scalar x && are_sound xs

  pub is_sound_value : Value → Bool
  is_sound_value (One x) = is_sound_scalar x
  is_sound_value (Array s xs) = is_size s && (length (items xs) == s.rows * s.cols) && are_sound xs

  pub are_sound_overrides : Overrides → Bool
  are_sound_overrides no_override = true
  are_sound_overrides (override_and a v os) = is_sound_value v && are_sound_overrides os

  -- overrides in order inside the region; a rank above those of the parent and of the overrides;
  -- rank and weight within their limits; the weight is that of the parts
  pub is_sound_sheet : SheetValue → Bool
  is_sound_sheet (sheet_value r os e k w) =
      are_inside r os && are_sound_overrides os && is_sound_frame e
      && nat_lt (frame_rank e) k && nat_le (overrides_rank os) k && nat_le k max_rank
      && nat_le w max_weight && (w == weight (sheet_value r os e k w))

  pub is_sound_frame : Frame → Bool
  is_sound_frame Top = true
  is_sound_frame (In s o) = is_sound_sheet s

abbrev pub is_sound_key : Key → Bool
is_sound_key (Cell e a) = is_sound_frame e
is_sound_key (Settle s) = is_sound_sheet s

abbrev pub is_sound_outcome : Outcome → Bool
is_sound_outcome (Outcome.Value v) = is_sound_value v
is_sound_outcome x = true

-- a cell key names a formula of the frame's region
abbrev pub IsProperKey : Cells → Key → Type 0
IsProperKey S (Cell e a) = (f : Formula) × (own_content (content S a) e a ≡ Some (Computed f))
IsProperKey S (Settle s) = Unit {0}

-- a cell comes to a value and a sheet value to an oracle, or each to a spent budget
abbrev pub is_outcome_of : Key → Outcome → Bool
is_outcome_of (Cell e a) (Outcome.Value v) = true
is_outcome_of (Settle s) (Outcome.Settled o) = true
is_outcome_of k (Outcome.Abort b) = true
is_outcome_of k o = false
