-- What entries meet, and how far down and right they reach.
use Rattle.std.specs.Prelude.{◌≡◌, ℕ, ◌*◌, ◌/◌, ◌<◌, ◌≤◌, Bool, ◌&&◌, List, ◌+◌, length, Option, Some, None, [], ◌∷◌, slice_get, slice_index, if◌then◌else◌, drop}
use Rattle.gl_calculus.specs.Grid.Grid.{Range, lies_in, meets, grid}
use Rattle.gl_calculus.specs.Values.Value.{Entry, Oracle}
use Rattle.gl_calculus.specs.Values.Same.{is_permitted}
use Rattle.gl_calculus.specs.Evaluation.Oracle.{area_of}

-- the entry is permitted, and its area exists and meets the range
abbrev pub spills_into : Range → Entry → Bool
spills_into r x = is_permitted x.permit && lies_in (area_of x) grid && meets (area_of x) r

-- the first entry that passes the test, with its place; the first of the list stands at n
abbrev pub first_from : (Entry → Bool) → ℕ → Oracle → Option (ℕ × Entry)
first_from p n [] = None
first_from p n (x ∷ xs) = if p x then Some (n, x) else first_from p (n + 1) xs

-- the last row of what the entry spills, or 0
abbrev pub lowest_row : Entry → ℕ
lowest_row x = if is_permitted x.permit && lies_in (area_of x) grid then (area_of x).last.row else 0

-- the last column of what the entry spills, or 0
abbrev pub last_column : Entry → ℕ
last_column x = if is_permitted x.permit && lies_in (area_of x) grid then (area_of x).last.col else 0

-- each block of so many entries has a number beyond which none of them reaches
pub record AreReaches (size : ℕ) (reach : Entry → ℕ) (es : List Entry) (reaches : List ℕ) : Type 0 where
  pub enough : length es ≤ size * length reaches
  pub bounds : (k : ℕ) (x : Entry) → slice_get es k ≡ Some x → reach x ≤ slice_index reaches (k / size)

-- the rows and columns are those beyond which no entry of a block reaches
abbrev pub AreBounds : ℕ → List Entry → List ℕ → List ℕ → Type 0
AreBounds size es rows columns = AreReaches size lowest_row es rows × AreReaches size last_column es columns

-- those entries from the place i on, of the list es, may be passed
abbrev pub IsPassed : Range → List Entry → ℕ → ℕ → Type 0
IsPassed r es i n = first_from (spills_into r) i (drop i es) ≡ first_from (spills_into r) (i + n) (drop (i + n) es)

-- no number is less than before, and that of the block is at least this one
pub record IsRaised (old new : List ℕ) (block reach : ℕ) : Type 0 where
  pub present : block < length new
  pub kept : length old ≤ length new
  pub above : (k : ℕ) → slice_index old k ≤ slice_index new k
  pub raised : reach ≤ slice_index new block
