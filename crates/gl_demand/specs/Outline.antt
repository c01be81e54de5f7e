-- Words of bounded parts of keys, by which tables find them. Equal keys have equal words.
use Rattle.std.specs.Prelude.{ℕ, ◌+◌, ◌*◌, ◌-◌, List, [], ◌∷◌, length, Option, Some, None, slice_get, unsigned_abs}
use Rattle.gl_calculus.specs.Grid.Grid.{Addr, Range}
use Rattle.gl_calculus.specs.Values.Value as V
use Rattle.gl_calculus.specs.Evaluation.Key as K
use Rattle.gl_plane.specs.Digest.{mixed, address_word}
use Rattle.gl_value.specs.View.{value_tree}
use Rattle.gl_value.specs.declared.Value.{Value}

-- an override of the code as a plain one
abbrev pub plain_override : Addr × Value → Addr × V.Value
plain_override o = (o.0, value_tree o.1)

-- of an integer itself, and of another value its kind
abbrev pub scalar_word : V.Scalar → ℕ
scalar_word V.Scalar.Blank = 1
scalar_word (V.Scalar.Int n) = unsigned_abs n
scalar_word (V.Scalar.Bool b) = 1
scalar_word (V.Scalar.Text t) = 1
scalar_word (V.Scalar.Err e) = 1
scalar_word (V.Scalar.Sheet s) = 1

abbrev pub value_word : V.Value → ℕ
value_word (V.Value.One x) = scalar_word x
value_word (V.Value.Array z xs) = 2

abbrev pub override_word : Option (Addr × V.Value) → ℕ
override_word None = 0
override_word (Some o) = mixed (address_word o.0) (value_word o.1)

-- overrides as a list
abbrev pub listed : V.Overrides → List (Addr × V.Value)
listed V.no_override = []
listed (V.override_and a v os) = (a, v) ∷ listed os

-- of one level: its weight, and its first and last overrides
abbrev pub level_word : ℕ → List (Addr × V.Value) → ℕ
level_word weight os = mixed (mixed weight (override_word (slice_get os 0))) (override_word (slice_get os (length os - 1)))

-- of the count of an oracle's entries, and of the last one
abbrev pub entry_word : ℕ → Option V.Entry → ℕ
entry_word count None = 0
entry_word count (Some x) = mixed (mixed count (address_word x.root)) (x.size.rows * 65536 + x.size.cols)

abbrev pub oracle_word : V.Oracle → ℕ
oracle_word w = entry_word (length w) (slice_get w (length w - 1))

abbrev pub range_word : Range → ℕ
range_word r = mixed (address_word r.first) (address_word r.last)

-- of the level of a frame alone, without those outward
abbrev pub frame_level : V.Frame → ℕ
frame_level V.Frame.Top = 0
frame_level (V.Frame.In (V.sheet_value r os e k w) o) = level_word w (listed os)

-- of a sheet value: the level of its frame, its own, and its region
abbrev pub sheet_outline : V.SheetValue → ℕ
sheet_outline (V.sheet_value r os e k w) = mixed (mixed (frame_level e) (level_word w (listed os))) (range_word r)

abbrev pub frame_outline : V.Frame → ℕ
frame_outline V.Frame.Top = 0
frame_outline (V.Frame.In s w) = mixed (sheet_outline s) (oracle_word w)

abbrev pub key_outline : K.Key → ℕ
key_outline (K.Key.Cell e a) = mixed (frame_outline e) (address_word a)
key_outline (K.Key.Settle s) = sheet_outline s
