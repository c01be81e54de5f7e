-- The short forms of keys, by the numbers of frames and sheet values.
use Rattle.std.specs.Prelude.{List, Option, Some, option_map, position}
use Rattle.gl_calculus.specs.Grid.Grid.{Addr}
use Rattle.gl_calculus.specs.Values.Value as V
use Rattle.gl_calculus.specs.Evaluation.Key as K
use Rattle.gl_calculus.specs.Values.Same.{same_sheet, same_frame}
use Rattle.gl_intern.specs.Growth.{IsLonger}
use Rattle.gl_intern.specs.Numbered.{Numbered, pairs, seconds, AreAt}
use Rattle.gl_demand.specs.View.{key_tree}
use Rattle.gl_demand.specs.declared.key.Key.{Key}
use Rattle.gl_core.specs.Numbers.{AreBooked}
use Rattle.gl_core.specs.declared.short.Short.{Short}
use Rattle.gl_core.specs.declared.short.Short.TheVariants.{Top, In, Settle}

-- the short form of a cell in a frame, where the frame is the top or has a number
abbrev pub cell_in : Numbered → V.Frame → Addr → Option Short
cell_in l V.Frame.Top a = Some (Top a)
cell_in l (V.Frame.In s o) a = option_map (λ n. In n a) (position (same_frame (V.Frame.In s o)) l.frames)

-- the short form of a key
abbrev pub short_in : Numbered → K.Key → Option Short
short_in l (K.Key.Cell e a) = cell_in l e a
short_in l (K.Key.Settle s) = option_map Settle (position (same_sheet s) l.sheets)

-- both lists grew at their ends alone
pub record IsGrown (old new : Numbered) : Type 0 where
  pub sheets : IsLonger old.sheets new.sheets
  pub frames : IsLonger old.frames new.frames

-- the entries of a map, with plain keys
abbrev pub key_pairs : List (Short × Key) → List (Short × K.Key)
key_pairs es = pairs key_tree es

-- each key stands beside its short form, and the keys are those of a book
pub record IsShort (l : Numbered) (ps : List (Short × K.Key)) : Type 0 where
  pub forms : AreAt (short_in l) ps
  pub booked : AreBooked (seconds ps)
