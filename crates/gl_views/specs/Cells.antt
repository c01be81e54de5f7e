-- The texts of the cells of a table.
use Rattle.std.specs.Prelude.{ℕ, List, map}
use Rattle.std.specs.List.{join_with_byte}
use Rattle.std.specs.String.{string_bytes}
use Rattle.std.specs.declared.alloc.Global.{Global}
use Rattle.std.specs.declared.string.String.{String}
use Rattle.std.specs.declared.vec.Vec.{Vec}
use Rattle.gl_calculus.specs.Calculation.Calculation.{Shown}
use Rattle.gl_language.specs.Texts.Text.{Bytes, shown_text}
use Rattle.gl_protocol.specs.Replies.Tables.{line, cell_text, aligned}

abbrev pub cell_of : Shown → Bytes
cell_of x = cell_text (shown_text x)

-- the bytes of the texts of a row, and of all rows
abbrev pub texts_of : List (String Global) → List Bytes
texts_of row = map string_bytes row

abbrev pub rows_of : List (Vec (String Global) Global) → List (List Bytes)
rows_of rows = map (λ (row : Vec (String Global) Global). texts_of row.items) rows

-- the line of a row
abbrev pub line_of : List ℕ → List Bytes → Bytes
line_of ns row = line (join_with_byte 32 (aligned ns row))
