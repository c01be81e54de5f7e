-- What an import makes of a payload.
use Rattle.std.specs.Prelude.{codes}
use Rattle.std.specs.Prelude.{◌≡◌, List, ◌++◌, Result, Ok, Err, Vec}
use Rattle.std.specs.declared.alloc.Global.{Global}
use Rattle.gl_calculus.specs.Formulas.Formula.{Cells}
use Rattle.gl_calculus.specs.Grid.Grid.{Addr}
use Rattle.gl_language.specs.Texts.Text.{Bytes}
use Rattle.gl_protocol.specs.Scripts.Commands.{Read, Is, Not, contents}
use Rattle.gl_cells.specs.Sheet.{Table, sheet}
use Rattle.gl_cells.specs.declared.content.Content.{Content}
use Rattle.gl_csvin.specs.declared.fault.CsvFault.{CsvFault}
use Rattle.gl_csvin.specs.declared.fault.CsvFault.TheVariants as f

-- what is answered where these contents, or this refusal, are what an import reads
abbrev pub Imports : Read Cells → Result (Vec (Addr × Content) Global) CsvFault → Type 0
Imports read (Ok v) = read ≡ Is (sheet v.items)
Imports read (Err f.Utf8) = read ≡ Not (codes "utf8")
Imports read (Err f.Field) = read ≡ Not (codes "field")
Imports read (Err f.Grid) = read ≡ Not (codes "grid")
Imports read (Err f.NoMemory) = Unit {0}

-- contents, and behind them what is read
abbrev pub behind : Cells → Read Cells → Read Cells
behind cs (Is ds) = Is (cs ++ ds)
behind cs (Not w) = Not w

-- what is answered where the contents of these fields are added to a table, whatever fields follow
abbrev pub Adds : List (Addr × Bytes) → Table → Table → Result (Unit {0}) CsvFault → Type 0
Adds xs old new (Ok u) = (ys : List (Addr × Bytes)) → behind (sheet old) (contents (xs ++ ys)) ≡ behind (sheet new) (contents ys)
Adds xs old new (Err f.Utf8) = ⊥
Adds xs old new (Err f.Field) = (ys : List (Addr × Bytes)) → contents (xs ++ ys) ≡ Not (codes "field")
Adds xs old new (Err f.Grid) = (ys : List (Addr × Bytes)) → contents (xs ++ ys) ≡ Not (codes "grid")
Adds xs old new (Err f.NoMemory) = Unit {0}
