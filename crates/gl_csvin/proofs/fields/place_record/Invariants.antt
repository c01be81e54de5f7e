use Rattle.std.proofs.Common.{◌≡◌, ◌+◌, ◌-◌, ◌++◌, length, drop, IsTrue}
use Rattle.std.specs.List.{list_all}
use Rattle.std.specs.Str.{is_utf8}
use Rattle.csv.specs.Records.{fields_of}
use Rattle.gl_calculus.specs.Grid.Grid.{addr}
use Rattle.gl_protocol.specs.Scripts.Commands.{contents, fields_of_record}
use Rattle.gl_cells.specs.Sheet.{sheet, AreProper}
use Rattle.gl_csvin.specs.Import.{behind}
use Rattle.laws_protocol.proofs.Scripts.Rising.{Fields}
use Rattle.gl_csvin.proofs.fields.place_record.Given as goal

abbrev pub invariant-loop-field : goal.invariant-loop-field
invariant-loop-field l = record {
  text : IsTrue (list_all is_utf8 (drop l.j (fields_of l.byte_record)));
  adds : (ys : Fields) → behind (sheet l.fn.list.items) (contents (fields_of_record (addr l.col l.row) (fields_of l.byte_record) ++ ys)) ≡ behind (sheet l.list.items) (contents (fields_of_record (addr (l.col + l.j) l.row) (drop l.j (fields_of l.byte_record)) ++ ys));
  proper : AreProper l.list.items;
}

abbrev pub decreases-loop-field : goal.decreases-loop-field
decreases-loop-field l = length (fields_of l.byte_record) - l.j
