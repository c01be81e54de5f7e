use Rattle.std.proofs.Common.{◌≡◌, ◌+◌, map, drop, IsTrue}
use Rattle.std.specs.List.{list_all}
use Rattle.std.specs.Str.{is_utf8}
use Rattle.csv.specs.Records.{fields_of}
use Rattle.gl_calculus.specs.Grid.Grid.{addr}
use Rattle.gl_protocol.specs.Scripts.Commands.{contents, fields}
use Rattle.gl_cells.specs.Sheet.{sheet, AreProper}
use Rattle.gl_csvin.specs.Import.{behind}
use Rattle.gl_csvin.proofs.fields.place_records.Given as goal

abbrev pub invariant-loop-record : goal.invariant-loop-record
invariant-loop-record l = record {
  row : l.row ≡ l.fn.at.row + l.record-index;
  text : IsTrue (list_all (list_all is_utf8) (map fields_of (drop l.record-index l.records)));
  reads : contents (fields l.fn.at (map fields_of l.records)) ≡ behind (sheet l.list.items) (contents (fields (addr l.fn.at.col l.row) (map fields_of (drop l.record-index l.records))));
  proper : AreProper l.list.items;
}
