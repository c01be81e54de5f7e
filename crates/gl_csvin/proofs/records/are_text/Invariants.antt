use Rattle.std.proofs.Common.{◌≡◌, map, drop}
use Rattle.std.specs.List.{list_all}
use Rattle.std.specs.Str.{is_utf8}
use Rattle.csv.specs.Records.{fields_of}
use Rattle.gl_csvin.proofs.records.are_text.Given as goal

abbrev pub invariant-loop-record : goal.invariant-loop-record
invariant-loop-record l = list_all (list_all is_utf8) (map fields_of l.records) ≡ list_all (list_all is_utf8) (map fields_of (drop l.record-index l.records))
