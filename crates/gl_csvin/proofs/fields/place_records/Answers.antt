use Rattle.std.proofs.Common.{◌∙◌, List, map, arith}
use Rattle.std.proofs.lemmas.List.{at_drop_all}
use Rattle.csv.specs.Records.{fields_of, Row}
use Rattle.gl_calculus.specs.Grid.Grid.{addr}
use Rattle.gl_protocol.specs.Scripts.Commands.{contents, fields}
use Rattle.gl_cells.specs.Sheet.{sheet}
use Rattle.gl_csvin.specs.Import.{behind}
use Rattle.gl_csvin.proofs.Placing.{all_read}
use Rattle.laws_protocol.proofs.Scripts.Rising.{rises}
use Rattle.gl_csvin.proofs.fields.place_records.Goals as goal

pub returns-clause-rising : goal.returns-clause-rising
returns-clause-rising c =
    let es = c.loop-record.list.items in
    let end = at_drop_all (λ (rs : List Row). behind (sheet es) (contents (fields (addr c.args.at.col c.loop-record.row) (map fields_of rs)))) c.args.records.now c.loop-record.record-index (omega arith) in
    rises c.args.at (map fields_of c.args.records.now) (sheet es) (c.loop-record.invariant.reads ∙ end ∙ all_read es)
