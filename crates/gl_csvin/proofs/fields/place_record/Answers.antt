use Rattle.std.proofs.Common.{◌∙◌, ◌+◌, ◌++◌, ◌∷◌, [], List, drop, sym, ap, arith}
use Rattle.csv.specs.Records.{fields_of}
use Rattle.gl_calculus.specs.Grid.Grid.{addr}
use Rattle.gl_language.specs.Texts.Text.{Bytes}
use Rattle.gl_protocol.specs.Scripts.Commands.{contents, fields_of_record}
use Rattle.gl_cells.specs.Sheet.{sheet}
use Rattle.gl_csvin.specs.Import.{behind}
use Rattle.laws_protocol.proofs.Scripts.Rising.{Fields}
use Rattle.gl_csvin.proofs.Placing.{fails, next_field}
use Rattle.gl_csvin.proofs.Reached.{drop-field_more, drop-no_field, field-below}
use Rattle.gl_csvin.proofs.Texts.{texts_split}
use Rattle.gl_csvin.proofs.fields.place_record.Goals as goal

pub place_field-requires-clause-text : goal.place_field-requires-clause-text
place_field-requires-clause-text c = (texts_split (fields_of c.args.byte_record.now) c.loop-field.j c.in-Some.field.now (sym c.in-Some.ensures.value) c.loop-field.invariant.text).0

pub returns-in-Err-clause-adds : goal.returns-in-Err-clause-adds
returns-in-Err-clause-adds c =
    let fs = fields_of c.args.byte_record.now in
    let col = c.args.col in
    let row = c.args.row in
    let j = c.loop-field.j in
    let f = c.in-Some.field.now in
    let is_next = drop-field_more fs j f (sym c.in-Some.ensures.value) in
    fails c.in-Err.fault (fields_of_record (addr (col + j) row) (f ∷ [])) (fields_of_record (addr col row) fs) c.args.list.now.items c.loop-field.list.items c.loop-field.list.items c.place_field.new.list.items c.args.list.now.items c.place_field.new.list.items
    (λ ys. (
      fields_of_record (addr (col + (j + 1)) row) (drop (j + 1) fs) ++ ys,
      c.loop-field.invariant.adds ys
          ∙ ap (λ (z : Fields). behind (sheet c.loop-field.list.items) (contents z)) (ap (λ (z : List Bytes). fields_of_record (addr (col + j) row) z ++ ys) is_next ∙ next_field col row j f (drop (j + 1) fs) ys),
    ))
    c.in-Err.ensures.adds

pub loop-field-smaller : goal.loop-field-smaller
loop-field-smaller c = omega (arith, field-below (fields_of c.args.byte_record.now) c.loop-field.j c.in-Some.field.now (sym c.in-Some.ensures.value))

pub loop-field-preserved : goal.loop-field-preserved
loop-field-preserved c =
    let fs = fields_of c.args.byte_record.now in
    let col = c.args.col in
    let row = c.args.row in
    let j = c.loop-field.j in
    let f = c.in-Some.field.now in
    let is_next = drop-field_more fs j f (sym c.in-Some.ensures.value) in
    record {
      text = (texts_split fs j f (sym c.in-Some.ensures.value) c.loop-field.invariant.text).1;
      adds = λ ys.
          c.loop-field.invariant.adds ys
          ∙ ap (λ (z : Fields). behind (sheet c.loop-field.list.items) (contents z)) (ap (λ (z : List Bytes). fields_of_record (addr (col + j) row) z ++ ys) is_next ∙ next_field col row j f (drop (j + 1) fs) ys)
          ∙ c.in_default-place_field.ensures.adds (fields_of_record (addr (col + (j + 1)) row) (drop (j + 1) fs) ++ ys);
      proper = c.in_default-place_field.ensures.proper;
    }

pub returns-clause-adds : goal.returns-clause-adds
returns-clause-adds c = λ ys.
    let fs = fields_of c.args.byte_record.now in
    let j = c.loop-field.j in
    c.loop-field.invariant.adds ys
    ∙ ap (λ (z : List Bytes). behind (sheet c.loop-field.list.items) (contents (fields_of_record (addr (c.args.col + j) c.args.row) z ++ ys))) (drop-no_field fs j (sym c.in_default.ensures.value))
