use Rattle.std.proofs.Common.{◌∙◌, ◌&&◌, ◌+◌, drop, sym, ap, arith}
use Rattle.std.specs.List.{list_all}
use Rattle.std.specs.Str.{is_utf8}
use Rattle.std.proofs.lemmas.Str.{is_utf8-from_IsUtf8}
use Rattle.csv.specs.Records.{fields_of}
use Rattle.gl_csvin.proofs.Reached.{drop-no_field, field-below}
use Rattle.gl_csvin.proofs.Texts.{no_text, texts_more}
use Rattle.gl_csvin.proofs.records.is_text.Goals as goal

pub returns-in_default-from_utf8 : goal.returns-in_default-from_utf8
returns-in_default-from_utf8 c =
    let fs = fields_of c.args.byte_record.now in
    let f = c.in-Some.field.now in
    sym (c.loop-field.invariant ∙ texts_more fs c.loop-field.j f (sym c.in-Some.ensures.value) ∙ ap (λ b. b && list_all is_utf8 (drop (c.loop-field.j + 1) fs)) (no_text f c.in_default-from_utf8.ensures.cases.0))

pub loop-field-smaller : goal.loop-field-smaller
loop-field-smaller c = omega (arith, field-below (fields_of c.args.byte_record.now) c.loop-field.j c.in-Some.field.now (sym c.in-Some.ensures.value))

pub loop-field-preserved : goal.loop-field-preserved
loop-field-preserved c =
    let fs = fields_of c.args.byte_record.now in
    let f = c.in-Some.field.now in
    c.loop-field.invariant ∙ texts_more fs c.loop-field.j f (sym c.in-Some.ensures.value) ∙ ap (λ b. b && list_all is_utf8 (drop (c.loop-field.j + 1) fs)) (is_utf8-from_IsUtf8 f c.in-Ok.ensures.cases.1)

pub returns : goal.returns
returns c =
    let fs = fields_of c.args.byte_record.now in
    sym (c.loop-field.invariant ∙ ap (list_all is_utf8) (drop-no_field fs c.loop-field.j (sym c.in_default.ensures.value)))
