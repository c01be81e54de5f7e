use Rattle.std.proofs.Common.{sym, ◌∙◌}
use Rattle.gl_parse.specs.Raws.{raw_tree}
use Rattle.gl_parse.proofs.Answering.{without_fault, spelled_in_order}
use Rattle.gl_parse.proofs.reader.checked.Goals as goal

pub returns-in-Ok : goal.returns-in-Ok
returns-in-Ok c =
    let f = raw_tree c.args.text.now c.args.raw.now in
    let no_range = sym c.some_form.ensures ∙ c.if-some_form.false in
    (without_fault f no_range (sym c.in-Ok-false.ensures ∙ c.in-Ok-false.field-0-test) (sym c.some_form-2.ensures ∙ c.if-some_form-2.false), spelled_in_order f _ _ no_range c.in-Ok.ensures)
