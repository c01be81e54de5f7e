use Rattle.std.proofs.Common.{◌∙◌, sym, ap, Some, None, lit<}
use Rattle.gl_script.specs.Parts.{Cut}
use Rattle.gl_protocol.specs.Framing.Pieces.{cut_at}
use Rattle.gl_script.specs.Parts.{edit_at}
use Rattle.std.proofs.lemmas.Str.Pattern.{split_parts}
use Rattle.gl_script.proofs.Cuts.{cut-none, cut-at}
use Rattle.gl_script.proofs.words.stamped_edit.Goals as goal

pub returns-in-None : goal.returns-in-None
returns-in-None c =
    let lacks = split_parts 32 c.args.rest.now None c.in-None.ensures.cases (lit< tt) in
    c.edit_of.ensures ∙ ap (λ (p : Cut). edit_at c.args.time.now c.args.site.now p) (sym (cut-none 32 c.args.rest.now lacks))

pub returns-in-Some : goal.returns-in-Some
returns-in-Some c =
    let parts = split_parts 32 c.args.rest.now (Some (c.in-Some.place, c.in-Some.text)) c.in-Some.ensures.cases (lit< tt) in
    c.edit_of-in-Some.ensures ∙ ap (λ (p : Cut). edit_at c.args.time.now c.args.site.now p) (sym (ap (cut_at 32) parts.0 ∙ cut-at 32 c.in-Some.place.now c.in-Some.text.now parts.1))
