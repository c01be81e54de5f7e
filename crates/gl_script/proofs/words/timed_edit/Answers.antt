use Rattle.std.proofs.Common.{◌∙◌, sym, ap, Some, None, lit<}
use Rattle.gl_language.specs.Texts.Text.{Bytes}
use Rattle.gl_protocol.specs.Framing.Pieces.{cut_at}
use Rattle.gl_script.specs.Parts.{edit_behind}
use Rattle.std.proofs.lemmas.Str.Pattern.{split_parts}
use Rattle.gl_script.proofs.Cuts.{edit-no_site, edit-site}
use Rattle.gl_script.proofs.words.timed_edit.Goals as goal

pub returns-in-None : goal.returns-in-None
returns-in-None c = sym (edit-no_site c.args.time.now c.args.rest.now (split_parts 32 c.args.rest.now None c.in-None.ensures.cases (lit< tt)))

pub returns-in-Some : goal.returns-in-Some
returns-in-Some c =
    let parts = split_parts 32 c.args.rest.now (Some (c.in-Some.site, c.in-Some.rest)) c.in-Some.ensures.cases (lit< tt) in
    c.stamped_edit.ensures ∙ sym (ap (λ (t : Bytes). edit_behind c.args.time.now (cut_at 32 t)) parts.0 ∙ edit-site c.args.time.now c.in-Some.site.now c.in-Some.rest.now parts.1)
