use Rattle.std.proofs.Common.{◌∙◌, sym, ap, Some, None, lit<}
use Rattle.gl_language.specs.Texts.Text.{Bytes}
use Rattle.gl_protocol.specs.Scripts.Commands.{edit_words}
use Rattle.std.proofs.lemmas.Str.Pattern.{split_parts}
use Rattle.gl_script.proofs.Cuts.{edit-none, edit-time}
use Rattle.gl_script.proofs.words.edit_words.Goals as goal

pub returns-in-None : goal.returns-in-None
returns-in-None c = sym (edit-none c.args.rest.now (split_parts 32 c.args.rest.now None c.in-None.ensures.cases (lit< tt)))

pub returns-in-Some : goal.returns-in-Some
returns-in-Some c =
    let parts = split_parts 32 c.args.rest.now (Some (c.in-Some.time, c.in-Some.rest)) c.in-Some.ensures.cases (lit< tt) in
    c.timed_edit.ensures ∙ sym (ap (λ (t : Bytes). edit_words (Some t)) parts.0 ∙ edit-time c.in-Some.time.now c.in-Some.rest.now parts.1)
