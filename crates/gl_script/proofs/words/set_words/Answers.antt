use Rattle.std.proofs.Common.{◌∙◌, sym, ap, Some, None, lit<}
use Rattle.gl_language.specs.Texts.Text.{Bytes}
use Rattle.gl_protocol.specs.Scripts.Commands.{set_words}
use Rattle.std.proofs.lemmas.Str.Pattern.{split_parts}
use Rattle.gl_script.proofs.Cuts.{set-none, set-empty_place, set-empty_text, set-both}
use Rattle.gl_script.proofs.words.set_words.Goals as goal
use Rattle.gl_script.proofs.words.set_words.Goals.{then-is_empty-via-then-is_empty, then-is_empty-via-else-is_empty+then-is_empty-2}

pub returns-then-is_empty : goal.returns-then-is_empty
returns-then-is_empty c =
    let parts = split_parts 32 c.args.rest.now (Some (c.in-Some.place, c.in-Some.text)) c.in-Some.ensures.cases (lit< tt) in
    let e = ap (λ (t : Bytes). set_words (Some t)) parts.0 in
    elim c.then-is_empty.branch [
      | then-is_empty-via-then-is_empty w ↦ sym (e ∙ set-empty_place c.in-Some.place.now c.in-Some.text.now parts.1 (sym (w.if-is_empty.ensures)))
      | then-is_empty-via-else-is_empty+then-is_empty-2 w ↦ sym (e ∙ set-empty_text c.in-Some.place.now c.in-Some.text.now parts.1 (sym (w.if-is_empty-2.ensures)))
    ]

pub returns-in-None : goal.returns-in-None
returns-in-None c = sym (set-none c.args.rest.now (split_parts 32 c.args.rest.now None c.in-None.ensures.cases (lit< tt)))

pub returns-else-is_empty-2 : goal.returns-else-is_empty-2
returns-else-is_empty-2 c =
    let parts = split_parts 32 c.args.rest.now (Some (c.in-Some.place, c.in-Some.text)) c.in-Some.ensures.cases (lit< tt) in
    sym (ap (λ (t : Bytes). set_words (Some t)) parts.0 ∙ set-both c.in-Some.place.now c.in-Some.text.now parts.1 (sym (c.if-is_empty.ensures)) (sym (c.if-is_empty-2.ensures)))
