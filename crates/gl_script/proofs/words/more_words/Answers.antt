use Rattle.std.proofs.Common.{◌∙◌, ◌∷◌, sym, ap, Some, None, lit<}
use Rattle.gl_language.specs.Texts.Text.{Bytes}
use Rattle.gl_protocol.specs.Framing.Pieces.{pieces}
use Rattle.gl_protocol.specs.Scripts.Commands.{words_of_pieces}
use Rattle.std.proofs.lemmas.Str.Pattern.{split_parts}
use Rattle.gl_script.proofs.Cuts.{two-empty, two-some, more-cut}
use Rattle.gl_script.proofs.words.more_words.Goals as goal

pub returns-then-is_empty : goal.returns-then-is_empty
returns-then-is_empty c = sym (two-empty c.args.word.now c.args.rest.now (split_parts 32 c.args.rest.now None c.in-None.ensures.cases (lit< tt)) (sym (c.if-is_empty.ensures)))

pub returns-else-is_empty : goal.returns-else-is_empty
returns-else-is_empty c = c.two_words.ensures ∙ sym (two-some c.args.word.now c.args.rest.now (split_parts 32 c.args.rest.now None c.in-None.ensures.cases (lit< tt)) (sym (c.if-is_empty.ensures)))

pub returns-in-Some : goal.returns-in-Some
returns-in-Some c =
    let parts = split_parts 32 c.args.rest.now (Some (c.in-Some.place, c.in-Some.count)) c.in-Some.ensures.cases (lit< tt) in
    c.import_words.ensures ∙ sym (ap (λ (t : Bytes). words_of_pieces (c.args.word.now ∷ pieces 32 t)) parts.0 ∙ more-cut c.args.word.now c.in-Some.place.now c.in-Some.count.now parts.1)
