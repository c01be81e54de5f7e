use Rattle.std.proofs.Common.{◌≡◌, ◌∙◌, sym, ap, true, false, arith, Some, None, lit<}
use Rattle.std.specs.Prelude.{codes, bytes_eq}
use Rattle.gl_protocol.specs.Scripts.Commands.{words_of}
use Rattle.std.proofs.lemmas.Str.Pattern.{split_parts}
use Rattle.gl_script.proofs.Cuts.{words-one, words-set, words-edit, words-more}
use Rattle.gl_script.proofs.words.words_of.Goals as goal

pub returns-in-None : goal.returns-in-None
returns-in-None c = c.one_word.ensures ∙ sym (words-one c.args.line.now (split_parts 32 c.args.line.now None c.in-None.ensures.cases (lit< tt)))

pub returns-then-eq : goal.returns-then-eq
returns-then-eq c =
    let parts = split_parts 32 c.args.line.now (Some (c.in-Some.word, c.in-Some.rest)) c.in-Some.ensures.cases (lit< tt) in
    let e : bytes_eq c.in-Some.word.now (codes "set") ≡ true = grind arith in
    c.set_words.ensures ∙ sym (ap words_of parts.0 ∙ words-set c.in-Some.word.now c.in-Some.rest.now parts.1 e)

pub returns-then-eq-2 : goal.returns-then-eq-2
returns-then-eq-2 c =
    let parts = split_parts 32 c.args.line.now (Some (c.in-Some.word, c.in-Some.rest)) c.in-Some.ensures.cases (lit< tt) in
    let e : bytes_eq c.in-Some.word.now (codes "set") ≡ false = grind arith in
    let f : bytes_eq c.in-Some.word.now (codes "edit") ≡ true = grind arith in
    c.edit_words.ensures ∙ sym (ap words_of parts.0 ∙ words-edit c.in-Some.word.now c.in-Some.rest.now parts.1 e f)

pub returns-else-eq-2 : goal.returns-else-eq-2
returns-else-eq-2 c =
    let parts = split_parts 32 c.args.line.now (Some (c.in-Some.word, c.in-Some.rest)) c.in-Some.ensures.cases (lit< tt) in
    let e : bytes_eq c.in-Some.word.now (codes "set") ≡ false = grind arith in
    let f : bytes_eq c.in-Some.word.now (codes "edit") ≡ false = grind arith in
    c.more_words.ensures ∙ sym (ap words_of parts.0 ∙ words-more c.in-Some.word.now c.in-Some.rest.now parts.1 e f)
