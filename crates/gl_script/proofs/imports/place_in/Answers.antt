use Rattle.std.proofs.Common.{◌≡◌, ◌∙◌, None, Some, sym, ap}
use Rattle.gl_protocol.specs.Scripts.Commands.{ImportWords}
use Rattle.gl_script.specs.Parts.{some_tree}
use Rattle.gl_script.proofs.HeaderWords.{header_words, same_words}
use Rattle.gl_script.proofs.imports.place_in.Goals as goal

pub returns-in-Some : goal.returns-in-Some
returns-in-Some c = λ n h.
    let w = header_words c.args.line.now n h in
    let tree = same_words _ _ (ap some_tree (sym c.in-Some.is) ∙ c.words_of.ensures ∙ w.words) in
    record { place = w.place; count = w.count; words = w.words; is_at = c.place_of.ensures w.place w.count tree; payload = h }

pub returns-in-None : goal.returns-in-None
returns-in-None c = λ n h.
    let w = header_words c.args.line.now n h in
    let none : None ≡ Some (ImportWords w.place w.count) = ap some_tree (sym c.in-None.is) ∙ c.words_of.ensures ∙ w.words in
    absurd (cc none)
