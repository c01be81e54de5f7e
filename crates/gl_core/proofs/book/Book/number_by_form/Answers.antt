use Rattle.gl_demand.specs.View.{key_tree}
use Rattle.gl_intern.specs.Numbered.{seconds}
use Rattle.gl_core.specs.Shorts.{key_pairs}
use Rattle.gl_core.proofs.Words.{words_of_more, no_word}
use Rattle.gl_core.proofs.book.Book.number_by_form.Goals as goal

pub invariant_of-self : goal.invariant_of-self
invariant_of-self c =
    let es = c.self.inside.guesses.entries in
    let ks = seconds (key_pairs c.self.inside.keys.entries) in
    let k = key_tree c.args.key in
    (c.place_key.ensures.short, words_of_more es ks (seconds (key_pairs c.place_key.new.keys.entries)) k (no_word es k c.requires.word) c.place_key.ensures.members c.self.invariant.1)
