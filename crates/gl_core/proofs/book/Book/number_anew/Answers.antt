use Rattle.std.proofs.Common.{arith}
use Rattle.std.proofs.lemmas.Grind.{common_steps}
use Rattle.gl_demand.specs.View.{key_tree}
use Rattle.gl_intern.specs.Numbered.{seconds}
use Rattle.gl_core.specs.Shorts.{key_pairs}
use Rattle.gl_core.proofs.Words.{words_stay, words_of_more, this_word}
use Rattle.gl_core.proofs.book.Book.number_anew.Goals as goal

pub invariant_of-self : goal.invariant_of-self
invariant_of-self c = (c.self.invariant.0, words_stay c.self.inside.guesses.entries c.remember.new.guesses.entries (seconds (key_pairs c.self.inside.keys.entries)) c.remember.ensures.keeps c.self.invariant.1)

pub invariant_of-self-in_err-n : goal.invariant_of-self-in_err-n
invariant_of-self-in_err-n c =
    let es = c.remember.new.guesses.entries in
    let ks = seconds (key_pairs c.self.inside.keys.entries) in
    let k = key_tree c.args.key in
    let before = words_stay c.self.inside.guesses.entries es ks c.remember.ensures.keeps c.self.invariant.1 in
    (c.place_anew.ensures.short, words_of_more es ks (seconds (key_pairs c.place_anew.new.keys.entries)) k (this_word es k c.args.word c.requires.word c.in_ok-remember.ensures.has) c.place_anew.ensures.members before)

pub invariant_of-self-2 : goal.invariant_of-self-2
invariant_of-self-2 c =
    let es = c.remember.new.guesses.entries in
    let ks = seconds (key_pairs c.self.inside.keys.entries) in
    let js = seconds (key_pairs c.place_anew.new.keys.entries) in
    let k = key_tree c.args.key in
    let before = words_stay c.self.inside.guesses.entries es ks c.remember.ensures.keeps c.self.invariant.1 in
    let placed = words_of_more es ks js k (this_word es k c.args.word c.requires.word c.in_ok-remember.ensures.has) c.place_anew.ensures.members before in
    (c.place_anew.ensures.short, words_stay es c.replace.new.guesses.entries js c.replace.ensures.keeps placed)

pub overflow_cast-next : goal.overflow_cast-next
overflow_cast-next c = grind (arith, common_steps)
