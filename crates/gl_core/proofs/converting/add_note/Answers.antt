use Rattle.std.proofs.Common.{List, IsTrue, Some, map, ap, sym, subst, ◌∙◌}
use Rattle.gl_calculus.specs.Evaluation.Key as K
use Rattle.gl_calculus.specs.Evaluation.Sound.{is_sound_key}
use Rattle.gl_demand.specs.View.{key_tree, outcome_tree}
use Rattle.gl_demand.specs.Sound.{AreSoundKeys}
use Rattle.gl_demand.specs.declared.key.Key.{Key}
use Rattle.gl_core.specs.Numbers.{AreNumbers}
use Rattle.gl_core.proofs.Places.{on_ok}
use Rattle.gl_core.proofs.Converted.{number_there, number_new, note_sound, note_added}
use Rattle.gl_core.proofs.converting.add_note.Goals as goal

pub number-requires-clause-sound : goal.number-requires-clause-sound
number-requires-clause-sound c = subst (λ (k : K.Key). IsTrue (is_sound_key k)) (sym c.in_ok-key.ensures) c.requires.sound.key

pub numbers-requires-clause-sound : goal.numbers-requires-clause-sound
numbers-requires-clause-sound c = subst (λ (ks : List Key). AreSoundKeys (map key_tree ks)) (sym c.deref.ensures.value) c.requires.sound.reads

pub add-requires-clause-there : goal.add-requires-clause-there
add-requires-clause-there c =
    number_there c.args.ledger.now c.number.new.self c.numbers.new.self c.requires.kept c.number.ensures.grows c.number.ensures.rows c.numbers.ensures.grows c.numbers.ensures.rows (key_tree c.args.key.now) c.in_ok-by.by (c.in_ok-by.ensures.number ∙ ap Some c.in_ok-key.ensures)

pub add-requires-clause-new : goal.add-requires-clause-new
add-requires-clause-new c =
    number_new c.args.ledger.now c.number.new.self c.numbers.new.self c.requires.kept c.number.ensures.grows c.number.ensures.rows c.numbers.ensures.grows c.numbers.ensures.rows (key_tree c.args.key.now) c.in_ok-by.by (c.in_ok-by.ensures.number ∙ ap Some c.in_ok-key.ensures) c.requires.new

pub add-requires-clause-sound : goal.add-requires-clause-sound
add-requires-clause-sound c =
    let reads : AreNumbers c.numbers.new.self.book c.in_ok-reads.reads.items (map key_tree c.args.note.now.reads.items) = subst (λ (ks : List Key). AreNumbers c.numbers.new.self.book c.in_ok-reads.reads.items (map key_tree ks)) c.deref.ensures.value c.in_ok-reads.ensures.numbers in
    note_sound c.args.ledger.now c.number.new.self c.numbers.new.self c.requires.kept c.number.ensures.grows c.number.ensures.rows c.numbers.ensures.grows c.numbers.ensures.rows (key_tree c.args.key.now) c.in_ok-by.by (c.in_ok-by.ensures.number ∙ ap Some c.in_ok-key.ensures)
    c.in_ok-outcome.outcome c.in_ok-reads.reads c.in_ok-looked.looked (outcome_tree c.args.note.now.outcome) (map key_tree c.args.note.now.reads.items) c.args.note.now.looked.items c.in_ok-outcome.ensures reads (c.in_ok-looked.ensures.items ∙ c.deref-2.ensures.value) c.requires.sound

pub returns-clause-ok : goal.returns-clause-ok
returns-clause-ok c =
    let reads : AreNumbers c.numbers.new.self.book c.in_ok-reads.reads.items (map key_tree c.args.note.now.reads.items) = subst (λ (ks : List Key). AreNumbers c.numbers.new.self.book c.in_ok-reads.reads.items (map key_tree ks)) c.deref.ensures.value c.in_ok-reads.ensures.numbers in
    on_ok c.add.result c.add.ensures.rows (λ r.
    note_added c.args.ledger.now c.number.new.self c.numbers.new.self c.requires.kept c.number.ensures.grows c.number.ensures.rows c.numbers.ensures.grows c.numbers.ensures.rows (key_tree c.args.key.now) c.in_ok-by.by (c.in_ok-by.ensures.number ∙ ap Some c.in_ok-key.ensures)
    c.in_ok-outcome.outcome c.in_ok-reads.reads c.in_ok-looked.looked (outcome_tree c.args.note.now.outcome) (map key_tree c.args.note.now.reads.items) c.args.note.now.looked.items c.in_ok-outcome.ensures reads (c.in_ok-looked.ensures.items ∙ c.deref-2.ensures.value) c.add.new.self c.add.ensures.book r)
