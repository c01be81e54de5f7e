use Rattle.std.proofs.Common.{◌≡◌, ◌∷◌, ◌++◌, [], ap, sym, subst, ◌∙◌}
use Rattle.gl_calculus.specs.Computation.Notes.{Note}
use Rattle.gl_calculus.specs.Grid.Grid.{Range}
use Rattle.gl_calculus.specs.Evaluation.Key as K
use Rattle.gl_demand.specs.View.{key_tree}
use Rattle.gl_core.specs.State.{is_noted, IsSoundNote}
use Rattle.gl_core.specs.Numbers.{key_at}
use Rattle.gl_core.specs.Ledger.{written}
use Rattle.gl_core.proofs.Numbered.{key_is}
use Rattle.gl_core.proofs.Places.{on_ok}
use Rattle.gl_core.proofs.converting.add_row.Goals as goal

pub key-key-requires : goal.key-key-requires
key-key-requires c = c.requires.below.0

pub add_note-requires-clause-new : goal.add_note-requires-clause-new
add_note-requires-clause-new c =
    let k = c.key-key.result.now in
    let is : key_tree k ≡ key_at c.args.book.now c.args.row.now.by = sym (key_is c.args.book.now c.args.row.now.by (key_tree k) c.key-key.ensures) in
    ap (is_noted (written c.args.copy.now)) is ∙ c.requires.new

pub add_note-requires-clause-sound : goal.add_note-requires-clause-sound
add_note-requires-clause-sound c =
    let k = c.key-key.result.now in
    let is : key_tree k ≡ key_at c.args.book.now c.args.row.now.by = sym (key_is c.args.book.now c.args.row.now.by (key_tree k) c.key-key.ensures) in
    subst (λ (n : Note K.Key K.Outcome Range). IsSoundNote n) (sym (c.in_ok-note.ensures k is)) c.requires.sound

pub returns-clause-ok : goal.returns-clause-ok
returns-clause-ok c =
    let k = c.key-key.result.now in
    let is : key_tree k ≡ key_at c.args.book.now c.args.row.now.by = sym (key_is c.args.book.now c.args.row.now.by (key_tree k) c.key-key.ensures) in
    on_ok c.add_note.result c.add_note.ensures.ok (λ e. e ∙ ap (λ (n : Note K.Key K.Outcome Range). written c.args.copy.now ++ n ∷ []) (c.in_ok-note.ensures k is))
