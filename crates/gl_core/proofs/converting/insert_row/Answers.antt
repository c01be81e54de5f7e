use Rattle.std.proofs.Common.{◌≡◌, ◌∷◌, ◌++◌, [], ap, sym, ◌∙◌}
use Rattle.gl_calculus.specs.Computation.Notes.{Note}
use Rattle.gl_calculus.specs.Grid.Grid.{Range}
use Rattle.gl_calculus.specs.Evaluation.Key as K
use Rattle.gl_memo.specs.Notes.{notes_of}
use Rattle.gl_demand.specs.View.{key_tree}
use Rattle.gl_core.specs.State.{note_trees, is_noted}
use Rattle.gl_core.specs.Numbers.{key_at}
use Rattle.gl_core.proofs.Numbered.{key_is}
use Rattle.gl_core.proofs.Notes.{inserted_last}
use Rattle.gl_core.proofs.Places.{on_ok}
use Rattle.gl_core.proofs.converting.insert_row.Goals as goal

pub key-requires : goal.key-requires
key-requires c = c.requires.0

pub returns : goal.returns
returns c =
    let old = notes_of c.args.notes.now in
    let k = c.in_ok-key.key in
    let is : key_tree k ≡ key_at c.args.book.now c.args.row.now.by = c.in_ok-key.ensures ∙ sym (key_is c.args.book.now c.args.row.now.by (key_tree c.key.result.now) c.key.ensures) in
    on_ok c.insert.result c.insert.ensures.ok (λ e none.
    ap note_trees e ∙ inserted_last old k c.in_ok-note.note (ap (is_noted (note_trees old)) is ∙ none) ∙ ap (λ (n : Note K.Key K.Outcome Range). note_trees old ++ n ∷ []) (c.in_ok-note.ensures k is))
