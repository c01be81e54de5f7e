use Rattle.std.proofs.Common.{arith}
use Rattle.std.proofs.lemmas.Grind.{elements}
use Rattle.gl_memo.specs.Notes.{notes_of}
use Rattle.gl_core.proofs.Converted.{pair_at, sound_at}
use Rattle.gl_core.proofs.converting.add_note_at.Goals as goal

pub add_note-requires-clause-sound : goal.add_note-requires-clause-sound
add_note-requires-clause-sound c =
    let es = notes_of c.args.notes.now in
    let is = pair_at c.at.result es c.args.i c.unwrap.result c.at.ensures c.unwrap.ensures in
    sound_at es c.args.i (c.unwrap.result.0.now, c.unwrap.result.1.now) c.requires.sound is

pub add_note-requires-clause-new : goal.add_note-requires-clause-new
add_note-requires-clause-new c =
    let is = pair_at c.at.result (notes_of c.args.notes.now) c.args.i c.unwrap.result c.at.ensures c.unwrap.ensures in
    c.requires.new (c.unwrap.result.0.now, c.unwrap.result.1.now) is

pub unwrap-requires : goal.unwrap-requires
unwrap-requires c = grind (arith, elements)
