use Rattle.std.proofs.Common.{subst, sym}
use Rattle.gl_machine.specs.Quiet.{IsQuiet}
use Rattle.gl_machine.specs.Remembered.{AreTrue}
use Rattle.gl_calculus.specs.Evaluation.Key.{same_key}
use Rattle.gl_ast.specs.View.{version_tree}
use Rattle.gl_cells.specs.Sheet.{sheet}
use Rattle.gl_demand.specs.Evaluators.{world_of}
use Rattle.gl_core.specs.State.{state_of, HaveSoundParts}
use Rattle.tests_evaluation.proofs.tests.notes.notes_after.Goals as goal
use Rattle.gl_calculus.specs.Evaluation.Evaluation.{program}

pub returns-in_ok-copy_notes-in-Ok-clause-true_notes : goal.returns-in_ok-copy_notes-in-Ok-clause-true_notes
returns-in_ok-copy_notes-in-Ok-clause-true_notes c =
    let e = c.args.at.now in
    let p = program (world_of e) in
    let quiet = subst (λ seeds. IsQuiet same_key p seeds (state_of c.in-Ok.quiet)) (sym c.in-Ok.ensures.seeds) c.in-Ok.ensures.quiet in
    let kept = c.in_ok-notes-in-Ok.ensures.notes (version_tree e.version) (sheet e.cells.now) e.oracle.now c.in-Ok.ensures.stays quiet in
    subst (AreTrue same_key p) (sym c.in_ok-copy_notes-in-Ok.ensures) (λ n m. (kept.each n m).1)

pub returns-in_ok-copy_notes-in-Ok-clause-sound_notes : goal.returns-in_ok-copy_notes-in-Ok-clause-sound_notes
returns-in_ok-copy_notes-in-Ok-clause-sound_notes c =
    let e = c.args.at.now in
    let p = program (world_of e) in
    let quiet = subst (λ seeds. IsQuiet same_key p seeds (state_of c.in-Ok.quiet)) (sym c.in-Ok.ensures.seeds) c.in-Ok.ensures.quiet in
    let kept = c.in_ok-notes-in-Ok.ensures.notes (version_tree e.version) (sheet e.cells.now) e.oracle.now c.in-Ok.ensures.stays quiet in
    subst HaveSoundParts (sym c.in_ok-copy_notes-in-Ok.ensures) (λ n m. (let s = kept.sound n m in record { key = s.key; outcome = s.outcome; reads = s.reads }))
