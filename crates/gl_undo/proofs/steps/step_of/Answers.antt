use Rattle.std.proofs.Common.{◌≡◌, arith}
use Rattle.std.proofs.lemmas.Grind.{common_steps}
use Rattle.gl_calculus.specs.Edits.Steps as E
use Rattle.gl_cells.specs.Sheet.{sheet}
use Rattle.gl_undo.specs.View.{step_tree, changes_tree}
use Rattle.gl_undo.proofs.Places.{apart_step}
use Rattle.gl_undo.proofs.steps.step_of.Goals as goal

pub invariant_of-result : goal.invariant_of-result
invariant_of-result c =
    let inv = c.loop-place.invariant.1 in
    let xs = c.loop-place.changes.items in
    let S = sheet c.args.cells.now in
    let e = c.in-None.ensures.steps in
    let whole : step_tree xs ≡ E.step_of S (changes_tree c.args.list.items) = grind (arith, common_steps) in
    record { apart = apart_step S c.args.list.items xs whole c.requires.apart; before = inv.before; after = inv.after }
