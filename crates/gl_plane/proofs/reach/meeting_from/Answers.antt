use Rattle.std.proofs.Common.{◌<◌, get_or, ◌∙◌, ap, sym, arith}
use Rattle.std.proofs.lemmas.Grind.{common_steps}
use Rattle.gl_plane.proofs.Meetings.{rest_passed}
use Rattle.gl_plane.proofs.reach.meeting_from.Goals as goal

pub returns-then-row-bottom : goal.returns-then-row-bottom
returns-then-row-bottom c =
    let bottom = c.row-bottom.ensures.value ∙ ap (λ r. r.last.row) c.range.view_is in
    let root = c.row.ensures.value ∙ ap (λ e. e.root.row) (c.entry.view_is ∙ c.index-entries-i.is) in
    let low : c.args.range.now.last.row < (get_or c.args.entries.now c.loop-i.i c.index-entries-i.result).root.row = omega (arith, bottom, root, c.if-row-bottom.true) in
    sym (rest_passed c.args.range.now c.args.entries.now c.loop-i.i c.index-entries-i.result c.requires.ordered c.loop-i-test.true low) ∙ c.loop-i.invariant

pub loop-i-preserved : goal.loop-i-preserved
loop-i-preserved c = grind (arith, common_steps)

pub returns-then-spills_into : goal.returns-then-spills_into
returns-then-spills_into c = grind (arith, common_steps)
