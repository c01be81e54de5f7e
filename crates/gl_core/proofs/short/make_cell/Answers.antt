use Rattle.std.proofs.Common.{ap, ◌∙◌}
use Rattle.gl_value.specs.View.{sheet_tree, frame_tree}
use Rattle.gl_value.specs.Forms.{frame_tree-In}
use Rattle.gl_core.proofs.Shorts.{copy_numbered}
use Rattle.gl_core.proofs.short.make_cell.Goals as goal

pub returns-in-Ok-clause-short : goal.returns-in-Ok-clause-short
returns-in-Ok-clause-short c =
    let s = c.in-In.field-0 in
    let w = c.in-In.field-1 in
    copy_numbered c.frame_near.new.self (frame_tree c.args.e.now) (sheet_tree s.value) w.value c.args.a c.in-Ok.n (ap frame_tree c.in-In.is ∙ frame_tree-In s w) c.in-Ok.ensures.apart c.in-Ok.ensures.number
