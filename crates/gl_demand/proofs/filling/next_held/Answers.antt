use Rattle.std.proofs.Common.{ap, sym, subst, ◌∙◌, arith}
use Rattle.gl_cells.specs.Sheet.{sheet}
use Rattle.gl_value.specs.Forms.{frame_tree-Top, frame_tree-In, trees}
use Rattle.gl_value.specs.View.{frame_tree, sheet_tree}
use Rattle.gl_demand.specs.Filling.{IsFirst, is_held, is_filled}
use Rattle.gl_demand.proofs.Filled.{held_at_top, held_in_copy}
use Rattle.gl_demand.proofs.filling.next_held.Goals as goal

pub returns-in-Top : goal.returns-in-Top
returns-in-Top c =
    subst (λ e. IsFirst (is_held (sheet c.args.cells.now) e c.args.r.now c.args.after.now) c.next_content.result) (sym (ap frame_tree c.in-Top.is ∙ frame_tree-Top))
    (held_at_top (sheet c.args.cells.now) c.args.r.now c.args.after.now c.next_content.result c.next_content.ensures)

pub returns-in-In : goal.returns-in-In
returns-in-In c =
    let S = sheet c.args.cells.now in
    let r = c.args.r.now in
    let after = c.args.after.now in
    let w = c.in-In.field-1 in
    let found = c.next_filled.ensures in
    let own : IsFirst (is_filled S (sheet_tree c.in-In.s.value) r after) c.next_filled.result = rw c.deref.ensures at found in
    subst (λ e. IsFirst (is_held S e r after) c.next_filled.result) (sym (ap frame_tree c.in-In.is ∙ frame_tree-In c.in-In.s w))
    (held_in_copy S (sheet_tree c.in-In.s.value) w.value r after c.next_filled.result own)

pub next_filled-requires : goal.next_filled-requires
next_filled-requires c = grind (arith, trees)
