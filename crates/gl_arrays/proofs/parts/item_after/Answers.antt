use Rattle.std.proofs.Common.{◌+◌, ◌≤◌, sym, arith}
use Rattle.gl_value.specs.Forms.{scalar_tree-Err, trees}
use Rattle.gl_value.specs.View.{value_tree}
use Rattle.gl_arrays.proofs.Windows.{far_rows}
use Rattle.gl_arrays.proofs.parts.item_after.Goals as goal

pub returns-in-None-clause-value : goal.returns-in-None-clause-value
returns-in-None-clause-value c =
    let far : 65536 ≤ c.args.row + c.args.i = omega (arith, c.in-None.ensures) in
    rw scalar_tree-Err (sym (far_rows (value_tree c.args.v.now) (c.args.row + c.args.i) (c.args.col + c.args.j) c.requires far))

pub returns-in-None-checked_add-clause-sound : goal.returns-in-None-checked_add-clause-sound
returns-in-None-checked_add-clause-sound c = grind (arith, trees)

pub returns-in-None-clause-sound : goal.returns-in-None-clause-sound
returns-in-None-clause-sound c = grind (arith, trees)
