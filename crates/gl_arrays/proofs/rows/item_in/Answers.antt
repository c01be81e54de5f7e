use Rattle.std.proofs.Common.{◌≤◌, length, arith}
use Rattle.std.proofs.lemmas.Grind.{elements}
use Rattle.gl_value.specs.Forms.{scalar_tree-Err, trees}
use Rattle.gl_value.specs.View.{value_tree}
use Rattle.gl_arrays.proofs.Listed.{picked_past}
use Rattle.gl_arrays.proofs.rows.item_in.Goals as goal

pub returns-in-None-clause-value : goal.returns-in-None-clause-value
returns-in-None-clause-value c =
    let past : length c.args.rows.now ≤ c.args.i = omega (arith, c.in-None.ensures.lookup) in
    rw scalar_tree-Err (picked_past (value_tree c.args.v.now) c.args.rows.now c.args.i c.args.j past)

pub returns-in-None-clause-sound : goal.returns-in-None-clause-sound
returns-in-None-clause-sound c = grind (arith, trees)

pub returns-in-Some-clause-value : goal.returns-in-Some-clause-value
returns-in-Some-clause-value c = grind (arith, elements)
