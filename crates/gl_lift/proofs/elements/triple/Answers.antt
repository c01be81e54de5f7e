use Rattle.std.proofs.Common.{◌≡◌, false, refl, arith}
use Rattle.gl_calculus.specs.Values.Lift.{reaches, spread}
use Rattle.gl_value.specs.Forms.{scalar_tree-Err, trees}
use Rattle.gl_value.specs.View.{scalar_tree, value_tree}
use Rattle.gl_lift.proofs.Present.{reached_some, reached_none, and_false}
use Rattle.gl_lift.proofs.elements.triple.Goals as goal

pub returns-clause-value : goal.returns-clause-value
returns-clause-value g c = λ rule h.
    let x = reached_some (reaches (value_tree c.args.u.now) c.args.i c.args.j) (spread (value_tree c.args.u.now) c.args.i c.args.j) (scalar_tree c.in-Some.x.now) c.in-Some.ensures.value in
    let y = reached_some (reaches (value_tree c.args.v.now) c.args.i c.args.j) (spread (value_tree c.args.v.now) c.args.i c.args.j) (scalar_tree c.in-Some-reached.y.now) c.in-Some-reached.ensures.value in
    let z = reached_some (reaches (value_tree c.args.w.now) c.args.i c.args.j) (spread (value_tree c.args.w.now) c.args.i c.args.j) (scalar_tree c.in-Some-reached-2.z.now) c.in-Some-reached-2.ensures.value in
    rw (x.0, y.0, z.0, ← x.1, ← y.1, ← z.1) (h c.in-Some.x c.in-Some-reached.y c.in-Some-reached-2.z c.f.result c.f.ensures)

pub returns-in_default-reached-2-clause-value : goal.returns-in_default-reached-2-clause-value
returns-in_default-reached-2-clause-value g c = λ rule h.
    let none : reaches (value_tree c.args.w.now) c.args.i c.args.j ≡ false = reached_none (reaches (value_tree c.args.w.now) c.args.i c.args.j) (spread (value_tree c.args.w.now) c.args.i c.args.j) c.in_default-reached-2.ensures.value in
    rw (and_false (reaches (value_tree c.args.u.now) c.args.i c.args.j) (reaches (value_tree c.args.v.now) c.args.i c.args.j) (reaches (value_tree c.args.w.now) c.args.i c.args.j) none, scalar_tree-Err) refl

pub returns-in_default-clause-sound : goal.returns-in_default-clause-sound
returns-in_default-clause-sound g c = grind (arith, trees)

pub returns-in_default-clause-value : goal.returns-in_default-clause-value
returns-in_default-clause-value g c = grind (arith, trees)

pub returns-in_default-reached-2-clause-sound : goal.returns-in_default-reached-2-clause-sound
returns-in_default-reached-2-clause-sound g c = grind (arith, trees)

pub returns-in_default-reached-clause-sound : goal.returns-in_default-reached-clause-sound
returns-in_default-reached-clause-sound g c = grind (arith, trees)

pub returns-in_default-reached-clause-value : goal.returns-in_default-reached-clause-value
returns-in_default-reached-clause-value g c = grind (arith, trees)
