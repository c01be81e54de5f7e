use Rattle.std.proofs.Common.{◌≡◌, map, subst, arith, rules, IfOk}
use Rattle.gl_value.specs.Forms.{scalar_tree-Err, value_tree-One, trees}
use Rattle.gl_value.specs.View.{value_tree}
use Rattle.gl_arrays.specs.Stacks.{total, greatest}
use Rattle.gl_arrays.specs.declared.stacks.Axis.TheVariants.{Rows, Columns}
use Rattle.gl_arrays.proofs.Below.{below}
use Rattle.gl_arrays.proofs.Beside.{are_sound_trees, some_trees, some_rows, some_greatest_cols, vstack_fits, vstack_large}
use Rattle.gl_arrays.proofs.stacks.vstack.Goals as goal

pub fitting-requires-clause-some_rows : goal.fitting-requires-clause-some_rows
fitting-requires-clause-some_rows c =
    let h = some_rows (map value_tree c.args.parts.now) (are_sound_trees c.args.parts.now c.requires.2) (some_trees c.args.parts.now c.requires.0) in
    omega (arith, h)

pub fitting-requires-clause-some_cols : goal.fitting-requires-clause-some_cols
fitting-requires-clause-some_cols c =
    let h = some_greatest_cols (map value_tree c.args.parts.now) (are_sound_trees c.args.parts.now c.requires.2) (some_trees c.args.parts.now c.requires.0) in
    omega (arith, h)

pub table-requires-clause-some_rows : goal.table-requires-clause-some_rows
table-requires-clause-some_rows c =
    let h = some_rows (map value_tree c.args.parts.now) (are_sound_trees c.args.parts.now c.requires.2) (some_trees c.args.parts.now c.requires.0) in
    omega (arith, h, c.in-Some.ensures.some)

pub table-requires-clause-some_cols : goal.table-requires-clause-some_cols
table-requires-clause-some_cols c =
    let h = some_greatest_cols (map value_tree c.args.parts.now) (are_sound_trees c.args.parts.now c.requires.2) (some_trees c.args.parts.now c.requires.0) in
    omega (arith, h, c.in-Some.ensures.some)

pub returns-in-Some-clause-value : goal.returns-in-Some-clause-value
returns-in-Some-clause-value c =
    let parts = map value_tree c.args.parts.now in
    let rows : c.in-Some.m ≡ total Rows parts = omega (arith, c.in-Some.ensures.some) in
    let cols : c.in-Some.n ≡ greatest Columns parts = omega (arith, c.in-Some.ensures.some) in
    subst (λ t. IfOk c.table.result (λ r. value_tree r ≡ t))
    (vstack_fits parts c.in-Some.m c.in-Some.n (are_sound_trees c.args.parts.now c.requires.2) (some_trees c.args.parts.now c.requires.0) rows cols)
    (c.table.ensures.value (below parts) (λ i j r bi bj post. search rules))

pub returns-in-None-clause-value : goal.returns-in-None-clause-value
returns-in-None-clause-value c =
    let parts = map value_tree c.args.parts.now in
    rw (value_tree-One, scalar_tree-Err)
    (vstack_large parts c.total.result c.from-cols.result (are_sound_trees c.args.parts.now c.requires.2) (some_trees c.args.parts.now c.requires.0) c.total.ensures (omega arith) c.in-None.ensures.none)

pub returns-in-None-clause-sound : goal.returns-in-None-clause-sound
returns-in-None-clause-sound c = grind (arith, trees)
