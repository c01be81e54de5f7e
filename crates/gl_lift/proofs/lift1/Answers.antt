use Rattle.std.proofs.Common.{◌≡◌, ◌∙◌, ap, subst, IfOk, arith}
use Rattle.gl_value.specs.View.{value_tree, item_trees}
use Rattle.gl_value.specs.Forms.{value_tree-Array, array_tree_is, trees}
use Rattle.gl_lift.proofs.Arrays.{one_array}
use Rattle.gl_lift.proofs.lift1.Goals as goal

pub returns-clause-value : goal.returns-clause-value
returns-clause-value g c = λ rule h.
    let a = c.in-Array.field-0 in
    subst (λ t. IfOk c.table_of_one.result (λ r. value_tree r ≡ t))
    (one_array rule (value_tree c.args.v.now) a.value.size (item_trees a.value.items.items) (ap value_tree c.in-Array.is ∙ value_tree-Array a ∙ array_tree_is a.value))
    (c.table_of_one.ensures.value rule h)

pub returns-in-One-clause-sound : goal.returns-in-One-clause-sound
returns-in-One-clause-sound g c = grind (arith, trees)

pub returns-in-One-clause-value : goal.returns-in-One-clause-value
returns-in-One-clause-value g c = grind (arith, trees)
