use Rattle.std.proofs.Common.{◌≡◌, ◌∙◌, ap, subst, IfOk, arith}
use Rattle.gl_value.specs.View.{value_tree, item_trees}
use Rattle.gl_value.specs.Forms.{value_tree-Array, array_tree_is, trees}
use Rattle.gl_lift.proofs.Arrays.{first_of_two, second_of_two}
use Rattle.gl_lift.proofs.lift2.Goals as goal

pub returns-in-Array-default-clause-value : goal.returns-in-Array-default-clause-value
returns-in-Array-default-clause-value g c = λ rule h.
    let a = c.in-Array-default.field-0-0 in
    subst (λ t. IfOk c.table_of_two-in-Array-default.result (λ r. value_tree r ≡ t))
    (first_of_two rule (value_tree c.args.u.now) (value_tree c.args.v.now) a.value.size (item_trees a.value.items.items) (ap value_tree c.in-Array-default.is-0 ∙ value_tree-Array a ∙ array_tree_is a.value))
    (c.table_of_two-in-Array-default.ensures.value rule h)

pub returns-clause-value : goal.returns-clause-value
returns-clause-value g c = λ rule h.
    let a = c.in_default-Array.field-0-1 in
    subst (λ t. IfOk c.table_of_two.result (λ r. value_tree r ≡ t))
    (second_of_two rule (value_tree c.args.u.now) (value_tree c.args.v.now) a.value.size (item_trees a.value.items.items) (ap value_tree c.in_default-Array.is-1 ∙ value_tree-Array a ∙ array_tree_is a.value))
    (c.table_of_two.ensures.value rule h)

pub returns-in-One-One-clause-sound : goal.returns-in-One-One-clause-sound
returns-in-One-One-clause-sound g c = grind (arith, trees)

pub returns-in-One-One-clause-value : goal.returns-in-One-One-clause-value
returns-in-One-One-clause-value g c = grind (arith, trees)
