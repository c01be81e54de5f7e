use Rattle.std.proofs.Common.{is_some, ap, Option, option_map, unwrap_or, arith}
use Rattle.gl_cells.specs.declared.content.Content.{Content}
use Rattle.gl_cells.specs.Content.{content_tree, form_weight}
use Rattle.gl_cells.proofs.TableLemmas.{count_take, table_take}
use Rattle.gl_cells.proofs.table.remove_in.Goals as goal

pub overflow_sub-forms : goal.overflow_sub-forms
overflow_sub-forms c =
    let e = ap (λ (o : Option Content). unwrap_or (option_map (λ x. form_weight (content_tree x)) o) 0) c.remove-was.ensures.value in
    omega (arith, count_take c.args.map.now c.args.a, c.requires.table.counted, e, c.weight_of.ensures)

pub returns-clause-table : goal.returns-clause-table
returns-clause-table c =
    let e = ap (λ (o : Option Content). unwrap_or (option_map (λ x. form_weight (content_tree x)) o) 0) c.remove-was.ensures.value in
    table_take c.args.map.now c.remove-was.new.self c.args.forms.now _ c.args.a c.requires.table c.remove-was.ensures.entries c.remove-was.ensures.ordered
    (omega (arith, count_take c.args.map.now c.args.a, c.requires.table.counted, e, c.weight_of.ensures))

pub returns-clause-present : goal.returns-clause-present
returns-clause-present c = ap is_some c.remove-was.ensures.value

pub returns-clause-others : goal.returns-clause-others
returns-clause-others c = c.remove-was.ensures.others
