use Rattle.std.proofs.Common.{ap, sym, subst, Option, IfSome, option_map, unwrap_or, arith}
use Rattle.gl_language.specs.Reading.Content.{IsProperContent}
use Rattle.gl_cells.specs.declared.content.Content.{Content}
use Rattle.gl_cells.specs.Content.{content_tree, form_weight}
use Rattle.gl_cells.proofs.TableLemmas.{few_forms, one_at_most, count_put, table_put, proper_at}
use Rattle.gl_cells.proofs.table.put_in.Goals as goal

pub overflow_add-forms : goal.overflow_add-forms
overflow_add-forms c =
    omega (arith, few_forms c.args.map.now, c.requires.table.counted, one_at_most (content_tree c.args.c), c.len-len.ensures.len, c.len-len.ensures.small)

pub overflow_sub-forms : goal.overflow_sub-forms
overflow_sub-forms c =
    let e = ap (λ (o : Option Content). unwrap_or (option_map (λ x. form_weight (content_tree x)) o) 0) c.in-Ok.ensures.old in
    omega (arith, count_put c.args.map.now c.args.a c.args.c c.requires.table.ordered, c.requires.table.counted, e, c.weight_of.ensures)

pub returns-in-Ok-clause-was : goal.returns-in-Ok-clause-was
returns-in-Ok-clause-was c = (
  c.in-Ok.ensures.old,
  subst (λ (o : Option Content). IfSome o (λ x. IsProperContent (content_tree x))) (sym c.in-Ok.ensures.old) (proper_at _ c.args.map.now c.requires.table.proper),
)

pub returns-in-Ok-clause-table : goal.returns-in-Ok-clause-table
returns-in-Ok-clause-table c =
    let e = ap (λ (o : Option Content). unwrap_or (option_map (λ x. form_weight (content_tree x)) o) 0) c.in-Ok.ensures.old in
    table_put c.args.map.now c.insert.new.self c.args.forms.now _ c.args.a c.args.c c.requires.table c.requires.proper c.row-row.ensures.sound c.in-Ok.ensures.entries c.insert.ensures.ordered
    (omega (arith, count_put c.args.map.now c.args.a c.args.c c.requires.table.ordered, c.requires.table.counted, e, c.weight_of.ensures))
