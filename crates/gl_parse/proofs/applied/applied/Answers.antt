use Rattle.std.proofs.Common.{ap, sym, ◌∙◌}
use Rattle.gl_parse.specs.Raws.{letters, plains}
use Rattle.gl_parse.specs.Reading.{bound_by}
use Rattle.gl_parse.proofs.Forms.{tree-Apply}
use Rattle.gl_parse.proofs.Binding.{plain_applied}
use Rattle.gl_parse.proofs.applied.applied.Goals as goal

pub returns-in-None-clause-tree : goal.returns-in-None-clause-tree
returns-in-None-clause-tree c =
    let text = c.args.text.now in
    let word = letters text c.args.word in
    let none = ap (λ z. bound_by z (plains text c.args.xs.items)) (sym c.spelling.ensures) ∙ ap (λ z. bound_by c.spelling.result.now (plains text z)) (sym c.deref.ensures.value) ∙ c.in-None.ensures.cases text in
    tree-Apply text c.args.word c.args.xs ∙ sym (plain_applied word (plains text c.args.xs.items) none)
