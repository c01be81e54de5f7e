use Rattle.std.proofs.Common.{◌∙◌}
use Rattle.gl_parse.specs.Raws.{letters}
use Rattle.gl_parse.proofs.Forms.{let_is}
use Rattle.gl_parse.proofs.Binding.{let_taken}
use Rattle.gl_parse.proofs.applied.binding.Goals as goal

pub returns-clause-tree : goal.returns-clause-tree
returns-clause-tree c = λ text word bound.
    let_is text c.args.name c.in_ok-new.field-0 c.in_ok-new-2.field-0 _ _ c.in_ok-new.ensures.ok c.in_ok-new-2.ensures.ok
    ∙ let_taken text word c.args.xs.items _ (letters text c.args.name) _ _ c.requires bound c.remove-value.ensures.value c.remove-value.ensures.items c.remove-body.ensures.value
