use Rattle.std.proofs.Common.{Some, position, refl, sym, ap, ◌∙◌}
use Rattle.gl_demand.specs.View.{key_tree}
use Rattle.gl_intern.specs.Numbered.{pairs, firsts}
use Rattle.gl_intern.proofs.Pushing.{pushed_pairs, pushed_number}
use Rattle.gl_core.specs.contracts.short.ShortPartialEq.TheImpl.{ghosts as form}
use Rattle.gl_core.proofs.Shorts.{form_equality}
use Rattle.gl_core.proofs.placing.push.Goals as goal

pub returns-in-Ok-clause-pairs : goal.returns-in-Ok-clause-pairs
returns-in-Ok-clause-pairs c = ap (pairs key_tree) c.in-Ok.ensures.entries ∙ pushed_pairs form.eq form_equality key_tree c.args.keys.now.entries c.args.short c.args.key c.requires.new

pub returns-in-Ok-clause-number : goal.returns-in-Ok-clause-number
returns-in-Ok-clause-number c =
    ap (λ es. position (form.eq c.args.short) (firsts (pairs key_tree es))) c.in-Ok.ensures.entries
    ∙ pushed_number form.eq form_equality key_tree c.args.keys.now.entries c.args.short c.args.key c.requires.new
    ∙ ap Some (sym c.in-Ok.ensures.index)

pub returns-then-len-ge-MOST-clause-pairs : goal.returns-then-len-ge-MOST-clause-pairs
returns-then-len-ge-MOST-clause-pairs c = tt

pub returns-then-len-ge-MOST-clause-number : goal.returns-then-len-ge-MOST-clause-number
returns-then-len-ge-MOST-clause-number c = tt

pub returns-then-len-ge-MOST-clause-err : goal.returns-then-len-ge-MOST-clause-err
returns-then-len-ge-MOST-clause-err c = refl

pub returns-then-len-ge-MOST-clause-few : goal.returns-then-len-ge-MOST-clause-few
returns-then-len-ge-MOST-clause-few c = c.requires.few

pub returns-in-Ok-clause-err : goal.returns-in-Ok-clause-err
returns-in-Ok-clause-err c = tt

pub returns-clause-pairs : goal.returns-clause-pairs
returns-clause-pairs c = tt

pub returns-clause-number : goal.returns-clause-number
returns-clause-number c = tt
