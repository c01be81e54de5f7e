use Rattle.std.proofs.Common.{◌∙◌, ap, arith}
use Rattle.std.proofs.lemmas.Grind.{common_steps}
use Rattle.std.proofs.lemmas.List.{take_all}
use Rattle.gl_support.specs.Reach.{is_marked}
use Rattle.gl_support.proofs.reach.marked.Goals as goal

pub loop-i-preserved : goal.loop-i-preserved
loop-i-preserved c = grind (arith, common_steps)

pub returns-clause-all : goal.returns-clause-all
returns-clause-all c = λ i. c.loop-i.invariant.all i ∙ ap (λ ms. is_marked ms i) (take_all c.loop-i.i c.args.marks.now (omega arith))
