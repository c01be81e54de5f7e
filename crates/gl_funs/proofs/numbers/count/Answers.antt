use Rattle.std.proofs.Common.{arith}
use Rattle.gl_value.specs.Forms.{trees}
use Rattle.gl_funs.specs.Elements.{elements_of}
use Rattle.gl_funs.proofs.Counts.{elements_few, numbers_few}
use Rattle.gl_funs.proofs.Folds.{count_more}
use Rattle.gl_funs.proofs.numbers.count.Goals as goal

pub overflow_add-numbers : goal.overflow_add-numbers
overflow_add-numbers c =
    let few = elements_few c.args.values.now c.requires.0 c.requires.1 in
    let most = numbers_few (elements_of c.args.values.now) in
    let known = count_more c.in-Some.x.now _ _ c.loop-x.numbers _ c.in-Int.field-0 c.in-Some.ensures.steps c.in-Int.is c.loop-x.invariant.2 in
    omega (arith, few, most, known)

pub loop-x-preserved-in-Int : goal.loop-x-preserved-in-Int
loop-x-preserved-in-Int c = grind (arith, trees)

pub returns-clause-sound : goal.returns-clause-sound
returns-clause-sound c = grind (arith, trees)

pub returns-clause-value : goal.returns-clause-value
returns-clause-value c = grind (arith, trees)
