use Rattle.std.proofs.Common.{◌∙◌, sym, arith}
use Rattle.gl_value.specs.Forms.{trees}
use Rattle.gl_funs.specs.Rules.{better}
use Rattle.gl_funs.proofs.Folds.{extreme_err}
use Rattle.gl_funs.proofs.numbers.extreme.Goals as goal

pub returns-in-Err-clause-value : goal.returns-in-Err-clause-value
returns-in-Err-clause-value c =
    extreme_err (better c.args.end) c.in-Some.x.now _ _ c.loop-x.found c.in-Err.kind c.in-Some.ensures.steps c.in-Err.is ∙ sym c.loop-x.invariant.2

pub loop-x-preserved-in-Int : goal.loop-x-preserved-in-Int
loop-x-preserved-in-Int c = grind (arith, trees)

pub returns-clause-sound : goal.returns-clause-sound
returns-clause-sound c = grind (arith, trees)

pub returns-clause-value : goal.returns-clause-value
returns-clause-value c = grind (arith, trees)

pub returns-in-Err-clause-sound : goal.returns-in-Err-clause-sound
returns-in-Err-clause-sound c = grind (arith, trees)

pub returns-in-Sheet-clause-sound : goal.returns-in-Sheet-clause-sound
returns-in-Sheet-clause-sound c = grind (arith, trees)

pub returns-in-Sheet-clause-value : goal.returns-in-Sheet-clause-value
returns-in-Sheet-clause-value c = grind (arith, trees)
