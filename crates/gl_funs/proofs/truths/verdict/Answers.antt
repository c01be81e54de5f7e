use Rattle.std.proofs.Common.{◌∙◌, sym, arith}
use Rattle.gl_value.specs.Forms.{trees}
use Rattle.gl_funs.specs.Rules.{joins, rule_of}
use Rattle.gl_funs.proofs.Folds.{verdict_err}
use Rattle.gl_funs.proofs.truths.verdict.Goals as goal

pub returns-in-Err-clause-value : goal.returns-in-Err-clause-value
returns-in-Err-clause-value c =
    verdict_err (joins c.args.quantity) (rule_of c.args.quantity) c.in-Some.x.now _ _ c.loop-x.verdict c.in-Err.kind c.in-Some.ensures.steps c.in-Err.is ∙ sym c.loop-x.invariant.2

pub loop-x-preserved : goal.loop-x-preserved
loop-x-preserved c = grind (arith, trees)

pub loop-x-preserved-in-Blank : goal.loop-x-preserved-in-Blank
loop-x-preserved-in-Blank c = grind (arith, trees)

pub returns-in-Err-clause-sound : goal.returns-in-Err-clause-sound
returns-in-Err-clause-sound c = grind (arith, trees)

pub returns-in_default-clause-sound : goal.returns-in_default-clause-sound
returns-in_default-clause-sound c = grind (arith, trees)
