use Rattle.std.proofs.Common.{subst, sym}
use Rattle.gl_calculus.specs.Explanation.Certificate.{start}
use Rattle.gl_calculus.specs.Steps.Walk.{AllowsPart}
use Rattle.gl_demand.specs.View.{key_tree}
use Rattle.gl_explain.specs.Walked.{IsFound}
use Rattle.gl_explain.proofs.Endings.{explained_work}
use Rattle.gl_explain.proofs.explaining.decided.Goals as goal
use Rattle.gl_demand.specs.Evaluators.{world_of}

pub returns-in-Ok-Full-clause-explained : goal.returns-in-Ok-Full-clause-explained
returns-in-Ok-Full-clause-explained g c =
    let W = world_of c.args.evaluator.now in
    let r = key_tree c.args.root.now in
    explained_work W c.args.a r c.requires c.args.steps.now c.walk.new.steps (subst (IsFound W r c.args.steps.now c.walk.new.steps) c.in-Ok-Full.field-0-is c.in-Ok-Full.ensures.found)

pub returns-in-Ok-Ended-clause-part : goal.returns-in-Ok-Ended-clause-part
returns-in-Ok-Ended-clause-part g c = subst (λ o. AllowsPart (world_of c.args.evaluator.now) (start o) c.args.steps.now c.walk.new.steps) (sym c.requires) c.walk.ensures.part

pub returns-in-Ok-Full-clause-part : goal.returns-in-Ok-Full-clause-part
returns-in-Ok-Full-clause-part g c = subst (λ o. AllowsPart (world_of c.args.evaluator.now) (start o) c.args.steps.now c.walk.new.steps) (sym c.requires) c.walk.ensures.part

pub returns-in-Err-clause-part : goal.returns-in-Err-clause-part
returns-in-Err-clause-part g c = subst (λ o. AllowsPart (world_of c.args.evaluator.now) (start o) c.args.steps.now c.walk.new.steps) (sym c.requires) c.walk.ensures.part
