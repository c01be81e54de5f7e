use Rattle.std.proofs.Common.{sym, ap, subst}
use Rattle.gl_calculus.specs.Edits.Steps.{History}
use Rattle.gl_run.specs.Ready.{CanCommit, Commits}
use Rattle.gl_run.specs.Script.{script_of}
use Rattle.gl_run.specs.declared.local.Ready.{Ready}
use Rattle.gl_run.proofs.local.commit.Goals as goal

pub take_own-requires : goal.take_own-requires
take_own-requires c = subst (λ (z : Ready). CanCommit c.args.script.now z) c.in-Edits.is c.requires

pub returns-in-Step-clause-commits : goal.returns-in-Step-clause-commits
returns-in-Step-clause-commits c =
    let x = c.args.script.now in
    let s' = script_of (record x { history = c.push.new.self }) in
    subst (λ (z : Ready). Commits x z s') (sym c.in-Step.is) (ap (λ (h : History). record (script_of x) { history = h }) c.push.ensures)

pub returns-in-Edits-clause-commits : goal.returns-in-Edits-clause-commits
returns-in-Edits-clause-commits c = subst (λ (z : Ready). Commits c.args.script.now z (script_of c.take_own.new.script)) (sym c.in-Edits.is) c.take_own.ensures.takes
