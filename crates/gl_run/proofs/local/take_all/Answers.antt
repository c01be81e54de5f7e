use Rattle.std.proofs.Common.{◌∙◌, List, sym, ap, subst, arith}
use Rattle.std.proofs.lemmas.Grind.{common_steps}
use Rattle.std.specs.Vec.Iter.{into_iter_items}
use Rattle.gl_calculus.specs.Edits.Replicas.{Replica, taking_all}
use Rattle.gl_merge.specs.Edit.{EditValue}
use Rattle.gl_merge.specs.Index.{trees}
use Rattle.gl_merge.specs.Replica.{replica_tree}
use Rattle.gl_run.specs.Ready.{CanTakeThese}
use Rattle.gl_run.proofs.Readying.{first_of}
use Rattle.gl_run.proofs.local.take_all.Goals as goal

pub take-requires-clause-judged : goal.take-requires-clause-judged
take-requires-clause-judged c =
    let can = subst (CanTakeThese c.loop-e.replica) c.in-Some.ensures.steps.0 c.loop-e.invariant.1.can in
    (first_of c.loop-e.replica c.in-Some.e (into_iter_items c.next.new.self) can).takeable

pub take-requires-clause-room : goal.take-requires-clause-room
take-requires-clause-room c =
    let can = subst (CanTakeThese c.loop-e.replica) c.in-Some.ensures.steps.0 c.loop-e.invariant.1.can in
    (first_of c.loop-e.replica c.in-Some.e (into_iter_items c.next.new.self) can).room

pub loop-e-preserved : goal.loop-e-preserved
loop-e-preserved c =
    let rest = into_iter_items c.next.new.self in
    let can = subst (CanTakeThese c.loop-e.replica) c.in-Some.ensures.steps.0 c.loop-e.invariant.1.can in
    let f = first_of c.loop-e.replica c.in-Some.e rest can in (
      (tt, tt),
      record {
        can = f.rest c.take.new.self c.take.ensures.taken c.take.ensures.spare;
        taken =
            ap (λ (r : Replica). taking_all r (trees rest)) c.take.ensures.taken
            ∙ ap (λ (es : List EditValue). taking_all (replica_tree c.loop-e.replica) (trees es)) (sym c.in-Some.ensures.steps.0) ∙ c.loop-e.invariant.1.taken;
      },
    )

pub returns : goal.returns
returns c = grind (arith, common_steps)
