use Rattle.std.proofs.Common.{◌≡◌}
use Rattle.std.specs.Vec.Iter.{into_iter_items}
use Rattle.gl_calculus.specs.Edits.Replicas.{taking_all}
use Rattle.gl_merge.specs.Index.{trees}
use Rattle.gl_merge.specs.Replica.{replica_tree}
use Rattle.gl_run.specs.Ready.{CanTakeThese}
use Rattle.gl_run.proofs.local.take_all.Given as goal

abbrev pub invariant-loop-e : goal.invariant-loop-e
invariant-loop-e l =
    ((goal.iterator-loop-e).can_next l.e-iterator × (goal.iterator-loop-e).is_finite l.e-iterator)
    × record {
      can : CanTakeThese l.replica (into_iter_items l.e-iterator);
      taken : taking_all (replica_tree l.replica) (trees (into_iter_items l.e-iterator)) ≡ taking_all (replica_tree l.fn.replica) (trees l.fn.edits.items);
    }
