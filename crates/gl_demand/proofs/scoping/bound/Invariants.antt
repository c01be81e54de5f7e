use Rattle.std.proofs.Common.{◌≡◌, drop}
use Rattle.std.specs.Rc.{rc_str_bytes}
use Rattle.gl_calculus.specs.Evaluation.Evaluation as E
use Rattle.gl_demand.specs.Scope.{bindings_of}
use Rattle.gl_demand.proofs.scoping.bound.Given as goal

abbrev pub invariant-loop-x : goal.invariant-loop-x
invariant-loop-x l = E.bound (bindings_of (drop l.x-index l.x-items)) (rc_str_bytes l.name) ≡ E.bound (bindings_of l.scope.bindings.items) (rc_str_bytes l.name)
