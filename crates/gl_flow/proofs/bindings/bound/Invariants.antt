use Rattle.std.proofs.Common.{◌≡◌, drop}
use Rattle.std.specs.Rc.{rc_str_bytes}
use Rattle.gl_calculus.specs.Forecast as Fo
use Rattle.gl_flow.specs.Shapes.{bindings_of}
use Rattle.gl_flow.proofs.bindings.bound.Given as goal

abbrev pub invariant-loop-x : goal.invariant-loop-x
invariant-loop-x l = Fo.bound_shape (bindings_of (drop l.x-index l.bindings)) (rc_str_bytes l.name) ≡ Fo.bound_shape (bindings_of l.bindings) (rc_str_bytes l.name)
