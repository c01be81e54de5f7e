use Rattle.std.proofs.Common.{◌≡◌}
use Rattle.gl_flow.specs.Network.{value_steps}
use Rattle.gl_flow.specs.Plans.{plan}
use Rattle.gl_flow.proofs.network.Network.value_step.Given as goal

abbrev pub invariant-loop-part : goal.invariant-loop-part
invariant-loop-part l = value_steps (plan l.self) l.k l.fn.place.part l.fn.place.offset ≡ value_steps (plan l.self) l.k l.part l.offset
