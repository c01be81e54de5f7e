-- The plan of the calls to come.
use Rattle.gl_port.specs.declared.calls.Calls.{Calls}
use Rattle.gl_protocol.specs.Run.Plans.{Plan}

abbrev pub plan_of : Calls → Plan
plan_of c = record { next = c.next; failing = c.failing.items; step = c.step }
