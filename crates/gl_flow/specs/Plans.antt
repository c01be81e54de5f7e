-- The plan that a network reads its steps off.
use Rattle.gl_flow.specs.Network.{Plan}
use Rattle.gl_flow.specs.Planning.{plan_of}
use Rattle.gl_flow.specs.declared.network.Network.{Network}

abbrev pub plan : Network → Plan
plan net = plan_of net.places.items net.pieces.items net.areas.items net.columns.items
