use Rattle.std.proofs.Common.{◌≡◌}
use Rattle.gl_calculus.specs.Forecast as Fo
use Rattle.gl_flow.specs.Network.{piece_steps}
use Rattle.gl_flow.specs.Plans.{plan}
use Rattle.gl_flow.proofs.network.Network.range_step.Given as goal

abbrev pub invariant-loop-i : goal.invariant-loop-i
invariant-loop-i l = piece_steps (plan l.self) (Fo.Piece.Reads l.r) l.from ≡ piece_steps (plan l.self) (Fo.Piece.Reads l.r) l.i
