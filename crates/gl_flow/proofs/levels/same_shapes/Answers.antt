use Rattle.std.proofs.Common.{arith}
use Rattle.gl_flow.proofs.Leveling.{same_shapes}
use Rattle.gl_flow.proofs.levels.same_shapes.Goals as goal

pub returns : goal.returns
returns c = λ e. same_shapes c.args.xs.now c.args.ys.now c.loop-i.i (omega (arith, c.if-xs-ys.false)) (omega (arith, c.loop-i-test.false, c.loop-i.auto.i-end)) c.loop-i.invariant
