use Rattle.std.proofs.Common.{arith}
use Rattle.gl_core.proofs.Indexing.{all_zero}
use Rattle.gl_core.proofs.index.forget.Goals as goal

pub returns-clause-none : goal.returns-clause-none
returns-clause-none c = all_zero c.loop-n.places.items c.loop-n.n (omega (arith, c.loop-n-test.false, c.loop-n.invariant.size)) c.loop-n.invariant.none
