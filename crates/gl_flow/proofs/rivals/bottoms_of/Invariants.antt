use Rattle.gl_flow.proofs.Rivaling.{AreRaised}
use Rattle.gl_flow.proofs.rivals.bottoms_of.Given as goal

abbrev pub invariant-loop-k : goal.invariant-loop-k
invariant-loop-k l = AreRaised l.areas l.k l.bottoms.items
