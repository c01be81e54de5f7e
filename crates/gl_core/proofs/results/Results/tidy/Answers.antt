use Rattle.std.proofs.Common.{sym, subst}
use Rattle.gl_calculus.specs.Calculation.Memory.{Notes}
use Rattle.gl_core.specs.Results.{AreResults}
use Rattle.gl_core.proofs.results.Results.tidy.Goals as goal

pub invariant_of-self : goal.invariant_of-self
invariant_of-self c = (c.give_back.ensures.kept, subst (λ (ns : Notes). AreResults ns) (sym c.give_back.ensures.notes) c.self.invariant.1, c.give_back.ensures.carry)
