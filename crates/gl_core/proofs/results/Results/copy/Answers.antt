use Rattle.std.proofs.Common.{sym, subst, ◌∙◌}
use Rattle.gl_calculus.specs.Calculation.Memory.{Notes}
use Rattle.gl_core.specs.Results.{AreResults}
use Rattle.gl_core.proofs.results.Results.copy.Goals as goal

pub invariant_of-result : goal.invariant_of-result
invariant_of-result c = (c.in_ok-ledger.ensures.kept, subst (λ (ns : Notes). AreResults ns) (sym c.in_ok-ledger.ensures.notes) c.self.invariant.1, c.new-carry.ensures c.in_ok-ledger.ledger)

pub returns : goal.returns
returns c = c.in_ok-ledger.ensures.notes ∙ c.self.view_is
