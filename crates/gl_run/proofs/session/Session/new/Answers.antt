use Rattle.std.proofs.Common.{ap, arith}
use Rattle.std.proofs.lemmas.Grind.{common_steps}
use Rattle.gl_protocol.specs.Run.Known.{Known}
use Rattle.gl_run.specs.State.{fresh}
use Rattle.gl_run.proofs.session.Session.new.Goals as goal

pub returns-clause-state : goal.returns-clause-state
returns-clause-state c = λ n. ap (λ (K : Known). fresh K n) c.in_ok-script.ensures

pub invariant_of-result : goal.invariant_of-result
invariant_of-result c = grind (arith, common_steps)
