use Rattle.std.proofs.Common.{arith}
use Rattle.std.proofs.lemmas.Grind.{common_steps}
use Rattle.gl_parse.proofs.Binding.{binding_rules}
use Rattle.gl_parse.proofs.applied.bound_variable.Goals as goal

pub returns-clause-cases : goal.returns-clause-cases
returns-clause-cases c = grind (arith, common_steps)

pub returns-then-not-is_let-clause-cases : goal.returns-then-not-is_let-clause-cases
returns-then-not-is_let-clause-cases c = grind (arith, binding_rules)
